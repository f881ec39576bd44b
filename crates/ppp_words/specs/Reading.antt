-- A reader as what it has read.
use Rattle.ppp_words.specs.Steps.{State}
use Rattle.ppp_words.specs.declared.reader.Reader.{Reader}

abbrev pub state_of : Reader → State
state_of reader = record { place = reader.place; line = reader.line; word = reader.word; words = reader.words.items }
