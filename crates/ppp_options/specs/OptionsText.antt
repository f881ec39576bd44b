-- What the text of an options file is over no files: no word of it finds a file, also not the text itself.
use Rattle.std.specs.Prelude.{ℕ, List, [], Result}
use Rattle.ppp_chat_words.specs.Split.{FrontWords, split_front}
use Rattle.ppp_option_words.specs.ConfigValues.{ConfigValues}
use Rattle.ppp_option_words.specs.Results.{ok_then}
use Rattle.ppp_option_words.specs.declared.fault.OptionsFault.{OptionsFault}
use Rattle.ppp_words.specs.declared.backslash.Backslash.TheVariants.{Dropped}
use Rattle.ppp_options.specs.ConfigOf.{course_read}
use Rattle.ppp_options.specs.FileRead.{quote_of, unless_open}
use Rattle.ppp_options.specs.GivenValue.{GivenValue}
use Rattle.ppp_options.specs.InPlace.{Course, Open, behind_file, follow, in_place}
use Rattle.ppp_options.specs.Steps.{read_from}
use Rattle.ppp_options.specs.declared.given.Awaits.TheVariants.{Nothing}

-- its words in order, and the quote that is open behind them; the text has no name
abbrev pub course_of : FrontWords → Course
course_of front = follow (in_place [] 8 Nothing front.words) (behind_file (quote_of [] front.open_quote) (λ awaits. record { entries = []; ending = Open awaits }))

-- A configuration, or a fault.
abbrev pub OptionsOf : List ℕ → Result ConfigValues OptionsFault
OptionsOf text = course_read [] (course_of (split_front Dropped text))

-- The same, one word after another, as the private calls do it.
abbrev pub front_taken : GivenValue → FrontWords → Result GivenValue OptionsFault
front_taken given front = ok_then (read_from [] 8 given front.words) (unless_open (quote_of [] front.open_quote))
