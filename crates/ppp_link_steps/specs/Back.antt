-- A reading and a writing come back: they are in, and what that leads to.
use Rattle.ppp_link_rules.specs.declared.errand.Errand.TheVariants.{Waiting}
use Rattle.ppp_link_rules.specs.declared.errand.ReadEnd.{ReadEnd}
use Rattle.ppp_link_rules.specs.declared.errand.SentEnd.{SentEnd}
use Rattle.ppp_link_rules.specs.LinkPart.{reading_back, writing_back}
use Rattle.ppp_link_rules.specs.LinkState.{LinkState}

abbrev pub with_reading_in : LinkState → LinkState
with_reading_in s = record s { reading = Waiting }

abbrev pub with_writing_in : LinkState → LinkState
with_writing_in s = record s { writing = Waiting }

abbrev pub reading_come : ReadEnd → LinkState → LinkState
reading_come how s = reading_back how (with_reading_in s)

abbrev pub writing_come : SentEnd → LinkState → LinkState
writing_come how s = writing_back how (with_writing_in s)
