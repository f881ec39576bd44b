-- silences
-- Each row computes.
use Rattle.std.proofs.Common.{refl}
use Rattle.ppp_fsm.specs.Fsm.{acts_of, after}
use Rattle.ppp_packet.specs.OptionList.{items_of, read_options}
use Rattle.ppp_control.specs.Answers.{answer_to}
use Rattle.ppp_lcp.specs.Ours.{Asked, word_of, skipped}
use Rattle.ppp_lcp.proofs.laws.silences.Goals as goal

pub returns-clause-lawful : goal.returns-clause-lawful
unfolding acts_of after read_options items_of answer_to Asked word_of skipped
returns-clause-lawful c limits = (record { event = refl; acts = refl; packets = refl }, (record { event = refl; acts = refl; packets = refl }, (record { event = refl; acts = refl; packets = refl }, (record { event = refl; acts = refl; packets = refl }, (record { event = refl; acts = refl; packets = refl }, (record { event = refl; acts = refl; packets = refl }, (record { event = refl; acts = refl; packets = refl }, (record { event = refl; acts = refl; packets = refl }, tt))))))))

pub returns-clause-before : goal.returns-clause-before
unfolding acts_of after read_options items_of answer_to Asked word_of skipped
returns-clause-before c limits = refl

pub returns-clause-found : goal.returns-clause-found
unfolding acts_of after read_options items_of answer_to Asked word_of skipped
returns-clause-found c limits = refl

pub returns-clause-own : goal.returns-clause-own
unfolding acts_of after read_options items_of answer_to Asked word_of skipped
returns-clause-own c limits = refl

pub returns-clause-answered : goal.returns-clause-answered
unfolding acts_of after read_options items_of answer_to Asked word_of skipped
returns-clause-answered c limits = refl
