-- Each call computes.
use Rattle.std.proofs.Common.{refl}
use Rattle.ppp_fsm.specs.Fsm.{acts_of, after}
use Rattle.ppp_packet.specs.OptionList.{items_of, read_options}
use Rattle.ppp_control.specs.Answers.{answer_to}
use Rattle.ppp_ipcp.proofs.laws.lives.Goals as goal

pub returns-clause-lawful : goal.returns-clause-lawful
unfolding acts_of after read_options items_of answer_to
returns-clause-lawful c limits = (record { event = refl; acts = refl; packets = refl }, (record { event = refl; acts = refl; packets = refl }, (record { event = refl; acts = refl; packets = refl }, (record { event = refl; acts = refl; packets = refl }, (record { event = refl; acts = refl; packets = refl }, (record { event = refl; acts = refl; packets = refl }, (record { event = refl; acts = refl; packets = refl }, tt)))))))

pub returns-clause-before : goal.returns-clause-before
unfolding acts_of after read_options items_of answer_to
returns-clause-before c limits = refl

pub returns-clause-agreed : goal.returns-clause-agreed
unfolding acts_of after read_options items_of answer_to
returns-clause-agreed c limits = refl

pub returns-clause-behind : goal.returns-clause-behind
unfolding acts_of after read_options items_of answer_to
returns-clause-behind c limits = refl

pub returns-clause-by_one_line : goal.returns-clause-by_one_line
returns-clause-by_one_line c = ((refl, refl), ((refl, refl), ((refl, refl), (tt, (tt, tt)))))
