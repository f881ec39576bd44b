-- Each call computes.
use Rattle.std.proofs.Common.{refl}
use Rattle.ppp_fsm.specs.Fsm.{acts_of, after}
use Rattle.ppp_packet.specs.OptionList.{items_of, read_options}
use Rattle.ppp_control.specs.Answers.{answer_to}
use Rattle.ppp_ipcp.proofs.laws.allows_by_lines.Goals as goal

pub returns : goal.returns
unfolding acts_of after read_options items_of answer_to
returns c limits = (record { event = refl; acts = refl; packets = refl }, (record { event = refl; acts = refl; packets = refl }, (record { event = refl; acts = refl; packets = refl }, (record { event = refl; acts = refl; packets = refl }, (record { event = refl; acts = refl; packets = refl }, (record { event = refl; acts = refl; packets = refl }, (record { event = refl; acts = refl; packets = refl }, (record { event = refl; acts = refl; packets = refl }, tt))))))))
