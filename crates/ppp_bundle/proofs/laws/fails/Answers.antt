-- Each row computes.
use Rattle.std.proofs.Common.{refl}
use Rattle.ppp_fsm.specs.Fsm.{acts_of, after}
use Rattle.ppp_packet.specs.OptionList.{items_of, read_options}
use Rattle.ppp_packet.specs.PacketOf.{packet_in}
use Rattle.ppp_control.specs.Answers.{answer_to}
use Rattle.ppp_control.specs.Step.{step_sends, stepped}
use Rattle.ppp_bundle.proofs.laws.fails.Goals as goal

pub returns-clause-ended : goal.returns-clause-ended
unfolding acts_of after read_options items_of answer_to stepped step_sends packet_in
returns-clause-ended c lawful limits gather = refl

pub returns-clause-marks : goal.returns-clause-marks
unfolding acts_of after read_options items_of answer_to stepped step_sends packet_in
returns-clause-marks c lawful limits gather = refl
