-- Each row computes.
use Rattle.std.proofs.Common.{refl}
use Rattle.ppp_fsm.specs.Fsm.{acts_of, after}
use Rattle.ppp_packet.specs.OptionList.{items_of, read_options}
use Rattle.ppp_packet.specs.PacketOf.{packet_in}
use Rattle.ppp_control.specs.Answers.{answer_to}
use Rattle.ppp_control.specs.Step.{step_sends, stepped}
use Rattle.ppp_bundle.proofs.laws.passes_in_opened_alone.Goals as goal

pub returns-clause-dropped : goal.returns-clause-dropped
unfolding acts_of after read_options items_of answer_to stepped step_sends packet_in
returns-clause-dropped c lawful limits gather = refl

pub returns-clause-given : goal.returns-clause-given
unfolding acts_of after read_options items_of answer_to stepped step_sends packet_in
returns-clause-given c lawful limits gather = refl

pub returns-clause-sent : goal.returns-clause-sent
unfolding acts_of after read_options items_of answer_to stepped step_sends packet_in
returns-clause-sent c lawful limits gather = refl

pub returns-clause-stranger : goal.returns-clause-stranger
unfolding acts_of after read_options items_of answer_to stepped step_sends packet_in
returns-clause-stranger c lawful limits gather = refl

pub returns-clause-too_big : goal.returns-clause-too_big
unfolding acts_of after read_options items_of answer_to stepped step_sends packet_in
returns-clause-too_big c lawful limits gather = refl
