-- Each row computes.
use Rattle.std.proofs.Common.{refl}
use Rattle.ppp_fsm.specs.Fsm.{acts_of, after}
use Rattle.ppp_packet.specs.OptionList.{items_of, read_options}
use Rattle.ppp_packet.specs.PacketOf.{packet_in}
use Rattle.ppp_control.specs.Answers.{answer_to}
use Rattle.ppp_control.specs.Step.{step_sends, stepped}
use Rattle.ppp_bundle.proofs.laws.sends_pieces.Goals as goal

pub returns-clause-asks : goal.returns-clause-asks
unfolding acts_of after read_options items_of answer_to stepped step_sends packet_in
returns-clause-asks c lawful limits gather = refl

pub returns-clause-acks : goal.returns-clause-acks
unfolding acts_of after read_options items_of answer_to stepped step_sends packet_in
returns-clause-acks c lawful limits gather = refl

pub returns-clause-datagram : goal.returns-clause-datagram
unfolding acts_of after read_options items_of answer_to stepped step_sends packet_in
returns-clause-datagram c lawful limits gather = refl

pub returns-clause-first : goal.returns-clause-first
returns-clause-first c = refl
