use Rattle.std.specs.Prelude.{drop}
use Rattle.ppp_link_rules.specs.Sending.{phase_sent}
use Rattle.ppp_link_core.proofs.SendFacts.{Sends}
use Rattle.ppp_link_core.proofs.link_core.LinkCore.send_phase.Given as goal

abbrev pub invariant-loop-packet : goal.invariant-loop-packet
invariant-loop-packet g l = Sends l.fn.self l.self (phase_sent l.packets) (phase_sent (drop l.packet-index l.packets))
