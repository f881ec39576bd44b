use Rattle.std.specs.Prelude.{drop}
use Rattle.ppp_link_rules.specs.Sending.{packets_sent}
use Rattle.ppp_link_core.proofs.SendFacts.{Sends}
use Rattle.ppp_link_core.proofs.link_core.LinkCore.send_packets.Given as goal

abbrev pub invariant-loop-packet : goal.invariant-loop-packet
invariant-loop-packet g l = Sends l.fn.self l.self (packets_sent l.packets) (packets_sent (drop l.packet-index l.packets))
