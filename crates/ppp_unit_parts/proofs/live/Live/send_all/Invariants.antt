use Rattle.std.proofs.Common.{◌≡◌, ℕ, ◌+◌, ◌*◌, ◌≤◌, List, length, drop}
use Rattle.ppp_packet.specs.declared.packet.Packet.{Packet}
use Rattle.ppp_unit_parts.specs.declared.live.Live.{Live}
use Rattle.ppp_unit_parts.specs.declared.outbox.Sending.{Sending}
use Rattle.ppp_unit_parts.specs.Fits.{Fits}
use Rattle.ppp_unit_parts.specs.Pieces.{all_sent, left_by_all}
use Rattle.ppp_unit_parts.proofs.live.Live.send_all.Given as goal

pub record SendsAll (index : ℕ) (packets : List Packet) (old now : Live) (was sent : List Sending) : Type 0 where
  pub rest : all_sent now (drop index packets) sent ≡ all_sent old packets was
  pub left : left_by_all now (drop index packets) ≡ left_by_all old packets
  pub same : now ≡ record old { pieces = now.pieces }
  pub few : length sent ≤ length was + 17 * index
  pub most : length packets ≤ 3
  pub fits : Fits now

abbrev pub invariant-sending : goal.invariant-sending
invariant-sending l = SendsAll l.packet-index l.list l.fn.self l.self l.fn.sent l.sent
