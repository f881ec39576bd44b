-- What the call that reads a packet says of its octets, said of the octets alone.
use Rattle.std.proofs.Common.{◌≡◌, ℕ, List, Some, Result, Ok, Err, IfOk, sym, ap, subst, ◌∙◌}
use Rattle.std.specs.Result.{result_ok}
use Rattle.ppp_packet.specs.PacketOf.{PacketOf, packet_in}
use Rattle.ppp_packet.specs.declared.fault.PacketFault.{PacketFault}
use Rattle.ppp_packet.specs.declared.packet.Packet.{Packet}
use Rattle.ppp_packet.proofs.laws.the_function_is_the_grammar.Goals as goal

is_read : (octets : List ℕ) (result : Result Packet PacketFault) (packet : Packet) → IfOk result (λ found. PacketOf octets found)
    → result_ok result ≡ packet_in octets → packet_in octets ≡ Some packet → PacketOf octets packet
is_read octets (Ok found) packet ok same e =
    let one : found ≡ packet = cc (same ∙ e) in subst (λ (p : Packet). PacketOf octets p) one ok
is_read octets (Err fault) packet ok same e = absurd (cc (same ∙ e))

pub returns : goal.returns
returns c = λ packet. (
  is_read c.args.bytes.now c.read-read.result packet c.read-read.ensures.ok c.read-read.ensures.function,
  λ h. sym c.read-read.ensures.function ∙ ap result_ok (c.read-read.ensures.alone packet h),
)
