-- Octets with a right length are a packet, and one alone.
use Rattle.std.proofs.Common.{◌≡◌, ◌∙◌, ◌-◌, ◌++◌, ap, sym, take, drop, rules, arith, inl, inr, Some, slice_index}
use Rattle.ppp_packet.specs.PacketOf.{length_field, HasBadLength}
use Rattle.ppp_packet.proofs.Packets.{packet_of, is_packet, two_octets, short_is_none, bad_is_none, good_is_some}
use Rattle.ppp_packet.proofs.packet.Packet.read.Goals as goal
use Rattle.ppp_packet.proofs.packet.Packet.read.Goals.{then-size-lt4-via-then-size-lt4, then-size-lt4-via-else-size-lt4+then-size-bytes, then-size-lt4-via-else-size-lt4+else-size-bytes+then-size-gt-MOST_FRAME}

pub returns-then-bytes-lt4-clause-function : goal.returns-then-bytes-lt4-clause-function
returns-then-bytes-lt4-clause-function c = sym (short_is_none c.args.bytes.now c.if-bytes-lt4.true)

pub returns-then-size-lt4-clause-function : goal.returns-then-size-lt4-clause-function
returns-then-size-lt4-clause-function c =
    let size : c.from-size.result ≡ length_field c.args.bytes.now = c.from-size.ensures ∙ c.read_u16.ensures ∙ two_octets c.args.bytes.now c.if-bytes-lt4.false in
    let bad : HasBadLength c.args.bytes.now = elim c.then-size-lt4.branch [
      | then-size-lt4-via-then-size-lt4 w ↦ inl (omega (arith, size, w.if-size-lt4.true))
      | then-size-lt4-via-else-size-lt4+then-size-bytes w ↦ inr (inl (omega (arith, size, w.if-size-bytes.true)))
      | then-size-lt4-via-else-size-lt4+else-size-bytes+then-size-gt-MOST_FRAME w ↦ inr (inr (omega (arith, size, w.if-size-gt-MOST_FRAME.true)))
    ] in
    sym (bad_is_none c.args.bytes.now c.if-bytes-lt4.false bad)

pub returns-clause-function : goal.returns-clause-function
returns-clause-function c =
    let size : c.from-size.result ≡ length_field c.args.bytes.now = c.from-size.ensures ∙ c.read_u16.ensures ∙ two_octets c.args.bytes.now c.if-bytes-lt4.false in
    let body : c.append.new.self ≡ take (c.from-size.result - 4) (drop 4 c.args.bytes.now) = c.append.ensures ∙ ap (λ o. o ++ take (c.from-size.result - 4) (drop 4 c.args.bytes.now)) c.new-body.ensures in
    ap (λ xs. Some (packet_of (slice_index c.args.bytes.now 0) (slice_index c.args.bytes.now 1) xs)) body
    ∙ sym (good_is_some c.args.bytes.now c.from-size.result c.if-bytes-lt4.false size c.if-size-lt4.false c.if-size-bytes.false c.if-size-gt-MOST_FRAME.false)

pub returns-clause-ok : goal.returns-clause-ok
returns-clause-ok c =
    let size : c.from-size.result ≡ length_field c.args.bytes.now = c.from-size.ensures ∙ c.read_u16.ensures ∙ two_octets c.args.bytes.now c.if-bytes-lt4.false in
    is_packet c.args.bytes.now c.from-size.result c.append.new.self c.if-bytes-lt4.false (search (rules, c.type_inv.bytes 3)) size c.if-size-lt4.false c.if-size-bytes.false c.if-size-gt-MOST_FRAME.false
    (c.append.ensures ∙ ap (λ o. o ++ take (c.from-size.result - 4) (drop 4 c.args.bytes.now)) c.new-body.ensures)
