use Rattle.std.proofs.Common.{◌≡◌, ◌++◌, ℕ, List, arith, sym, ap, ◌∙◌, length}
use Rattle.circular_buffer.specs.Buffer.{buffer}
use Rattle.ppp_base.specs.declared.send_settings.SendSettings.{SendSettings}
use Rattle.ppp_hdlc.specs.Encoding.{enclosed, flagged, fcs_octets, address, protocol_field}
use Rattle.ppp_hdlc.proofs.Escaping.{enclosed-is}
use Rattle.ppp_hdlc.proofs.encode.enclose.Goals as goal

-- what is written of these pieces is the frame
pieces : (settings : SendSettings) (protocol : ℕ) (information front at back items : List ℕ) → items ≡ address settings protocol ++ protocol_field settings protocol → front ≡ items → at ≡ items → back ≡ fcs_octets (at ++ information)
    → flagged settings.map ((front ++ information) ++ back) ≡ enclosed settings protocol information
pieces settings protocol information front at back items items_are front_is at_is back_is =
    rw (back_is, at_is, front_is, items_are) (sym (enclosed-is settings protocol information))

pub returns-then-not-has_room-clause-fits : goal.returns-then-not-has_room-clause-fits
returns-then-not-has_room-clause-fits c =
    let same = ap length (pieces c.args.settings c.args.protocol c.args.information.now c.as_slice-2.result.now c.as_slice.result.now c.back_of-back.result c.front_of-front.result.items c.front_of-front.ensures c.as_slice-2.ensures.value c.as_slice.ensures.value c.back_of-back.ensures) in
    grind (arith, same, c.has_room.ensures, c.if-not-has_room.true, c.capacity.ensures, c.len.ensures)

pub returns-clause-fits : goal.returns-clause-fits
returns-clause-fits c =
    let same = ap length (pieces c.args.settings c.args.protocol c.args.information.now c.as_slice-2.result.now c.as_slice.result.now c.back_of-back.result c.front_of-front.result.items c.front_of-front.ensures c.as_slice-2.ensures.value c.as_slice.ensures.value c.back_of-back.ensures) in
    grind (arith, same, c.has_room.ensures, c.if-not-has_room.false, c.capacity.ensures, c.len.ensures)

pub returns-clause-framed : goal.returns-clause-framed
returns-clause-framed c =
    c.write.ensures ∙ ap (λ l. buffer (c.args.out.now.items ++ l) c.args.out.now.capacity)
    (pieces c.args.settings c.args.protocol c.args.information.now c.as_slice-3.result.now c.as_slice.result.now c.back_of-back.result c.front_of-front.result.items c.front_of-front.ensures c.as_slice-3.ensures.value c.as_slice.ensures.value c.back_of-back.ensures)
