use Rattle.std.proofs.Common.{refl, ap, ◌∙◌, length, arith}
use Rattle.ppp_link_parts.proofs.UpLemmas.{frame_value, framed, has_frame_room, not_framed, up_posts, up_with_frame}
use Rattle.ppp_link_parts.specs.UpRing.{ring_of}
use Rattle.ppp_link_parts.proofs.up_ring.UpRing.put_frame.Goals as goal

pub append-requires : goal.append-requires
append-requires c = rw c.self.invariant.1 (has_frame_room c.self.inside.entries.items c.self.inside.octets.items c.self.inside.join c.self.inside.leave c.self.inside.frames c.self.invariant.0 (omega (arith, c.if-taken-information-le-FRAME_ROOM.true, c.len.ensures.len)))

pub invariant_of-self : goal.invariant_of-self
invariant_of-self c = rw (c.append.ensures, c.fill.ensures)
    (up_with_frame c.self.inside.entries.items c.self.inside.octets.items c.args.information.now c.self.inside.join c.self.inside.leave c.self.inside.frames c.args.protocol (length c.args.information.now) c.self.invariant.0 refl c.requires (omega (arith, c.if-taken-information-le-FRAME_ROOM.true, c.len.ensures.len)), c.self.invariant.1, c.self.invariant.2)

pub returns-then-taken-information-le-FRAME_ROOM-clause-new : goal.returns-then-taken-information-le-FRAME_ROOM-clause-new
returns-then-taken-information-le-FRAME_ROOM-clause-new c = rw (← c.self.view_is, c.append.ensures, c.fill.ensures)
    (framed c.self.inside.entries.items c.self.inside.octets.items c.args.information.now c.self.inside.join c.self.inside.leave c.self.inside.frames c.self.inside.dropped c.args.protocol (length c.args.information.now) c.self.invariant.0 refl (omega (arith, c.if-taken-information-le-FRAME_ROOM.true, c.len.ensures.len)))

pub returns-then-taken-information-le-FRAME_ROOM-clause-value : goal.returns-then-taken-information-le-FRAME_ROOM-clause-value
returns-then-taken-information-le-FRAME_ROOM-clause-value c = rw (← c.self.view_is, c.append.ensures, c.fill.ensures)
    (ap ring_of (framed c.self.inside.entries.items c.self.inside.octets.items c.args.information.now c.self.inside.join c.self.inside.leave c.self.inside.frames c.self.inside.dropped c.args.protocol (length c.args.information.now) c.self.invariant.0 refl (omega (arith, c.if-taken-information-le-FRAME_ROOM.true, c.len.ensures.len)))
    ∙ frame_value c.args.protocol c.args.information.now (up_posts c.self.inside.entries.items c.self.inside.octets.items c.self.inside.join c.self.inside.leave c.self.inside.dropped))

pub returns-else-taken-information-le-FRAME_ROOM-clause-new : goal.returns-else-taken-information-le-FRAME_ROOM-clause-new
returns-else-taken-information-le-FRAME_ROOM-clause-new c = rw (← c.self.view_is, c.saturating_add-self-inside.ensures)
    (not_framed c.self.inside.entries.items c.self.inside.octets.items c.args.information.now c.self.inside.join c.self.inside.leave c.self.inside.frames c.self.inside.dropped c.args.protocol c.self.invariant.0 (omega (arith, c.if-taken-information-le-FRAME_ROOM.false, c.len.ensures.len)))

pub returns-else-taken-information-le-FRAME_ROOM-clause-value : goal.returns-else-taken-information-le-FRAME_ROOM-clause-value
returns-else-taken-information-le-FRAME_ROOM-clause-value c = rw (← c.self.view_is, c.saturating_add-self-inside.ensures)
    (ap ring_of (not_framed c.self.inside.entries.items c.self.inside.octets.items c.args.information.now c.self.inside.join c.self.inside.leave c.self.inside.frames c.self.inside.dropped c.args.protocol c.self.invariant.0 (omega (arith, c.if-taken-information-le-FRAME_ROOM.false, c.len.ensures.len)))
    ∙ frame_value c.args.protocol c.args.information.now (up_posts c.self.inside.entries.items c.self.inside.octets.items c.self.inside.join c.self.inside.leave c.self.inside.dropped))
