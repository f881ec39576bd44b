use Rattle.std.proofs.Common.{ap, ◌∙◌}
use Rattle.ppp_base.specs.declared.posts.UpPost.TheVariants as post
use Rattle.ppp_link_parts.proofs.UpLemmas.{appended, left, left_up, leave_room, up_posts}
use Rattle.ppp_link_parts.specs.UpRing.{ring_of}
use Rattle.ppp_link_parts.proofs.up_ring.UpRing.put_leave.Goals as goal

pub append-requires : goal.append-requires
append-requires c = rw c.self.invariant.1 (leave_room c.self.inside.entries.items c.self.inside.octets.items c.self.inside.join c.self.inside.leave c.self.inside.frames c.self.invariant.0 (rw (← c.self.view_is) at c.requires))

pub invariant_of-self : goal.invariant_of-self
invariant_of-self c = rw c.append.ensures (left_up c.self.inside.entries.items c.self.inside.octets.items c.self.inside.join c.self.inside.leave c.self.inside.frames c.args.stay c.self.invariant.0 (rw (← c.self.view_is) at c.requires), c.self.invariant.1, c.self.invariant.2)

pub returns-clause-new : goal.returns-clause-new
returns-clause-new c = rw (← c.self.view_is, c.append.ensures) (left c.self.inside.entries.items c.self.inside.octets.items c.self.inside.join c.self.inside.leave c.self.inside.frames c.self.inside.dropped c.args.stay c.self.invariant.0 (rw (← c.self.view_is) at c.requires))

pub returns-clause-value : goal.returns-clause-value
returns-clause-value c = rw (← c.self.view_is, c.append.ensures)
    (ap ring_of (left c.self.inside.entries.items c.self.inside.octets.items c.self.inside.join c.self.inside.leave c.self.inside.frames c.self.inside.dropped c.args.stay c.self.invariant.0 (rw (← c.self.view_is) at c.requires)) ∙ appended (up_posts c.self.inside.entries.items c.self.inside.octets.items c.self.inside.join c.self.inside.leave c.self.inside.dropped) (post.Leave c.args.stay))
