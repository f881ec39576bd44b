use Rattle.std.proofs.Common.{ap, ◌∙◌}
use Rattle.ppp_base.specs.declared.posts.UpPost.TheVariants as post
use Rattle.ppp_link_parts.proofs.UpLemmas.{appended, joined, joined_up, join_room, up_posts}
use Rattle.ppp_link_parts.specs.UpRing.{ring_of}
use Rattle.ppp_link_parts.proofs.up_ring.UpRing.put_join.Goals as goal

pub append-requires : goal.append-requires
append-requires c = rw c.self.invariant.1 (join_room c.self.inside.entries.items c.self.inside.octets.items c.self.inside.join c.self.inside.leave c.self.inside.frames c.self.invariant.0 (rw (← c.self.view_is) at c.requires))

pub invariant_of-self : goal.invariant_of-self
invariant_of-self c = rw c.append.ensures (joined_up c.self.inside.entries.items c.self.inside.octets.items c.self.inside.join c.self.inside.leave c.self.inside.frames c.args.join c.self.invariant.0 (rw (← c.self.view_is) at c.requires), c.self.invariant.1, c.self.invariant.2)

pub returns-clause-new : goal.returns-clause-new
returns-clause-new c = rw (← c.self.view_is, c.append.ensures) (joined c.self.inside.entries.items c.self.inside.octets.items c.self.inside.join c.self.inside.leave c.self.inside.frames c.self.inside.dropped c.args.join c.self.invariant.0 (rw (← c.self.view_is) at c.requires))

pub returns-clause-value : goal.returns-clause-value
returns-clause-value c = rw (← c.self.view_is, c.append.ensures)
    (ap ring_of (joined c.self.inside.entries.items c.self.inside.octets.items c.self.inside.join c.self.inside.leave c.self.inside.frames c.self.inside.dropped c.args.join c.self.invariant.0 (rw (← c.self.view_is) at c.requires)) ∙ appended (up_posts c.self.inside.entries.items c.self.inside.octets.items c.self.inside.join c.self.inside.leave c.self.inside.dropped) (post.Join c.args.join))
