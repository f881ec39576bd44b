use Rattle.std.proofs.Common.{◌≡◌, ap, ◌∙◌, arith, lit<}
use Rattle.ppp_mp.specs.Members.{last_link}
use Rattle.ppp_mp.proofs.MemberLemmas.{few, added}
use Rattle.ppp_mp.proofs.members.Members.add.Goals as goal

pub push-requires : goal.push-requires
push-requires c =
    let last : c.last_link.result ≡ last_link 0 c.self.inside.members.items = c.last_link.ensures ∙ ap (last_link 0) c.as_slice.ensures.value in
    (lit< tt, omega (arith, few c.self.inside.members.items 0 c.self.invariant))

pub invariant_of-self : goal.invariant_of-self
invariant_of-self c =
    let last : c.last_link.result ≡ last_link 0 c.self.inside.members.items = c.last_link.ensures ∙ ap (last_link 0) c.as_slice.ensures.value in
    rw c.push.ensures.items (added c.self.inside.members.items 0 c.args.member c.self.invariant (omega arith) (omega arith) (omega arith) (omega arith))
