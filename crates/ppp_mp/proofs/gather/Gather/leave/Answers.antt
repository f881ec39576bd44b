use Rattle.std.proofs.Common.{◌≡◌, refl, ◌-◌, ◌∙◌, ap, sym, None, true, false, is_some, slice_set, slice_index_or}
use Rattle.ppp_mp.specs.declared.facts.GatherFacts.{GatherFacts}
use Rattle.ppp_mp.specs.Places.{place, ends}
use Rattle.ppp_mp.specs.StandsFor.{GatherNow, members_of}
use Rattle.ppp_mp.specs.Facts.{members_in, now_of}
use Rattle.ppp_mp.proofs.MemberCalls.{map_set, same_there}
use Rattle.ppp_mp.proofs.Calls.{whole_now, came_now, looks_stand, left_stands, stranger_left}
use Rattle.ppp_mp.proofs.SettlingLemmas.{room_first}
use Rattle.ppp_mp.proofs.gather.Gather.leave.Goals as goal

pub settle_now-requires : goal.settle_now-requires
settle_now-requires c = room_first c.clear.new.self c.reset.new.self.places.pieces c.drop_out.new.self.places.pieces c.clear.ensures (ap (λ (g : GatherFacts). g.places.pieces) c.drop_out.ensures) (ap (λ (g : GatherFacts). ends (place g.places.pieces 0)) c.reset.ensures.now ∙ c.self.invariant)

pub returns-then-is_member-clause-stands : goal.returns-then-is_member-clause-stands
returns-then-is_member-clause-stands c = λ past s stands.
    let at : c.from-at.result ≡ c.args.link - 1 = c.from-at.ensures ∙ ap (λ n. n - 1) c.number.ensures.value in
    let in_it : is_some (slice_index_or c.reset.new.self.overs (c.args.link - 1) None) ≡ true = rw (← at) (sym c.is_member.ensures ∙ c.if-is_member.true) in
    let left : c.drop_out.new.self ≡ record c.reset.new.self { overs = slice_set c.reset.new.self.overs (c.args.link - 1) None } = rw (← at) c.drop_out.ensures in
    left_stands (now_of c.reset.new.self) c.reset.new.self c.drop_out.new.self c.settle_now.new.self c.clear.new.self c.settle_now.new.given past s c.args.link
    refl in_it left c.clear.ensures c.settle_now.ensures.mrru c.settle_now.ensures.settled (looks_stand c.args.self.now c.self.inside.facts c.reset.new.self past s c.self.view_is c.reset.ensures.now stands)

pub returns-else-is_member-clause-stands : goal.returns-else-is_member-clause-stands
returns-else-is_member-clause-stands c = λ past s stands.
    let at : c.from-at.result ≡ c.args.link - 1 = c.from-at.ensures ∙ ap (λ n. n - 1) c.number.ensures.value in
    let out : is_some (slice_index_or c.reset.new.self.overs (c.args.link - 1) None) ≡ false = rw (← at) (sym c.is_member.ensures ∙ c.if-is_member.false) in
    stranger_left c.reset.new.self c.clear.new.self past s c.args.link out c.clear.ensures (looks_stand c.args.self.now c.self.inside.facts c.reset.new.self past s c.self.view_is c.reset.ensures.now stands)

pub returns-then-is_member-clause-whole : goal.returns-then-is_member-clause-whole
returns-then-is_member-clause-whole c = λ past s stands. whole_now _ past s stands

pub returns-else-is_member-clause-whole : goal.returns-else-is_member-clause-whole
returns-else-is_member-clause-whole c = λ past s stands. whole_now _ past s stands

pub returns-then-is_member-clause-members : goal.returns-then-is_member-clause-members
returns-then-is_member-clause-members c =
    let at : c.from-at.result ≡ c.args.link - 1 = c.from-at.ensures ∙ ap (λ n. n - 1) c.number.ensures.value in
    let left : c.drop_out.new.self ≡ record c.reset.new.self { overs = slice_set c.reset.new.self.overs (c.args.link - 1) None } = rw (← at) c.drop_out.ensures in
    c.settle_now.ensures.members ∙ ap members_in left ∙ map_set c.reset.new.self.overs (c.args.link - 1) None ∙ ap (λ (g : GatherFacts). slice_set (members_in g) (c.args.link - 1) false) c.reset.ensures.now ∙ ap (λ (g : GatherNow). slice_set (members_of g) (c.args.link - 1) false) c.self.view_is

pub returns-else-is_member-clause-members : goal.returns-else-is_member-clause-members
returns-else-is_member-clause-members c =
    let at : c.from-at.result ≡ c.args.link - 1 = c.from-at.ensures ∙ ap (λ n. n - 1) c.number.ensures.value in
    let out : is_some (slice_index_or c.reset.new.self.overs (c.args.link - 1) None) ≡ false = rw (← at) (sym c.is_member.ensures ∙ c.if-is_member.false) in
    sym (same_there c.reset.new.self.overs (c.args.link - 1) false out) ∙ ap (λ (g : GatherFacts). slice_set (members_in g) (c.args.link - 1) false) c.reset.ensures.now ∙ ap (λ (g : GatherNow). slice_set (members_of g) (c.args.link - 1) false) c.self.view_is

pub returns-then-is_member-clause-came : goal.returns-then-is_member-clause-came
returns-then-is_member-clause-came c = λ past reached s stands links has. came_now _ past reached s stands links has

pub returns-else-is_member-clause-came : goal.returns-else-is_member-clause-came
returns-else-is_member-clause-came c = λ past reached s stands links has. came_now _ past reached s stands links has
