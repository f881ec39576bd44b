use Rattle.std.proofs.Common.{◌≡◌, ◌-◌, ◌∙◌, ap, sym, Some, None, true, false, is_some, slice_set, slice_index_or}
use Rattle.ppp_mp.specs.StandsFor.{GatherNow, members_of}
use Rattle.ppp_mp.specs.Facts.{members_in}
use Rattle.ppp_mp.proofs.MemberCalls.{map_set, same_there}
use Rattle.ppp_mp.proofs.Calls.{joined_stands}
use Rattle.ppp_mp.proofs.gather.Gather.join.Goals as goal

pub returns-then-not-is_member-clause-stands : goal.returns-then-not-is_member-clause-stands
returns-then-not-is_member-clause-stands c = λ past s stands.
    let at : c.from-at.result ≡ c.args.link - 1 = c.from-at.ensures ∙ ap (λ n. n - 1) c.number.ensures.value in
    let out : is_some (slice_index_or c.self.inside.facts.overs (c.args.link - 1) None) ≡ false = rw (← at) (sym c.is_member.ensures ∙ c.if-not-is_member.true) in
    let entered : c.enter.new.self ≡ record c.self.inside.facts { overs = slice_set c.self.inside.facts.overs (c.args.link - 1) (Some 0) } = rw (← at) c.enter.ensures in
    joined_stands c.args.self.now c.self.inside.facts c.enter.new.self past s c.args.link c.self.view_is out entered stands

pub returns-then-not-is_member-clause-members : goal.returns-then-not-is_member-clause-members
returns-then-not-is_member-clause-members c =
    let at : c.from-at.result ≡ c.args.link - 1 = c.from-at.ensures ∙ ap (λ n. n - 1) c.number.ensures.value in
    let entered : c.enter.new.self ≡ record c.self.inside.facts { overs = slice_set c.self.inside.facts.overs (c.args.link - 1) (Some 0) } = rw (← at) c.enter.ensures in
    ap members_in entered ∙ map_set c.self.inside.facts.overs (c.args.link - 1) (Some 0) ∙ ap (λ (g : GatherNow). slice_set (members_of g) (c.args.link - 1) true) c.self.view_is

pub returns-else-not-is_member-clause-members : goal.returns-else-not-is_member-clause-members
returns-else-not-is_member-clause-members c =
    let at : c.from-at.result ≡ c.args.link - 1 = c.from-at.ensures ∙ ap (λ n. n - 1) c.number.ensures.value in
    let in_it : is_some (slice_index_or c.self.inside.facts.overs (c.args.link - 1) None) ≡ true = rw (← at) (sym c.is_member.ensures ∙ c.if-not-is_member.false) in
    ap members_of (sym c.self.view_is) ∙ sym (same_there c.self.inside.facts.overs (c.args.link - 1) true in_it) ∙ ap (λ (g : GatherNow). slice_set (members_of g) (c.args.link - 1) true) c.self.view_is
