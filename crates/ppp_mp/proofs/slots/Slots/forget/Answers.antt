use Rattle.std.proofs.Common.{◌≡◌, ◌%◌, Option, None, cond, nat_eq, slice_set, slice_index_or, ap, sym, subst, ◌∙◌, arith}
use Rattle.std.proofs.Math.ListN.{length-set}
use Rattle.std.proofs.lemmas.List.{get_or_read}
use Rattle.ppp_mp.specs.Header.{long_space}
use Rattle.ppp_mp.specs.Ring.{Slotted, SlotsNow, InRing, kept_at, emptied}
use Rattle.ppp_mp.proofs.RingLemmas.{emptied_ring, emptied_kept}
use Rattle.ppp_mp.proofs.slots.Slots.forget.Goals as goal

pub invariant_of-self : goal.invariant_of-self
invariant_of-self c =
    let slot : c.index_mut.result.now ≡ slice_index_or c.self.inside.slots.items (c.args.number % 128) None = get_or_read c.self.inside.slots.items _ _ (omega (arith, c.self.invariant.0)) c.index_mut.ensures.value None in
    let is : c.empty.new.self ≡ emptied c.args.number (slice_index_or c.self.inside.slots.items (c.args.number % 128) None) = c.empty.ensures ∙ ap (emptied c.args.number) slot in (
      length-set c.self.inside.slots.items (c.args.number % 128) c.empty.new.self ∙ c.self.invariant.0,
      subst (λ (v : Option Slotted). InRing long_space 0 (slice_set c.self.inside.slots.items (c.args.number % 128) v)) (sym is) (emptied_ring (c.args.number % 128) c.args.number c.self.inside.slots.items c.self.invariant.1),
    )

pub returns-clause-kept : goal.returns-clause-kept
returns-clause-kept c = λ other.
    let slot : c.index_mut.result.now ≡ slice_index_or c.self.inside.slots.items (c.args.number % 128) None = get_or_read c.self.inside.slots.items _ _ (omega (arith, c.self.invariant.0)) c.index_mut.ensures.value None in
    let is : c.empty.new.self ≡ emptied c.args.number (slice_index_or c.self.inside.slots.items (c.args.number % 128) None) = c.empty.ensures ∙ ap (emptied c.args.number) slot in
    ap (λ (v : Option Slotted). kept_at other (slice_set c.self.inside.slots.items (c.args.number % 128) v)) is
    ∙ emptied_kept c.args.number other c.self.inside.slots.items c.self.invariant.0 c.self.invariant.1 c.requires
    ∙ ap (λ (s : SlotsNow). cond (nat_eq other c.args.number) None (kept_at other s.slots)) c.self.view_is
