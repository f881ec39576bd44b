use Rattle.std.proofs.Common.{◌≡◌, ◌%◌, Option, Some, None, cond, nat_eq, slice_set, ap, sym, subst, refl, ◌∙◌, arith}
use Rattle.std.proofs.Math.ListN.{length-set}
use Rattle.ppp_mp.specs.Header.{long_space}
use Rattle.ppp_mp.specs.Ring.{Slotted, SlotsNow, InRing, kept_at, IsNearAll, slot_piece}
use Rattle.ppp_mp.proofs.RingLemmas.{ring_some, put_kept}
use Rattle.ppp_mp.proofs.slots.Slots.put_octets.Goals as goal

pub invariant_of-self : goal.invariant_of-self
invariant_of-self c = (
  length-set c.self.inside.slots.items (c.args.number % 128) c.fill.new.self ∙ c.self.invariant.0,
  subst (λ (v : Option Slotted). InRing long_space 0 (slice_set c.self.inside.slots.items (c.args.number % 128) v)) (sym c.fill.ensures)
      (ring_some 0 (c.args.number % 128) (record { number = c.args.number; piece = slot_piece c.args.first c.args.last c.args.octets.now }) c.self.inside.slots.items c.self.invariant.1 (omega arith) c.requires.number),
)

pub returns-clause-kept : goal.returns-clause-kept
returns-clause-kept c = λ other.
    let P = λ (s : SlotsNow). kept_at c.args.number s.slots ≡ None in
    let Q = λ (s : SlotsNow). IsNearAll long_space c.args.number s.slots in
    ap (λ (v : Option Slotted). kept_at other (slice_set c.self.inside.slots.items (c.args.number % 128) v)) c.fill.ensures
    ∙ put_kept c.args.number other (slot_piece c.args.first c.args.last c.args.octets.now) (record { number = c.args.number; piece = slot_piece c.args.first c.args.last c.args.octets.now }) c.self.inside.slots.items refl c.self.invariant.0 c.self.invariant.1 c.requires.number
    (subst P (sym c.self.view_is) c.requires.new) (subst Q (sym c.self.view_is) c.requires.near)
    ∙ ap (λ (s : SlotsNow). cond (nat_eq other c.args.number) (Some (slot_piece c.args.first c.args.last c.args.octets.now)) (kept_at other s.slots)) c.self.view_is
