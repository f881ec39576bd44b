-- One unit after the other is told the time.
use Rattle.std.proofs.Common.{◌≡◌, ◌<◌, ◌≤◌, ◌+◌, ◌==◌, ℕ, Bool, true, false, zero, suc, refl, ap, sym, subst, ◌∙◌, arith, nat_lt, cond}
use Rattle.std.proofs.lemmas.Bool.Decides.{nat_tests}
use Rattle.std.specs.Prelude.{if◌then◌else◌}
use Rattle.ppp_bundle.specs.declared.event.BundleEvent.TheVariants as unit_event
use Rattle.ppp_table.specs.TablePart.{TicksBelow}
use Rattle.ppp_table.specs.TableState.{TableState}
use Rattle.ppp_table.specs.UnitStep.{UnitStep}

pub no_ticks : {S : Type 0} (now : ℕ) (t : TableState S) → TicksBelow 0 now t t
no_ticks now t = record { states = λ k. t; first = refl; last = refl; each = λ unit some. absurd (grind (arith, some)) }

upto : {S : Type 0} → ℕ → (ℕ → TableState S) → TableState S → ℕ → TableState S
upto count states new k = if nat_lt count k then new else states k

at_or_below : {S : Type 0} (b : Bool) (count k : ℕ) (states : ℕ → TableState S) (new : TableState S) → nat_lt count k ≡ b → k ≤ count → (if b then new else states k) ≡ states k
at_or_below true count k states new e le = absurd (grind (arith, nat_tests))
at_or_below false count k states new e le = refl

above : {S : Type 0} (b : Bool) (count k : ℕ) (states : ℕ → TableState S) (new : TableState S) → nat_lt count k ≡ b → count < k → (if b then new else states k) ≡ new
above true count k states new e lt = refl
above false count k states new e lt = absurd (grind (arith, nat_tests))

pub tick_more : {S : Type 0} (count now : ℕ) (old mid new : TableState S) → TicksBelow count now old mid → UnitStep count (unit_event.Tick now) mid new → TicksBelow (count + 1) now old new
unfolding upto
tick_more count now old mid new t step = record {
  states = upto count t.states new;
  first = at_or_below (nat_lt count 0) count 0 t.states new refl (grind arith) ∙ t.first;
  last = above (nat_lt count (count + 1)) count (count + 1) t.states new refl (grind arith);
  each = λ unit some. by_place unit (nat_lt unit count) refl some;
}
  where
    by_place : (unit : ℕ) (b : Bool) → nat_lt unit count ≡ b → unit < count + 1
        → UnitStep unit (unit_event.Tick now) (upto count t.states new unit) (upto count t.states new (unit + 1))
    by_place unit true e some =
        rw (at_or_below (nat_lt count unit) count unit t.states new refl (grind (arith, nat_tests)), at_or_below (nat_lt count (unit + 1)) count (unit + 1) t.states new refl (grind (arith, nat_tests)))
        (t.each unit (grind (arith, nat_tests)))
    by_place unit false e some =
        let same : unit ≡ count = grind (arith, nat_tests) in
        rw same (rw (at_or_below (nat_lt count count) count count t.states new refl (grind arith) ∙ t.last, above (nat_lt count (count + 1)) count (count + 1) t.states new refl (grind arith)) step)
