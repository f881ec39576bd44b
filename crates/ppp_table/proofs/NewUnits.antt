-- Sixteen units are made, one after the other.
use Rattle.std.proofs.Common.{◌≡◌, ◌<◌, ◌≤◌, ◌+◌, ℕ, zero, suc, Bool, true, false, Option, None, Some, List, [], ◌∷◌, ◌++◌, length, slice_get, refl, ap, sym, subst, ◌∙◌, arith}
use Rattle.ppp_unit_parts.specs.declared.live.Live.{Live}
use Rattle.ppp_unit_parts.specs.Member.{has_link}
use Rattle.ppp_bundle.specs.State.{UnitState, members_of}
use Rattle.ppp_table.specs.Begins.{AreNewUnits, AreYoung, IsNewUnit}
use Rattle.ppp_table.specs.Fits.{AllFit, AreApart, IsWhole, members_in}
use Rattle.ppp_table_parts.specs.Side.{SideState}
use Rattle.ppp_table.specs.TableState.{AreDrained, TableState}

-- Units for the spawners that are left make those for all.
abbrev pub Makes : {S : Type 0} → (number limit : ℕ) → (left all : List S) → List (UnitState S) → Type 0
Makes {S = S} number limit left all units = (more : List (UnitState S)) → AreNewUnits number limit left more → AreNewUnits 0 limit all (units ++ more)

pub none_made : {S : Type 0} (limit : ℕ) (all : List S) → Makes 0 limit all all []
none_made limit all more new = new

pub one_made : {S : Type 0} (number limit : ℕ) (s : S) (left before all : List S) (u : UnitState S) (units : List (UnitState S)) → before ≡ s ∷ left → IsNewUnit number limit s u → Makes number limit before all units
    → Makes (number + 1) limit left all (units ++ u ∷ [])
one_made {S = S} number limit s left before all u units e is makes more new =
    subst (λ (l : List (UnitState S)). AreNewUnits 0 limit all l) (sym (assoc units)) (makes (u ∷ more) (rw e (is, new)))
  where
    assoc : (l : List (UnitState S)) → (l ++ u ∷ []) ++ more ≡ l ++ u ∷ more
    assoc [] = refl
    assoc (x ∷ l) = ap (λ (k : List (UnitState S)). x ∷ k) (assoc l)

pub all_made : {S : Type 0} (number limit : ℕ) (left all : List S) (units : List (UnitState S)) → length left ≡ 0 → Makes number limit left all units → AreNewUnits 0 limit all units
all_made {S = S} number limit [] all units e makes = subst (λ (l : List (UnitState S)). AreNewUnits 0 limit all l) (none units) (makes [] tt)
  where
    none : (l : List (UnitState S)) → l ++ [] ≡ l
    none [] = refl
    none (x ∷ l) = ap (λ (k : List (UnitState S)). x ∷ k) (none l)
all_made number limit (s ∷ left) all units e makes = absurd (let f : suc (length left) ≡ 0 = e in grind arith)

-- THEY ARE WHOLE

new_drained : {S : Type 0} (number limit : ℕ) (spawners : List S) (units : List (UnitState S)) → AreNewUnits number limit spawners units → AreDrained units
new_drained number limit [] [] new = tt
new_drained number limit [] (u ∷ units) new = tt_of new
  where
    tt_of : ⊥ → AreDrained (u ∷ units)
    tt_of x = absurd x
new_drained number limit (s ∷ spawners) [] new = tt
new_drained number limit (s ∷ spawners) (u ∷ units) new = (new.0.waits.0, new.0.waits.1, new_drained (number + 1) limit spawners units new.1)

new_length : {S : Type 0} (number limit : ℕ) (spawners : List S) (units : List (UnitState S)) → AreNewUnits number limit spawners units → length units ≡ length spawners
new_length number limit [] [] new = refl
new_length number limit [] (u ∷ units) new = absurd new
new_length number limit (s ∷ spawners) [] new = absurd new
new_length number limit (s ∷ spawners) (u ∷ units) new = ap suc (new_length (number + 1) limit spawners units new.1)

no_one : {S : Type 0} (number limit : ℕ) (spawners : List S) (units : List (UnitState S)) → AreNewUnits number limit spawners units → (a link : ℕ) → has_link link (members_in (slice_get units a)) ≡ true → ⊥
no_one number limit spawners [] new a link e = absurd (let f : false ≡ true = e in cc)
no_one number limit [] (u ∷ units) new a link e = absurd new
no_one number limit (s ∷ spawners) (u ∷ units) new zero link e =
    let f : has_link link (members_of None) ≡ true = subst (λ (o : Option Live). has_link link (members_of o) ≡ true) new.0.live e in
    absurd (let g : false ≡ true = f in cc)
no_one number limit (s ∷ spawners) (u ∷ units) new (suc a) link e = no_one (number + 1) limit spawners units new.1 a link e

new_fit : {S : Type 0} (number limit : ℕ) (spawners : List S) (units : List (UnitState S)) (sides : List SideState) → AreNewUnits number limit spawners units → AllFit sides units
new_fit number limit spawners [] sides new a = tt
new_fit number limit [] (u ∷ units) sides new a = absurd new
new_fit number limit (s ∷ spawners) (u ∷ units) sides new zero = rw new.0.live tt
new_fit number limit (s ∷ spawners) (u ∷ units) sides new (suc a) = new_fit (number + 1) limit spawners units sides new.1 a

pub new_whole : {S : Type 0} (limit : ℕ) (spawners : List S) (units : List (UnitState S)) (t : TableState S) → t.units ≡ units → AreNewUnits 0 limit spawners units → length spawners ≡ 16 → IsWhole t
new_whole {S = S} limit spawners units t e new sixteen = record {
  sixteen = rw e (new_length 0 limit spawners units new ∙ sixteen);
  drained = rw e (new_drained 0 limit spawners units new);
  apart = rw e (λ a b link f g. absurd (no_one 0 limit spawners units new a link f));
  fits = rw e (new_fit 0 limit spawners units t.sides new);
  together = rw e (λ a b x y s r f g p q i. absurd (no_one 0 limit spawners units new x a f.1));
}

-- one more at the end
pub young_more : {S : Type 0} (tries faults : S → ℕ) (most : ℕ) (spawners : List S) (s : S) → AreYoung tries faults most spawners → tries s < most → faults s < most → AreYoung tries faults most (spawners ++ s ∷ [])
young_more tries faults most [] s all t f = (t, f, tt)
young_more tries faults most (x ∷ spawners) s all t f = (all.0, all.1, young_more tries faults most spawners s all.2 t f)
