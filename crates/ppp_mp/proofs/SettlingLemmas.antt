-- The loop that applies the rules.
use Rattle.std.proofs.Common.{◌≡◌, ℕ, ◌+◌, ◌-◌, ◌<◌, ◌≤◌, ◌++◌, suc, max, nat_lt, cond, Bool, true, false, List, [], ◌∷◌, length, zero, option_map, Option, None, Some, refl, sym, ap, subst, ◌∙◌, arith, ◌⊎◌, inl, inr, append_assoc, length-append}
use Rattle.std.proofs.lemmas.Bool.{cases_lt}
use Rattle.std.proofs.lemmas.Bool.Decides.{nat_tests}
use Rattle.ppp_mp.specs.Header.{long_space}
use Rattle.ppp_mp.specs.Pieces.{joined, piece_at}
use Rattle.ppp_mp.specs.Delivered.{Gathering, Rule, Rules, AtRest, loses, completes, ruled}
use Rattle.ppp_mp.specs.Places.{place, AreMissing, Scanned, joined_there, tally, waits, ends, rule_at, goes_on_there}
use Rattle.ppp_mp.specs.Moves.{IsMoved, IsKept, HasCompleted, HasSettled, Holds}
use Rattle.ppp_mp.specs.Facts.{waiting, KeepsFacts, with_looks_at}
use Rattle.ppp_mp.specs.StandsFor.{stopped, counted}
use Rattle.ppp_mp.specs.declared.slot_piece.SlotPiece.{SlotPiece}
use Rattle.ppp_mp.specs.declared.places.RuleNow.{RuleNow}
use Rattle.ppp_mp.specs.declared.places.RuleNow.TheVariants.{Rests, Loses, Completes}
use Rattle.ppp_mp.specs.declared.facts.GatherFacts.{GatherFacts}
use Rattle.ppp_mp.specs.declared.counts.GatherCounts.{GatherCounts}
use Rattle.ppp_mp.proofs.RuleLemmas.{scanned_rule, scanned_rests, joined-same, moves, stopped-more}
use Rattle.ppp_mp.proofs.PlaceLemmas.{tally-left, tally-one, tally-rest, tally-kept}

-- So far the rules have been applied so many times.
pub record Settling (first : GatherFacts) (packets0 : List (List ℕ)) (bound0 : ℕ) (g : GatherFacts) (packets : List (List ℕ)) (bound : ℕ) : Type 0 where
  pub mrru : g.mrru ≡ first.mrru
  pub room : length packets + tally ends g.places.pieces 128 ≤ length packets0 + tally ends first.places.pieces 128
  pub goes : (before : List (List ℕ)) (s : Gathering) (below : ℕ) → Holds long_space before first packets0 s → bound0 ≡ below - s.least
      → (count : ℕ) × (mid : Gathering) × Rules first.mrru below s count mid × Holds long_space before g packets mid × (bound ≡ below - mid.least)

pub settling_begins : (g : GatherFacts) (packets : List (List ℕ)) (bound : ℕ) → Settling g packets bound g packets bound
settling_begins g packets bound = record { mrru = refl; room = omega arith; goes = λ before s below holds is. (0, s, refl, holds, is) }

-- Looks change nothing of what is kept.
pub looks_keeps : (g : GatherFacts) (looks : ℕ) (s : Gathering) → KeepsFacts long_space g s → KeepsFacts long_space (with_looks_at looks g) s
looks_keeps g looks s k = record { base = k.base; raised = k.raised; places = k.places; overs = k.overs; counts = k.counts }

pub settling_looked : (first : GatherFacts) (packets0 : List (List ℕ)) (bound0 : ℕ) (g g' : GatherFacts) (packets : List (List ℕ)) (bound looks : ℕ) → g' ≡ with_looks_at looks g → Settling first packets0 bound0 g packets bound → Settling first packets0 bound0 g' packets bound
settling_looked first packets0 bound0 g g' packets bound looks same so_far =
    let now : Settling first packets0 bound0 (with_looks_at looks g) packets bound = record {
      mrru = so_far.mrru;
      room = so_far.room;
      goes = λ before s below holds is.
          let t = so_far.goes before s below holds is in
          (t.0, t.1, t.2, record { keeps = looks_keeps g looks t.1 t.3.keeps; given = t.3.given }, t.4);
    } in
    subst (λ (x : GatherFacts). Settling first packets0 bound0 x packets bound) (sym same) now

pub lost-counts : (g g' : GatherFacts) (mid : Gathering) (count : ℕ) → g.counts ≡ counted mid → g'.counts ≡ record g.counts { lost = stopped (g.counts.lost + count) } → g'.counts ≡ counted (loses mid count)
lost-counts g g' mid count before now =
    let more = λ (c : GatherCounts). (let r : GatherCounts = record c { lost = stopped (c.lost + count) } in r) in
    let set = λ (n : ℕ). (let r : GatherCounts = record (counted mid) { lost = n } in r) in
    now ∙ ap more before ∙ ap set (stopped-more mid.lost count)

pub settling_loses : (first : GatherFacts) (packets0 : List (List ℕ)) (bound0 : ℕ) (g : GatherFacts) (packets : List (List ℕ)) (bound : ℕ) (g' : GatherFacts) (count bound' : ℕ)
    → Settling first packets0 bound0 g packets bound → Scanned g.places.pieces bound (Loses count) → ((i : ℕ) → 128 ≤ i → place g.places.pieces i ≡ None) → IsMoved long_space g g' count
    → g'.counts ≡ record g.counts { lost = stopped (g.counts.lost + count) } → bound' ≡ bound - count
    → Settling first packets0 bound0 g' packets bound'
settling_loses first packets0 bound0 g packets bound g' count bound' so_far scanned past moved counts less = record {
  mrru = moved.mrru ∙ so_far.mrru;
  room = let left = tally-left ends g.places.pieces g'.places.pieces count refl moved.places past in omega (arith, so_far.room);
  goes = λ before s below holds is.
      let t = so_far.goes before s below holds is in
      let mid : Gathering = t.1 in
      let bound_is : bound ≡ below - mid.least = t.4 in
      let keeps : KeepsFacts long_space g mid = t.3.keeps in
      let given : mid.given ≡ before ++ packets = t.3.given in
      let rule : Rule g.mrru below mid (loses mid count) = scanned_rule g.mrru below g mid (loses mid count) bound (Loses count) keeps bound_is scanned refl in
      let P = λ (m : ℕ). Rule m below mid (loses mid count) in (
        suc t.0,
        loses mid count,
        (mid, t.2, subst P so_far.mrru rule),
        record {
          keeps = moves g g' mid (loses mid count) count keeps moved refl refl refl (lost-counts g g' mid count keeps.counts counts);
          given = given;
        },
        omega arith,
      );
}

-- A missing stretch is lost number by number.
misses_one : (mrru below : ℕ) (mid : Gathering) (k : ℕ) → piece_at (mid.least + k) mid.kept ≡ None → mid.least + k < below → Rule mrru below (loses mid k) (loses mid (suc k))
misses_one mrru below mid k none less =
    let at : mid.least + k + 0 ≡ mid.least + k = omega arith in
    let least : mid.least + k + 1 ≡ mid.least + suc k = omega arith in
    let lost : mid.lost + k + 1 ≡ mid.lost + suc k = omega arith in
    let there : piece_at (mid.least + k + 0) mid.kept ≡ None = ap (λ n. piece_at n mid.kept) at ∙ none in
    let test : nat_lt (mid.least + k + 0) below ≡ true = grind (arith, nat_tests) in
    let set = λ (a b : ℕ). (let r : Gathering = record mid { least = a; lost = b } in r) in
    let same : loses (loses mid k) (0 + 1) ≡ loses mid (suc k) = ap (λ a. set a (mid.lost + k + 1)) least ∙ ap (λ b. set (mid.least + suc k) b) lost in
    let made : ruled mrru below (loses mid k) 0 None ≡ Some (loses (loses mid k) (0 + 1)) = rw test refl in
    record { len = 0; begun = λ i less. absurd (omega arith); applies = ap (ruled mrru below (loses mid k) 0) there ∙ made ∙ ap Some same }

loses_none : (mid : Gathering) → loses mid 0 ≡ mid
loses_none mid =
    let set = λ (a b : ℕ). (let r : Gathering = record mid { least = a; lost = b } in r) in
    let least : mid.least + 0 ≡ mid.least = omega arith in
    let lost : mid.lost + 0 ≡ mid.lost = omega arith in
    ap (λ a. set a (mid.lost + 0)) least ∙ ap (λ b. set mid.least b) lost

pub misses_rules : (mrru below : ℕ) (s mid : Gathering) (before k : ℕ) → Rules mrru below s before mid → ((i : ℕ) → i < k → piece_at (mid.least + i) mid.kept ≡ None) → mid.least + k ≤ below
    → (count : ℕ) × Rules mrru below s count (loses mid k)
misses_rules mrru below s mid before zero rules none le = (before, subst (λ (x : Gathering). Rules mrru below s before x) (sym (loses_none mid)) rules)
misses_rules mrru below s mid before (suc k) rules none le =
    let t = misses_rules mrru below s mid before k rules (λ i less. none i (omega arith)) (omega arith) in
    (suc t.0, (loses mid k, t.1, misses_one mrru below mid k (none k (omega arith)) (omega arith)))

pub settling_misses : (first : GatherFacts) (packets0 : List (List ℕ)) (bound0 : ℕ) (g : GatherFacts) (packets : List (List ℕ)) (bound : ℕ) (g' : GatherFacts) (count bound' : ℕ)
    → Settling first packets0 bound0 g packets bound → AreMissing g.places.pieces bound count → ((i : ℕ) → 128 ≤ i → place g.places.pieces i ≡ None) → IsMoved long_space g g' count
    → g'.counts ≡ record g.counts { lost = stopped (g.counts.lost + count) } → bound' ≡ bound - count
    → Settling first packets0 bound0 g' packets bound'
settling_misses first packets0 bound0 g packets bound g' count bound' so_far missing past moved counts less = record {
  mrru = moved.mrru ∙ so_far.mrru;
  room = let left = tally-left ends g.places.pieces g'.places.pieces count refl moved.places past in omega (arith, so_far.room);
  goes = λ before s below holds is.
      let t = so_far.goes before s below holds is in
      let mid : Gathering = t.1 in
      let bound_is : bound ≡ below - mid.least = t.4 in
      let keeps : KeepsFacts long_space g mid = t.3.keeps in
      let given : mid.given ≡ before ++ packets = t.3.given in
      let some : 0 < count = missing.some in
      let most : count ≤ bound = missing.below in
      let rules = misses_rules first.mrru below s mid t.0 count t.2 (λ i below. keeps.places i ∙ ap (option_map (waiting (mid.least + i))) (missing.none i below)) (omega arith) in (
        rules.0,
        loses mid count,
        rules.1,
        record {
          keeps = moves g g' mid (loses mid count) count keeps moved refl refl refl (lost-counts g g' mid count keeps.counts counts);
          given = given;
        },
        omega arith,
      );
}

pub misses-fall : (g g' : GatherFacts) (bound bound' count : ℕ) → AreMissing g.places.pieces bound count → ((i : ℕ) → 128 ≤ i → place g.places.pieces i ≡ None) → IsMoved long_space g g' count → bound' ≡ bound - count
    → bound' + tally waits g'.places.pieces 128 < bound + tally waits g.places.pieces 128
misses-fall g g' bound bound' count missing past moved less =
    let left = tally-left waits g.places.pieces g'.places.pieces count refl moved.places past in
    let some : 0 < count = missing.some in
    let most : count ≤ bound = missing.below in
    omega arith

long-is : (mrru : ℕ) (s : Gathering) (count : ℕ) → mrru + 2 < length (joined s.kept s.least count) → completes mrru s count ≡ record s { least = s.least + count; too_long = s.too_long + 1 }
long-is mrru s count long = let e : nat_lt (mrru + 2) (length (joined s.kept s.least count)) ≡ true = grind (arith, nat_tests) in rw e refl

fits-is : (mrru : ℕ) (s : Gathering) (count : ℕ) → length (joined s.kept s.least count) ≤ mrru + 2 → completes mrru s count ≡ record s { least = s.least + count; given = s.given ++ joined s.kept s.least count ∷ [] }
fits-is mrru s count fits = let e : nat_lt (mrru + 2) (length (joined s.kept s.least count)) ≡ false = grind (arith, nat_tests) in rw e refl

long-counts : (g g' : GatherFacts) (mid : Gathering) (count : ℕ) → g.counts ≡ counted mid → g'.counts ≡ record g.counts { too_long = stopped (g.counts.too_long + 1) }
    → g'.counts ≡ counted (record mid { least = mid.least + count; too_long = mid.too_long + 1 })
long-counts g g' mid count before now =
    let more = λ (c : GatherCounts). (let r : GatherCounts = record c { too_long = stopped (c.too_long + 1) } in r) in
    let set = λ (n : ℕ). (let r : GatherCounts = record (counted mid) { too_long = n } in r) in
    now ∙ ap more before ∙ ap set (stopped-more mid.too_long 1)

-- what a complete run leaves
completes_holds : (before : List (List ℕ)) (g g' : GatherFacts) (packets packets' : List (List ℕ)) (mid : Gathering) (count : ℕ) → Holds long_space before g packets mid → IsMoved long_space g g' count → HasCompleted g g' count packets packets'
    → Holds long_space before g' packets' (completes g.mrru mid count) × ((completes g.mrru mid count).least ≡ mid.least + count)
completes_holds before g g' packets packets' mid count holds moved completed =
    let same : joined mid.kept mid.least count ≡ joined_there g.places.pieces count = joined-same g mid holds.keeps count in
    let same_length : length (joined mid.kept mid.least count) ≡ length (joined_there g.places.pieces count) = ap length same in
    let Q : Gathering → Type 0 = λ s. Holds long_space before g' packets' s × (s.least ≡ mid.least + count) in
    elim (cases_lt (g.mrru + 2) (length (joined_there g.places.pieces count))) [
      | inl long ↦
          let now = completed.long long in
          let s' : Gathering = record mid { least = mid.least + count; too_long = mid.too_long + 1 } in
          let is : completes g.mrru mid count ≡ s' = long-is g.mrru mid count (omega arith) in
          let all : Q s' = (
            record {
              keeps = moves g g' mid s' count holds.keeps moved refl refl refl (long-counts g g' mid count holds.keeps.counts now.1);
              given = holds.given ∙ ap (λ l. before ++ l) (sym now.0);
            },
            refl,
          ) in
          subst Q (sym is) all
      | inr fits ↦
          let now = completed.fits fits in
          let s' : Gathering = record mid { least = mid.least + count; given = mid.given ++ joined mid.kept mid.least count ∷ [] } in
          let is : completes g.mrru mid count ≡ s' = fits-is g.mrru mid count (omega arith) in
          let all : Q s' = (
            record {
              keeps = moves g g' mid s' count holds.keeps moved refl refl refl (now.1 ∙ holds.keeps.counts);
              given = rw (holds.given, same, now.0) (append_assoc before packets (joined_there g.places.pieces count ∷ []));
            },
            refl,
          ) in
          subst Q (sym is) all
    ]

none-completes : (b : Bool) (k count : ℕ) → cond b (Loses k) Rests ≡ Completes count → ⊥
none-completes true k count e = cc
none-completes false k count e = cc

some-completes : (a b : Bool) (k m count : ℕ) → cond a (cond b (Completes k) Rests) (Loses m) ≡ Completes count → (count ≡ k) × (b ≡ true)
some-completes true true k m count e = (cc, refl)
some-completes true false k m count e = absurd (cc)
some-completes false b k m count e = absurd (cc)

completes-is : (bound len count : ℕ) (o : Option SlotPiece) → rule_at bound len o ≡ Completes count → (count ≡ len + 1) × (ends o ≡ true)
completes-is bound len count None e = absurd (none-completes (nat_lt len bound) (len + 1) count e)
completes-is bound len count (Some p) e = some-completes (goes_on_there p len) p.last (len + 1) (max len 1) count e

none-loses : (b : Bool) (k count : ℕ) → cond b (Loses k) Rests ≡ Loses count → (count ≡ k) × (b ≡ true)
none-loses true k count e = (cc, refl)
none-loses false k count e = absurd (cc)

some-loses : (a b : Bool) (k m count : ℕ) → cond a (cond b (Completes k) Rests) (Loses m) ≡ Loses count → count ≡ m
some-loses true true k m count e = absurd (cc)
some-loses true false k m count e = absurd (cc)
some-loses false b k m count e = cc

-- What is lost is below the bound, or a piece is there.
loses-is : (bound len count : ℕ) (o : Option SlotPiece) → rule_at bound len o ≡ Loses count → ((count ≡ len + 1) × (count ≤ bound)) ⊎ ((count ≡ max len 1) × (waits o ≡ true))
loses-is bound len count None e = let t = none-loses (nat_lt len bound) (len + 1) count e in inl (t.0, let is : nat_lt len bound ≡ true = t.1 in let c : count ≡ len + 1 = t.0 in let l : len < bound = grind (arith, nat_tests) in omega arith)
loses-is bound len count (Some p) e = inr (some-loses (goes_on_there p len) p.last (len + 1) (max len 1) count e, refl)

-- The piece that ends a run is one of the first.
pub run-ends : (g : GatherFacts) (bound count : ℕ) → Scanned g.places.pieces bound (Completes count) → 1 ≤ tally ends g.places.pieces count
run-ends g bound count scanned =
    let t = completes-is bound scanned.len count (place g.places.pieces scanned.len) scanned.is in
    tally-one ends g.places.pieces scanned.len count (omega (arith, t.0)) t.1

pub one-end : (g : GatherFacts) (bound count : ℕ) → Scanned g.places.pieces bound (Completes count) → ((i : ℕ) → 128 ≤ i → place g.places.pieces i ≡ None) → 1 ≤ tally ends g.places.pieces 128
one-end g bound count scanned past =
    let t = completes-is bound scanned.len count (place g.places.pieces scanned.len) scanned.is in
    elim (cases_lt scanned.len 128) [
      | inl below ↦ tally-one ends g.places.pieces scanned.len 128 below t.1
      | inr out ↦ absurd (let e : ends (place g.places.pieces scanned.len) ≡ false = ap ends (past scanned.len out) in let f : ends (place g.places.pieces scanned.len) ≡ true = t.1 in cc)
    ]

first-waits : (g : GatherFacts) (bound : ℕ) (rule : RuleNow) (scanned : Scanned g.places.pieces bound rule) → waits (place g.places.pieces scanned.len) ≡ true → waits (place g.places.pieces 0) ≡ true
first-waits g bound rule scanned is = elim (cases_lt 0 scanned.len) [
  | inl more ↦ let t = scanned.begun 0 more in ap waits t.1
  | inr none ↦ let e : scanned.len ≡ 0 = omega arith in rw e at is
]

pub loses-fall : (g g' : GatherFacts) (bound bound' count : ℕ) → Scanned g.places.pieces bound (Loses count) → ((i : ℕ) → 128 ≤ i → place g.places.pieces i ≡ None) → IsMoved long_space g g' count → bound' ≡ bound - count
    → bound' + tally waits g'.places.pieces 128 < bound + tally waits g.places.pieces 128
loses-fall g g' bound bound' count scanned past moved less =
    let left = tally-left waits g.places.pieces g'.places.pieces count refl moved.places past in
    elim (loses-is bound scanned.len count (place g.places.pieces scanned.len) scanned.is) [
      | inl t ↦ omega (arith, t.0, t.1)
      | inr t ↦ let one = tally-one waits g.places.pieces 0 count (omega (arith, t.0)) (first-waits g bound (Loses count) scanned t.1) in omega arith
    ]

ends-waits : (o : Option SlotPiece) → ends o ≡ true → waits o ≡ true
ends-waits None e = cc
ends-waits (Some p) e = refl

pub completes-fall : (g g' : GatherFacts) (bound bound' count : ℕ) → Scanned g.places.pieces bound (Completes count) → ((i : ℕ) → 128 ≤ i → place g.places.pieces i ≡ None) → IsMoved long_space g g' count → bound' ≡ bound - count
    → bound' + tally waits g'.places.pieces 128 < bound + tally waits g.places.pieces 128
completes-fall g g' bound bound' count scanned past moved less =
    let left = tally-left waits g.places.pieces g'.places.pieces count refl moved.places past in
    let t = completes-is bound scanned.len count (place g.places.pieces scanned.len) scanned.is in
    let one = tally-one waits g.places.pieces 0 count (omega (arith, t.0)) (first-waits g bound (Completes count) scanned (ends-waits (place g.places.pieces scanned.len) t.1)) in
    omega arith

packets-grow : (g g' : GatherFacts) (count : ℕ) (packets packets' : List (List ℕ)) → HasCompleted g g' count packets packets' → length packets' ≤ length packets + 1
packets-grow g g' count packets packets' completed =
    elim (cases_lt (g.mrru + 2) (length (joined_there g.places.pieces count))) [
      | inl long ↦ let e = ap length (completed.long long).0 in omega arith
      | inr fits ↦ let e = ap length (completed.fits fits).0 in omega (arith, length-append packets (joined_there g.places.pieces count ∷ []))
    ]

pub settling_completes : (first : GatherFacts) (packets0 : List (List ℕ)) (bound0 : ℕ) (g : GatherFacts) (packets : List (List ℕ)) (bound : ℕ) (g' : GatherFacts) (packets' : List (List ℕ)) (count bound' : ℕ)
    → Settling first packets0 bound0 g packets bound → Scanned g.places.pieces bound (Completes count) → ((i : ℕ) → 128 ≤ i → place g.places.pieces i ≡ None) → IsMoved long_space g g' count
    → HasCompleted g g' count packets packets' → bound' ≡ bound - count
    → Settling first packets0 bound0 g' packets' bound'
settling_completes first packets0 bound0 g packets bound g' packets' count bound' so_far scanned past moved completed less = record {
  mrru = moved.mrru ∙ so_far.mrru;
  room =
      let left = tally-left ends g.places.pieces g'.places.pieces count refl moved.places past in
      let one = run-ends g bound count scanned in
      let more = packets-grow g g' count packets packets' completed in
      omega (arith, so_far.room);
  goes = λ before s below holds is.
      let t = so_far.goes before s below holds is in
      let mid : Gathering = t.1 in
      let bound_is : bound ≡ below - mid.least = t.4 in
      let keeps : KeepsFacts long_space g mid = t.3.keeps in
      let rule : Rule g.mrru below mid (completes g.mrru mid count) = scanned_rule g.mrru below g mid (completes g.mrru mid count) bound (Completes count) keeps bound_is scanned refl in
      let after = completes_holds before g g' packets packets' mid count t.3 moved completed in
      let least : (completes g.mrru mid count).least ≡ mid.least + count = after.1 in
      let P = λ (m : ℕ). Rule m below mid (completes g.mrru mid count) in
      (suc t.0, completes g.mrru mid count, (mid, t.2, subst P so_far.mrru rule), after.0, omega arith);
}

pub settling_ends : (first : GatherFacts) (packets0 : List (List ℕ)) (bound0 : ℕ) (g : GatherFacts) (packets : List (List ℕ)) (bound : ℕ)
    → Settling first packets0 bound0 g packets bound → Scanned g.places.pieces bound Rests → HasSettled long_space bound0 first g packets0 packets
settling_ends first packets0 bound0 g packets bound so_far scanned = λ before s below holds is.
    let t = so_far.goes before s below holds is in
    let P = λ (m : ℕ). AtRest m below t.1 in
    (t.1, record { count = t.0; rules = t.2; rest = subst P so_far.mrru (scanned_rests g.mrru below g t.1 bound t.3.keeps t.4 scanned) }, t.3)

pub rests-empty : (g : GatherFacts) (bound : ℕ) → Scanned g.places.pieces bound Rests → ends (place g.places.pieces 0) ≡ false
rests-empty g bound scanned = elim (cases_lt 0 scanned.len) [
  | inl more ↦ let t = scanned.begun 0 more in ap ends t.1 ∙ t.3
  | inr none ↦ let e : scanned.len ≡ 0 = omega arith in let f : place g.places.pieces 0 ≡ None = rw (← e) (scanned.rests refl) in ap ends f
]

smaller : (a b c : ℕ) → a + b ≤ c → 1 ≤ b → c ≤ 128 → a < 128
smaller a b c h one most = omega arith

pub room_for : (first : GatherFacts) (packets0 : List (List ℕ)) (bound0 : ℕ) (g : GatherFacts) (packets : List (List ℕ)) (bound : ℕ)
    → Settling first packets0 bound0 g packets bound → 1 ≤ tally ends g.places.pieces 128 → length packets0 + tally ends first.places.pieces 128 ≤ 128 → length packets < 128
room_for first packets0 bound0 g packets bound so_far one most = smaller _ _ _ so_far.room one most

-- A call that begins at rest has room for what is given.
fewer : (places : List (Option SlotPiece)) → ends (place places 0) ≡ false → tally ends places 128 ≤ 127
fewer places rest = tally-rest ends places 127 rest

sum-first : (a b : ℕ) → a ≡ 0 → b ≤ 127 → a + b ≤ 128
sum-first a b e h = omega arith

pub room_first : (packets : List (List ℕ)) (places places2 : List (Option SlotPiece)) → packets ≡ [] → places2 ≡ places → ends (place places 0) ≡ false → length packets + tally ends places2 128 ≤ 128
room_first packets places places2 none same rest =
    sum-first (length packets) (tally ends places2 128) (ap length none) (fewer places2 (ap (λ ps. ends (place ps 0)) same ∙ rest))

-- A call that begins at rest has room for one packet more.
pub room_near : (packets : List (List ℕ)) (places : List (Option SlotPiece)) → packets ≡ [] → ends (place places 0) ≡ false → length packets + tally ends places 128 ≤ 127
room_near packets places none rest = let e : length packets ≡ 0 = ap length none in let h = fewer places rest in omega arith

pub room_far : (packets packets3 : List (List ℕ)) (places places3 places4 : List (Option SlotPiece)) (far : ℕ)
    → packets ≡ [] → ends (place places 0) ≡ false → length packets3 + tally ends places3 128 ≤ length packets + tally ends places 128
    → ((i : ℕ) → 128 ≤ i → place places3 i ≡ None) → ((i : ℕ) → place places4 i ≡ place places3 (i + far)) → length packets3 + tally ends places4 128 ≤ 127
room_far packets packets3 places places3 places4 far none rest room past moved =
    let most = room_near packets places none rest in
    let left = tally-left ends places3 places4 far refl moved past in
    omega arith

pub room_one : (packets : List (List ℕ)) (places places5 places6 : List (Option SlotPiece)) (d : ℕ) (p : SlotPiece) → length packets + tally ends places 128 ≤ 127 → IsKept places places5 d p → places6 ≡ places5 → length packets + tally ends places6 128 ≤ 128
room_one packets places places5 places6 d p room kept same =
    let one = tally-kept ends places places5 d 128 p kept in
    let e : tally ends places6 128 ≡ tally ends places5 128 = ap (λ ps. tally ends ps 128) same in
    omega arith

pub less-same : (a b c d : ℕ) → a < b + c → c ≡ d → a < b + d
less-same a b c d less same = omega arith
