-- What contracts see of a gatherer keeps what its facts keep.
use Rattle.std.proofs.Common.{◌≡◌, ℕ, ◌+◌, ◌<◌, ◌≤◌, ◌%◌, zero, suc, nat_eq, replicate, true, false, List, [], ◌∷◌, Option, None, Some, option_map, refl, sym, ap, subst, ◌∙◌, arith}
use Rattle.std.proofs.lemmas.Bool.Decides.{nat_tests}
use Rattle.ppp_mp.specs.Pieces.{piece_at}
use Rattle.ppp_mp.specs.Delivered.{Gathering, nothing}
use Rattle.ppp_mp.specs.Header.{long_space}
use Rattle.ppp_mp.specs.Places.{PlacesNow, place}
use Rattle.ppp_mp.specs.StandsFor.{KeepsNow, StandsFor, AreRising, full_piece}
use Rattle.ppp_mp.specs.declared.counts.GatherCounts.{GatherCounts}
use Rattle.ppp_mp.specs.Facts.{KeepsFacts, waiting, waiting_from, now_of}
use Rattle.ppp_mp.specs.declared.slot_piece.SlotPiece.{SlotPiece}
use Rattle.ppp_mp.specs.declared.facts.GatherFacts.{GatherFacts}

none_below : (j n : ℕ) (places : List (Option SlotPiece)) → n < j → piece_at n (waiting_from j places) ≡ None
none_below j n [] below = refl
none_below j n (None ∷ places) below = none_below (j + 1) n places (omega arith)
none_below j n (Some p ∷ places) below = let t : nat_eq j n ≡ false = grind (arith, nat_tests) in rw t (none_below (j + 1) n places (omega arith))

waits_at : (j i : ℕ) (places : List (Option SlotPiece)) → piece_at (j + i) (waiting_from j places) ≡ option_map (waiting (j + i)) (place places i)
waits_at j i [] = refl
waits_at j zero (None ∷ places) = none_below (j + 1) (j + 0) places (omega arith)
waits_at j (suc i) (None ∷ places) =
    let e : j + 1 + i ≡ j + suc i = omega arith in
    subst (λ (n : ℕ). piece_at n (waiting_from (j + 1) places) ≡ option_map (waiting n) (place places i)) e (waits_at (j + 1) i places)
waits_at j zero (Some p ∷ places) =
    let t : nat_eq j (j + 0) ≡ true = grind (arith, nat_tests) in
    let e : j ≡ j + 0 = omega arith in
    rw t (ap (λ n. Some (waiting n p)) e)
waits_at j (suc i) (Some p ∷ places) =
    let t : nat_eq j (j + suc i) ≡ false = grind (arith, nat_tests) in
    let e : j + 1 + i ≡ j + suc i = omega arith in
    rw t (subst (λ (n : ℕ). piece_at n (waiting_from (j + 1) places) ≡ option_map (waiting n) (place places i)) e (waits_at (j + 1) i places))

waits_here : (i : ℕ) (places : List (Option SlotPiece)) → piece_at i (waiting_from 0 places) ≡ option_map (waiting i) (place places i)
waits_here i places =
    let e : 0 + i ≡ i = omega arith in
    subst (λ (n : ℕ). piece_at n (waiting_from 0 places) ≡ option_map (waiting n) (place places i)) e (waits_at 0 i places)

rising : (low j : ℕ) (places : List (Option SlotPiece)) → low ≤ j → AreRising low (waiting_from j places)
rising low j [] le = tt
rising low j (None ∷ places) le = rising low (j + 1) places (omega arith)
rising low j (Some p ∷ places) le = (le, rising (j + 1) (j + 1) places (omega arith))

with_least : (least i : ℕ) (o : Option SlotPiece) → option_map (full_piece least) (option_map (waiting i) o) ≡ option_map (waiting (least + i)) o
with_least least i None = refl
with_least least i (Some p) = refl

full_waits : (least i : ℕ) (places : List (Option SlotPiece)) → option_map (full_piece least) (piece_at i (waiting_from 0 places)) ≡ option_map (waiting (least + i)) (place places i)
full_waits least i places = ap (option_map (full_piece least)) (waits_here i places) ∙ with_least least i (place places i)

pub now_keeps : (space : ℕ) (g : GatherFacts) (s : Gathering) → KeepsFacts space g s → KeepsNow space (now_of g) s
now_keeps space g s k = record {
  least = k.base;
  raised = k.raised;
  waiting = λ i. k.places i ∙ sym (full_waits s.least i g.places.pieces);
  rising = rising 0 0 g.places.pieces (omega arith);
  overs = k.overs;
  counts = k.counts;
}

pub facts_keep : (space : ℕ) (g : GatherFacts) (s : Gathering) → KeepsNow space (now_of g) s → KeepsFacts space g s
facts_keep space g s k = record {
  base = k.least;
  raised = k.raised;
  places = λ i. k.waiting i ∙ full_waits s.least i g.places.pieces;
  overs = k.overs;
  counts = k.counts;
}

-- A gatherer in which nothing waits, which nothing has reached.
pub begun_stands : (mrru : ℕ) (places : PlacesNow) (overs : List (Option ℕ)) (counts : GatherCounts) → places.base ≡ 0 → ((i : ℕ) → place places.pieces i ≡ None) → overs ≡ replicate 16 None
    → counts ≡ record { old = 0; doubled = 0; lost = 0; too_long = 0 }
    → StandsFor long_space (record { mrru = mrru; least = places.base; waiting = waiting_from 0 places.pieces; overs = overs; counts = counts; looks = places.looks }) [] (nothing long_space)
begun_stands mrru places overs counts base none out no_counts = record {
  delivered = refl;
  keeps = record {
    least = let e : 0 ≡ long_space % long_space = omega arith in base ∙ e;
    raised = omega arith;
    waiting = λ i. sym (full_waits long_space i places.pieces ∙ ap (option_map (waiting (long_space + i))) (none i));
    rising = rising 0 0 places.pieces (omega arith);
    overs = out;
    counts = no_counts;
  };
}
