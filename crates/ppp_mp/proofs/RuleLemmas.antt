-- The rule that a scan of the places finds is the rule that applies.
use Rattle.std.proofs.Common.{◌≡◌, ℕ, ◌+◌, ◌-◌, ◌==◌, zero, suc, max, min, nat_lt, cond, Bool, true, false, List, [], ◌∷◌, map, Option, None, Some, option_map, refl, sym, ap, ◌∙◌, arith, inl, inr}
use Rattle.std.proofs.Math.Nat.{mod-add-mod}
use Rattle.std.proofs.lemmas.Bool.{cases_lt}
use Rattle.std.proofs.lemmas.Bool.Decides.{nat_tests}
use Rattle.ppp_mp.specs.Pieces.{Piece, piece_at, joined, octets_of, Begun}
use Rattle.ppp_mp.specs.Delivered.{Gathering, Rule, AtRest, ruled, loses, completes}
use Rattle.ppp_mp.specs.Ring.{octets_there}
use Rattle.ppp_mp.specs.Places.{place, rule_at, goes_on_there, Scanned, BegunThere, joined_there}
use Rattle.ppp_mp.specs.Moves.{IsMoved}
use Rattle.ppp_mp.specs.Facts.{KeepsFacts, waiting}
use Rattle.ppp_mp.specs.StandsFor.{stopped, counted}
use Rattle.ppp_mp.specs.Header.{long_space}
use Rattle.ppp_mp.specs.declared.slot_piece.SlotPiece.{SlotPiece}
use Rattle.ppp_mp.specs.declared.places.RuleNow.{RuleNow}
use Rattle.ppp_mp.specs.declared.places.RuleNow.TheVariants.{Rests, Misses, Loses, Completes}
use Rattle.ppp_mp.specs.declared.facts.GatherFacts.{GatherFacts}

-- what a rule makes of a gathering
abbrev pub made_by : ℕ → Gathering → RuleNow → Option Gathering
made_by mrru s Rests = None
made_by mrru s (Misses count) = None
made_by mrru s (Loses count) = Some (loses s count)
made_by mrru s (Completes count) = Some (completes mrru s count)

below-shift : (least len below : ℕ) → nat_lt (least + len) below ≡ nat_lt len (below - least)
below-shift least len below = grind (arith, nat_tests)

none_case : (mrru : ℕ) (s : Gathering) (count : ℕ) (b : Bool) → cond b (Some (loses s count)) None ≡ made_by mrru s (cond b (Loses count) Rests)
none_case mrru s count true = refl
none_case mrru s count false = refl

some_case : (mrru : ℕ) (s : Gathering) (most count : ℕ) (a b : Bool) → cond a (cond b (Some (completes mrru s count)) None) (Some (loses s most)) ≡ made_by mrru s (cond a (cond b (Completes count) Rests) (Loses most))
some_case mrru s most count true true = refl
some_case mrru s most count true false = refl
some_case mrru s most count false b = refl

pub ruled-made : (mrru below : ℕ) (s : Gathering) (bound len n : ℕ) (o : Option SlotPiece) → bound ≡ below - s.least → ruled mrru below s len (option_map (waiting n) o) ≡ made_by mrru s (rule_at bound len o)
ruled-made mrru below s bound len n None is = rw (is, below-shift s.least len below) (none_case mrru s (len + 1) (nat_lt len (below - s.least)))
ruled-made mrru below s bound len n (Some p) is = some_case mrru s (max len 1) (len + 1) (goes_on_there p len) p.last

pub begun_is : (g : GatherFacts) (s : Gathering) → KeepsFacts long_space g s → (len : ℕ) → BegunThere g.places.pieces len → Begun s.kept s.least len
begun_is g s k len begun = λ i below. let t = begun i below in (waiting (s.least + i) t.0, k.places i ∙ ap (option_map (waiting (s.least + i))) t.1, t.2, t.3)

pub scanned_rule : (mrru below : ℕ) (g : GatherFacts) (s new : Gathering) (bound : ℕ) (rule : RuleNow) → KeepsFacts long_space g s → bound ≡ below - s.least → Scanned g.places.pieces bound rule
    → made_by mrru s rule ≡ Some new → Rule mrru below s new
scanned_rule mrru below g s new bound rule k is scanned makes = record {
  len = scanned.len;
  begun = begun_is g s k scanned.len scanned.begun;
  applies =
      ap (ruled mrru below s scanned.len) (k.places scanned.len)
      ∙ ruled-made mrru below s bound scanned.len (s.least + scanned.len) (place g.places.pieces scanned.len) is
      ∙ ap (made_by mrru s) scanned.is
      ∙ makes;
}

pub inside_rests : (mrru below : ℕ) (s : Gathering) (len : ℕ) (p : Piece) → p.first ≡ (len == 0) → p.last ≡ false → ruled mrru below s len (Some p) ≡ None
inside_rests mrru below s zero p first last = rw (first, last) refl
inside_rests mrru below s (suc len) p first last = let e : (suc len == 0) ≡ false = grind (arith, nat_tests) in rw (first, last, e) refl

pub scanned_rests : (mrru below : ℕ) (g : GatherFacts) (s : Gathering) (bound : ℕ) → KeepsFacts long_space g s → bound ≡ below - s.least → Scanned g.places.pieces bound Rests → AtRest mrru below s
scanned_rests mrru below g s bound k is scanned = λ len begun. elim (cases_lt len scanned.len) [
  | inl before ↦
      let t = begun_is g s k scanned.len scanned.begun len before in
      ap (ruled mrru below s len) t.1 ∙ inside_rests mrru below s len t.0 t.2 t.3
  | inr past ↦ elim (cases_lt scanned.len len) [
    | inl behind_it ↦
        let t = begun scanned.len behind_it in
        let none : piece_at (s.least + scanned.len) s.kept ≡ None = k.places scanned.len ∙ ap (option_map (waiting (s.least + scanned.len))) (scanned.rests refl) in
        absurd (let e : None ≡ Some t.0 = sym none ∙ t.1 in cc)
    | inr same ↦
        let at : len ≡ scanned.len = omega arith in
        rw at (
        ap (ruled mrru below s scanned.len) (k.places scanned.len)
        ∙ ruled-made mrru below s bound scanned.len (s.least + scanned.len) (place g.places.pieces scanned.len) is
        ∙ ap (made_by mrru s) scanned.is
        )
  ]
]

-- The numbers move on.
octets-same : (n : ℕ) (o : Option SlotPiece) → octets_of (option_map (waiting n) o) ≡ octets_there o
octets-same n None = refl
octets-same n (Some p) = refl

pub joined-same : (g : GatherFacts) (s : Gathering) → KeepsFacts long_space g s → (len : ℕ) → joined s.kept s.least len ≡ joined_there g.places.pieces len
joined-same g s k zero = refl
joined-same g s k (suc len) =
    let e : octets_of (piece_at (s.least + len) s.kept) ≡ octets_there (place g.places.pieces len) = ap octets_of (k.places len) ∙ octets-same (s.least + len) (place g.places.pieces len) in
    let f = joined-same g s k len in
    rw (e, f) refl

less-less : (a b : ℕ) (o : Option ℕ) → option_map (λ n. n - b) (option_map (λ n. n - a) o) ≡ option_map (λ n. n - (a + b)) o
less-less a b None = refl
less-less a b (Some n) = let e : (n - a) - b ≡ n - (a + b) = omega arith in ap Some e

overs-move : (a b : ℕ) (os : List (Option ℕ)) → map (option_map (λ n. n - b)) (map (option_map (λ n. n - a)) os) ≡ map (option_map (λ n. n - (a + b))) os
overs-move a b [] = refl
overs-move a b (o ∷ os) = let e = less-less a b o in let f = overs-move a b os in rw (e, f) refl

pub moves : (old new : GatherFacts) (s s' : Gathering) (count : ℕ) → KeepsFacts long_space old s → IsMoved long_space old new count
    → s'.least ≡ s.least + count → s'.kept ≡ s.kept → s'.brought ≡ s.brought → new.counts ≡ counted s' → KeepsFacts long_space new s'
moves old new s s' count k moved least kept brought counts = record {
  base = moved.base ∙ rw (k.base, least) (mod-add-mod s.least long_space count);
  raised = omega (arith, k.raised);
  places = λ i.
      let at : s'.least + i ≡ s.least + (i + count) = omega arith in
      rw (at, kept, moved.places i) (k.places (i + count));
  overs = moved.overs ∙ rw (k.overs, least, brought) (overs-move s.least count s.brought);
  counts = counts;
}

stop-more : (a b most : ℕ) → min (min a most + b) most ≡ min (a + b) most
stop-more a b most = omega arith

pub stopped-more : (a b : ℕ) → stopped (stopped a + b) ≡ stopped (a + b)
stopped-more a b = stop-more a b 18446744073709551615
