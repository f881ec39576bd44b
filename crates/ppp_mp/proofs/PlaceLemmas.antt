-- Places of waiting pieces.
use Rattle.std.proofs.Common.{is_some, sym, cond, nat_eq, ◌≡◌, ◌≢◌, ◌⊎◌, ◌-◌, length-append, nat_lt, Bool, true, false, not, ℕ, ◌+◌, ◌<◌, ◌≤◌, zero, suc, List, [], ◌∷◌, length, Option, None, Some, refl, ap, ◌∙◌, arith}
use Rattle.std.proofs.lemmas.Bool.{cases_lt}
use Rattle.std.proofs.lemmas.Bool.Decides.{nat_tests}
use Rattle.std.proofs.Common.{inl, inr}
use mathlib.Core.Bool.{beq}
use Rattle.ppp_mp.specs.declared.slot_piece.SlotPiece.{SlotPiece}
use Rattle.ppp_mp.specs.Moves.{IsKept}
use Rattle.ppp_mp.specs.Ring.{octets_there}
use Rattle.ppp_mp.specs.Places.{place, joined_there, tally}
use Rattle.std.proofs.Math.ListN.{get_or}

pub same_bool : (a b : Bool) → not (beq a b) ≡ false → a ≡ b
same_bool true true e = refl
same_bool false false e = refl
same_bool true false e = cc
same_bool false true e = cc

pub joined-grows : (places : List (Option SlotPiece)) (i n : ℕ) → i ≤ n → length (joined_there places i) ≤ length (joined_there places n)
joined-grows places i zero le = let e : i ≡ 0 = omega arith in rw e (omega arith)
joined-grows places i (suc n) le = elim (cases_lt n i) [
  | inl same ↦ let e : i ≡ suc n = omega arith in rw e (omega arith)
  | inr below ↦ let h = joined-grows places i n below in omega (arith, length-append (joined_there places n) (octets_there (place places n)))
]

-- One more piece is too much, and so are all.
pub too-long : (places : List (Option SlotPiece)) (i n limit : ℕ) (p : SlotPiece) → i < n → place places i ≡ Some p → limit - length (joined_there places i) < length p.octets
    → nat_lt limit (length (joined_there places n)) ≡ true
too-long places i n limit p below there much =
    let h = joined-grows places (suc i) n below in
    let e : octets_there (place places i) ≡ p.octets = ap octets_there there in
    let g : length (octets_there (place places i)) ≡ length p.octets = ap length e in
    let more : limit < length (joined_there places n) = omega (arith, length-append (joined_there places i) (octets_there (place places i))) in
    grind (arith, nat_tests)

pub get_or-twice : {X : Type 0} (xs : List X) (i : ℕ) (d : X) → get_or xs i d ≡ get_or xs i (get_or xs i d)
get_or-twice [] i d = refl
get_or-twice (x ∷ xs) zero d = refl
get_or-twice (x ∷ xs) (suc i) d = get_or-twice xs i d

-- what is told over places that have moved on
pub tally-moved : (test : Option SlotPiece → Bool) (old new : List (Option SlotPiece)) (count n : ℕ) → ((i : ℕ) → place new i ≡ place old (i + count)) → tally test new n + tally test old count ≡ tally test old (n + count)
tally-moved test old new count zero moved = let e : 0 + count ≡ count = omega arith in rw e (omega arith)
tally-moved test old new count (suc n) moved =
    let h = tally-moved test old new count n moved in
    let e : suc n + count ≡ suc (n + count) = omega arith in
    rw (e, moved n) (omega arith)

pub tally-past : (test : Option SlotPiece → Bool) (old : List (Option SlotPiece)) (n more : ℕ) → test None ≡ false → ((i : ℕ) → n ≤ i → place old i ≡ None) → tally test old (n + more) ≡ tally test old n
tally-past test old n zero none past = let e : n + 0 ≡ n = omega arith in rw e refl
tally-past test old n (suc more) none past =
    let h = tally-past test old n more none past in
    let e : n + suc more ≡ suc (n + more) = omega arith in
    let f : place old (n + more) ≡ None = past (n + more) (omega arith) in
    rw (e, f, none) (omega arith)

-- Of places that have moved on, no more are left.
pub tally-left : (test : Option SlotPiece → Bool) (old new : List (Option SlotPiece)) (count : ℕ) → test None ≡ false → ((i : ℕ) → place new i ≡ place old (i + count)) → ((i : ℕ) → 128 ≤ i → place old i ≡ None)
    → tally test new 128 + tally test old count ≡ tally test old 128
tally-left test old new count none moved past = tally-moved test old new count 128 moved ∙ tally-past test old 128 count none past

pub tally-one : (test : Option SlotPiece → Bool) (places : List (Option SlotPiece)) (i n : ℕ) → i < n → test (place places i) ≡ true → 1 ≤ tally test places n
tally-one test places i zero below is = absurd (omega arith)
tally-one test places i (suc n) below is = elim (cases_lt i n) [
  | inl before ↦ let h = tally-one test places i n before is in omega arith
  | inr at ↦ let e : i ≡ n = omega arith in let f : test (place places n) ≡ true = rw (← e) is in rw f (omega arith)
]

at-most-one : (b : Bool) → cond b 1 0 ≤ 1
at-most-one true = omega arith
at-most-one false = omega arith

-- Where the first place isn't counted, one less is.
pub tally-rest : (test : Option SlotPiece → Bool) (places : List (Option SlotPiece)) (n : ℕ) → test (place places 0) ≡ false → tally test places (suc n) ≤ n
tally-rest test places zero first = rw first (omega arith)
tally-rest test places (suc n) first =
    let h = tally-rest test places n first in
    let one = at-most-one (test (place places (suc n))) in
    omega arith

pub tally-same : (test : Option SlotPiece → Bool) (old new : List (Option SlotPiece)) (n : ℕ) → ((j : ℕ) → j < n → place new j ≡ place old j) → tally test new n ≡ tally test old n
tally-same test old new zero same = refl
tally-same test old new (suc n) same =
    let h = tally-same test old new n (λ j below. same j (omega arith)) in
    let e : place new n ≡ place old n = same n (omega arith) in
    rw (e, h) refl

-- A piece that is put adds one at most.
pub tally-put : (test : Option SlotPiece → Bool) (old new : List (Option SlotPiece)) (d n : ℕ) (p : SlotPiece) → ((j : ℕ) → place new j ≡ cond (nat_eq j d) (Some p) (place old j)) → tally test new n ≤ tally test old n + 1
tally-put test old new d zero p put = omega arith
tally-put test old new d (suc n) p put = elim (cases_lt n d) [
  | inl below ↦
      let same : tally test new (suc n) ≡ tally test old (suc n) = tally-same test old new (suc n) (λ j le. let f : nat_eq j d ≡ false = grind (arith, nat_tests) in put j ∙ rw f refl) in
      omega arith
  | inr past ↦ elim (cases_lt d n) [
    | inl after ↦
        let h = tally-put test old new d n p put in
        let f : nat_eq n d ≡ false = grind (arith, nat_tests) in
        let e : place new n ≡ place old n = put n ∙ rw f refl in
        rw e (omega arith)
    | inr here ↦
        let same : tally test new n ≡ tally test old n = tally-same test old new n (λ j le. let f : nat_eq j d ≡ false = grind (arith, nat_tests) in put j ∙ rw f refl) in
        let one = at-most-one (test (place new n)) in
        omega arith
  ]
]

option_cases : (o : Option SlotPiece) → (o ≡ None) ⊎ (o ≢ None)
option_cases None = inl refl
option_cases (Some p) = inr (λ h. cc)

-- A piece that is kept adds one at most.
pub tally-kept : (test : Option SlotPiece → Bool) (old new : List (Option SlotPiece)) (d n : ℕ) (p : SlotPiece) → IsKept old new d p → tally test new n ≤ tally test old n + 1
tally-kept test old new d n p is = elim (option_cases (place old d)) [
  | inl none ↦ tally-put test old new d n p (is.empty none)
  | inr there ↦ let same = tally-same test old new n (λ j below. is.taken there j) in omega arith
]

-- What fits is what isn't too long.
pub fits_is : (fits : Bool) (limit : ℕ) (octets : List ℕ) → (fits ≡ true → length octets ≤ limit) → (fits ≡ false → limit < length octets) → fits ≡ not (nat_lt limit (length octets))
fits_is true limit octets short long = let le : length octets ≤ limit = short refl in let t : nat_lt limit (length octets) ≡ false = grind (arith, nat_tests) in rw t refl
fits_is false limit octets short long = let lt : limit < length octets = long refl in let t : nat_lt limit (length octets) ≡ true = grind (arith, nat_tests) in rw t refl

pub none_waits : (o : Option SlotPiece) (waits : Bool) → waits ≡ is_some o → waits ≡ false → o ≡ None
none_waits None waits is not_it = refl
none_waits (Some p) waits is not_it = absurd (let e : true ≡ false = sym is ∙ not_it in cc)
