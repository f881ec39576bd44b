-- Sixteen octets looked at together.
use Rattle.std.proofs.Common.{◌≡◌, ◌≢◌, ℕ, ◌+◌, ◌<◌, ◌≤◌, ◌^◌, ◌==◌, Bool, true, false, cond, List, ◌++◌, length, map, take, drop, get_or, refl, sym, ap, ◌∙◌, arith, inl, inr, w64, lit<}
use Rattle.std.specs.Prelude.{bit_or, max}
use Rattle.std.specs.Int.{bit_at, trailing_zeros}
use Rattle.std.specs.Simd.Lanes.{mask_l}
use Rattle.std.proofs.lemmas.Simd.{bit_mask_l}
use Rattle.std.proofs.lemmas.List.{get_or-map, length-take-le, take-take}
use Rattle.std.proofs.Math.Seq.{take-append-add}
use Rattle.std.proofs.lemmas.Bool.{cases_lt}
use Rattle.std.proofs.lemmas.Bool.Decides.{nat_tests}
use Rattle.std.proofs.lemmas.Nat.{or_lt}
use Rattle.std.proofs.lemmas.Nat.Bits.{bit_at_or, bit_at-trailing_zeros, bit_at-pow_same, bit_at-lt, bit_at-zero}
use Rattle.ppp_hdlc.specs.Octets.{is_mapped}
use Rattle.ppp_hdlc.specs.Encoding.{is_escaped}

-- a bit that is not set, at a mask of lanes that pass a test
pub unset : (p : ℕ → Bool) (v : List ℕ) (m k : ℕ) → m ≡ mask_l (map p v) → k < length v → bit_at m k ≡ 0 → p (get_or v k 0) ≡ false
unset p v m k is within none =
    through (p (get_or v k 0)) refl
  where
    at : bit_at m k ≡ cond (get_or (map p v) k false) 1 0
    at = ap (λ n. bit_at n k) is ∙ bit_mask_l (map p v) k

    through : (b : Bool) → p (get_or v k 0) ≡ b → p (get_or v k 0) ≡ false
    through false same = same
    through true same = absurd (omega (arith, sym none ∙ at ∙ ap (λ (b : Bool). cond b 1 0) (get_or-map p v k 0 false within ∙ same)))

-- what has a bit set is not 0
some_bit : (n k : ℕ) → bit_at n k ≡ 1 → 0 < n
some_bit n k one =
    elim (cases_lt 0 n) [ inl above ↦ above | inr none ↦ let zero_is : n ≡ 0 = omega arith in absurd (omega (arith, sym one ∙ ap (λ n. bit_at n k) zero_is ∙ bit_at-zero k)) ]

full : (n : ℕ) → n < 2 → max n (bit_at 65536 16) ≡ 1
full n small = omega (arith, bit_at-pow_same 16)

-- the sixteenth bit, behind those of the lanes
last_bit : (n : ℕ) → bit_at (bit_or n 65536) 16 ≡ 1
last_bit n = bit_at_or n 65536 16 ∙ full (bit_at n 16) (bit_at-lt n 16)

pub lowest_within : (n : ℕ) → bit_or n 65536 < 2 ^ 64 → trailing_zeros w64 (bit_or n 65536) ≤ 16
lowest_within n fits =
    let low = bit_at-trailing_zeros w64 (bit_or n 65536) (some_bit (bit_or n 65536) 16 (last_bit n)) fits in
    elim (cases_lt 16 (trailing_zeros w64 (bit_or n 65536))) [ inl above ↦ absurd (omega (arith, sym (last_bit n) ∙ low.2 16 above)) | inr within ↦ within ]

left-zero : (m n : ℕ) → max m n ≡ 0 → m ≡ 0
left-zero m n none = omega (arith, none)

right-zero : (m n : ℕ) → max m n ≡ 0 → n ≡ 0
right-zero m n none = omega (arith, none)

left-unset : (m n k : ℕ) → bit_at (bit_or m n) k ≡ 0 → bit_at m k ≡ 0
left-unset m n k none = left-zero (bit_at m k) (bit_at n k) (sym (bit_at_or m n k) ∙ none)

right-unset : (m n k : ℕ) → bit_at (bit_or m n) k ≡ 0 → bit_at n k ≡ 0
right-unset m n k none = right-zero (bit_at m k) (bit_at n k) (sym (bit_at_or m n k) ∙ none)

plain_lane : (map x low : ℕ) → x ≢ 0x7e → x ≢ 0x7d → low ≤ x → ((octet : ℕ) → low ≤ octet → is_mapped map octet ≡ false) → is_escaped map x ≡ false
plain_lane map x low no_flag no_escape high unmapped =
    let flag : (x == 0x7e) ≡ false = grind (arith, nat_tests) in
    let escape : (x == 0x7d) ≡ false = grind (arith, nat_tests) in
    rw (escape, flag) (unmapped x high)

-- below the lowest bit of the three masks, each lane goes over the line as it is
pub plain_below : (map low : ℕ) (lanes : List ℕ) (a b c k : ℕ) → bit_or (bit_or (bit_or a b) c) 65536 < 2 ^ 64
    → ((k : ℕ) → k < 16 → bit_at a k ≡ 0 → get_or lanes k 0 ≢ 0x7e)
    → ((k : ℕ) → k < 16 → bit_at b k ≡ 0 → get_or lanes k 0 ≢ 0x7d)
    → ((k : ℕ) → k < 16 → bit_at c k ≡ 0 → low ≤ get_or lanes k 0)
    → ((octet : ℕ) → low ≤ octet → is_mapped map octet ≡ false)
    → k < trailing_zeros w64 (bit_or (bit_or (bit_or a b) c) 65536) → is_escaped map (get_or lanes k 0) ≡ false
plain_below map low lanes a b c k fits flags escapes lows unmapped below =
    let n = bit_or (bit_or a b) c in
    let lowest = bit_at-trailing_zeros w64 (bit_or (bit_or (bit_or a b) c) 65536) (some_bit (bit_or (bit_or (bit_or a b) c) 65536) 16 (last_bit (bit_or (bit_or a b) c))) fits in
    let none : bit_at (bit_or (bit_or a b) c) k ≡ 0 = left-unset (bit_or (bit_or a b) c) 65536 k (lowest.2 k below) in
    let front : bit_at (bit_or a b) k ≡ 0 = left-unset (bit_or a b) c k none in
    let within : k < 16 = omega (arith, lowest_within (bit_or (bit_or a b) c) fits) in
    plain_lane map (get_or lanes k 0) low (flags k within (left-unset a b k front)) (escapes k within (right-unset a b k front)) (lows k within (right-unset (bit_or a b) c k none)) unmapped

-- the first of sixteen written behind what was there
pub written : (xs ys lanes octets : List ℕ) (count at run : ℕ) → take (count + 16) ys ≡ take count xs ++ lanes → lanes ≡ take 16 (drop at octets) → run ≤ 16 → count ≤ length xs
    → take (count + run) ys ≡ take count xs ++ take run (drop at octets)
written xs ys lanes octets count at run front lanes_are short within =
    sym (take-take (count + run) (count + 16) ys (omega arith))
    ∙ ap (λ l. take (count + run) l) (front ∙ ap (λ l. take count xs ++ l) lanes_are)
    ∙ ap (λ n. take (n + run) (take count xs ++ take 16 (drop at octets))) (sym (length-take-le count xs within))
    ∙ take-append-add (take count xs) (take 16 (drop at octets)) run
    ∙ ap (λ l. take count xs ++ l) (take-take run 16 (drop at octets) short)

pub masks_fit : (a b c : ℕ) → a < 2 ^ 64 → b < 2 ^ 64 → c < 2 ^ 64 → bit_or (bit_or (bit_or a b) c) 65536 < 2 ^ 64
masks_fit a b c a_fits b_fits c_fits = or_lt 64 (bit_or (bit_or a b) c) 65536 (or_lt 64 (bit_or a b) c (or_lt 64 a b a_fits b_fits) c_fits) (lit< tt)
