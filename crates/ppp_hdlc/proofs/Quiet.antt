-- Escaped octets: none is a flag, none is removed, and they are unescaped to what they were.
use Rattle.std.proofs.Common.{◌≡◌, ◌≢◌, ℕ, ◌+◌, ◌<◌, ◌≤◌, ◌⊎◌, true, false, nat_lt, nat_eq, List, [], ◌∷◌, ◌++◌, map, refl, sym, ap, ◌∙◌, arith, inl, inr, append-nil, append_assoc, lit≤}
use Rattle.std.specs.Prelude.{bit_xor}
use Rattle.std.specs.List.{AllByRecursion}
use Rattle.std.specs.Int.{bit_at}
use Rattle.std.specs.Int.Bits.{xor_self, xor_zero_r, xor_assoc, xor_shifted}
use Rattle.std.proofs.lemmas.Nat.{xor_comm}
use Rattle.std.proofs.lemmas.Bool.{lt-ltb, cases_lt}
use Rattle.std.proofs.lemmas.Bool.Decides.{nat_tests, eqb_tells}
use Rattle.ppp_hdlc.specs.Frames.{Received, Frames, is_removed, unescaped, ends_escaping}
use Rattle.ppp_hdlc.specs.Octets.{is_escape}
use Rattle.ppp_hdlc.specs.Encoding.{escape, escaped}
use Rattle.ppp_hdlc.specs.Arrives.{IsWithin}
use Rattle.ppp_hdlc.proofs.Escaping.{escaped-none, escaped-cons}
use Rattle.ppp_hdlc.proofs.Unescaping.{unescaped-none, unescaped-one, unescaped-two, escaping-none, escaping-one, escaping-two}
use Rattle.ppp_hdlc.proofs.Steps.{opened, opened-other, frames-other}

-- an octet that is no flag, and that the map doesn't have removed
pub record IsSafe (sending octet : ℕ) : Type 0 where
  pub no_flag : octet ≢ 0x7e
  pub stays : octet < 32 → bit_at sending octet ≢ 1

-- an octet behind an escape
record IsPaired (sending octet : ℕ) : Type 0 where
  is : escape sending octet ≡ 0x7d ∷ bit_xor octet 32 ∷ []
  high : 32 ≤ bit_xor octet 32
  no_flag : bit_xor octet 32 ≢ 0x7e

-- an octet that is sent as it is
record IsSingle (sending octet : ℕ) : Type 0 where
  is : escape sending octet ≡ octet ∷ []
  no_escape : octet ≢ 0x7d
  safe : IsSafe sending octet

pub xor-twice : (x : ℕ) → bit_xor (bit_xor x 32) 32 ≡ x
xor-twice x = xor_assoc x 32 32 ∙ ap (λ n. bit_xor x n) (xor_self 32) ∙ xor_zero_r x

xor-low : (x : ℕ) → x < 32 → bit_xor x 32 ≡ 32 + x
xor-low x low = xor_comm x 32 ∙ xor_shifted 1 5 x low

escape_cases : (sending octet : ℕ) → IsPaired sending octet ⊎ IsSingle sending octet
escape_cases sending octet =
    elim (eqb_tells octet 0x7d) [
      | inl is_escape ↦ inl (record { is = rw is_escape.1 refl; high = rw is_escape.1 (lit≤ tt); no_flag = rw is_escape.1 (λ same. absurd (omega (arith, same))) })
      | inr no_escape ↦
          elim (eqb_tells octet 0x7e) [
            | inl is_flag ↦ inl (record { is = rw is_flag.1 refl; high = rw is_flag.1 (lit≤ tt); no_flag = rw is_flag.1 (λ same. absurd (omega (arith, same))) })
            | inr no_flag ↦
                elim (cases_lt octet 32) [
                  | inl low ↦
                      let test : nat_lt octet 32 ≡ true = lt-ltb _ _ low in
                      elim (eqb_tells (bit_at sending octet) 1) [
                        | inl set ↦ inl (record { is = rw (no_escape.0, no_flag.0, test, set.0) refl; high = rw (xor-low octet low) (omega arith); no_flag = rw (xor-low octet low) (λ same. absurd (omega (arith, same))) })
                        | inr unset ↦ inr (record { is = rw (no_escape.0, no_flag.0, test, unset.0) refl; no_escape = no_escape.1; safe = record { no_flag = no_flag.1; stays = λ l. unset.1 } })
                      ]
                  | inr high ↦
                      let test : nat_lt octet 32 ≡ false = grind (arith, nat_tests) in
                      inr (record { is = rw (no_escape.0, no_flag.0, test) refl; no_escape = no_escape.1; safe = record { no_flag = no_flag.1; stays = λ low. absurd (omega arith) } })
                ]
          ]
    ]

safe-append : (sending : ℕ) (xs ys : List ℕ) → AllByRecursion (IsSafe sending) xs → AllByRecursion (IsSafe sending) ys → AllByRecursion (IsSafe sending) (xs ++ ys)
safe-append sending [] ys safe more = more
safe-append sending (x ∷ xs) ys safe more = (safe.0, safe-append sending xs ys safe.1 more)

pub safe-escaped : (sending : ℕ) (xs : List ℕ) → AllByRecursion (IsSafe sending) (escaped sending xs)
safe-escaped sending [] = rw escaped-none tt
safe-escaped sending (x ∷ xs) =
    rw (escaped-cons sending x xs)
    (elim (escape_cases sending x) [
      | inl pair ↦ rw pair.is (record { no_flag = omega arith; stays = λ low. absurd (omega arith) }, (record { no_flag = pair.no_flag; stays = λ low. absurd (omega (arith, pair.high)) }, safe-escaped sending xs))
      | inr single ↦ rw single.is (single.safe, safe-escaped sending xs)
    ])

unescaped-other : (x : ℕ) (xs : List ℕ) → x ≢ 0x7d → unescaped (x ∷ xs) ≡ x ∷ unescaped xs
unescaped-other x [] other =
    let no : is_escape x ≡ false = grind (arith, nat_tests) in
    rw (unescaped-one, no, unescaped-none) refl
unescaped-other x (y ∷ xs) other =
    let no : is_escape x ≡ false = grind (arith, nat_tests) in
    rw (unescaped-two, no) refl

escaping-other : (x : ℕ) (xs : List ℕ) → x ≢ 0x7d → ends_escaping (x ∷ xs) ≡ ends_escaping xs
escaping-other x [] other =
    let no : is_escape x ≡ false = grind (arith, nat_tests) in
    rw (escaping-one, escaping-none) no
escaping-other x (y ∷ xs) other =
    let no : is_escape x ≡ false = grind (arith, nat_tests) in
    rw (escaping-two, no) refl

pub unescaped-escaped : (sending : ℕ) (xs : List ℕ) → unescaped (escaped sending xs) ≡ xs
unescaped-escaped sending [] = rw escaped-none unescaped-none
unescaped-escaped sending (x ∷ xs) =
    rw (escaped-cons sending x xs)
    (elim (escape_cases sending x) [
      | inl pair ↦ rw pair.is (unescaped-two 0x7d (bit_xor x 32) (escaped sending xs) ∙ rw (xor-twice x, unescaped-escaped sending xs) refl)
      | inr single ↦ rw single.is (unescaped-other x (escaped sending xs) single.no_escape ∙ ap (λ l. x ∷ l) (unescaped-escaped sending xs))
    ])

pub escaping-escaped : (sending : ℕ) (xs : List ℕ) → ends_escaping (escaped sending xs) ≡ false
escaping-escaped sending [] = rw escaped-none escaping-none
escaping-escaped sending (x ∷ xs) =
    rw (escaped-cons sending x xs)
    (elim (escape_cases sending x) [
      | inl pair ↦ rw pair.is (escaping-two 0x7d (bit_xor x 32) (escaped sending xs) ∙ escaping-escaped sending xs)
      | inr single ↦ rw single.is (escaping-other x (escaped sending xs) single.no_escape ∙ escaping-escaped sending xs)
    ])

-- A safe octet under a map that is within the sender's is not removed.
kept : (sending : ℕ) (r : Received) → IsSafe sending r.0 → IsWithin r.1 sending → is_removed r ≡ false
kept sending r safe within =
    elim (cases_lt r.0 32) [
      | inl low ↦
          let unset : nat_eq (bit_at r.1 r.0) 1 ≡ false = grind (arith, nat_tests, safe.stays low, within r.0 low) in
          let test : nat_lt r.0 32 ≡ true = lt-ltb _ _ low in
          rw (test, unset) refl
      | inr high ↦ let test : nat_lt r.0 32 ≡ false = grind (arith, nat_tests) in rw test refl
    ]

-- Safe octets give no answer, and stand behind the open part.
pub quiet : (sending : ℕ) (mid stream : List Received) → AllByRecursion (λ (r : Received). IsWithin r.1 sending) mid → AllByRecursion (IsSafe sending) (map (λ (r : Received). r.0) mid)
    → (Frames (stream ++ mid) ≡ Frames stream) × (opened (stream ++ mid) ≡ opened stream ++ map (λ (r : Received). r.0) mid)
quiet sending [] stream within safe = (ap Frames (append-nil stream), ap opened (append-nil stream) ∙ sym (append-nil (opened stream)))
quiet sending (r ∷ mid) stream within safe =
    let more = quiet sending mid (stream ++ r ∷ []) within.1 safe.1 in
    let moved : stream ++ r ∷ mid ≡ (stream ++ r ∷ []) ++ mid = sym (append_assoc stream (r ∷ []) mid) in (
      ap Frames moved ∙ more.0 ∙ frames-other stream r.0 r.1 safe.0.no_flag,
      ap opened moved ∙ more.1 ∙ ap (λ l. l ++ map (λ (r : Received). r.0) mid) (opened-other stream r.0 r.1 (kept sending r safe.0 within.0) safe.0.no_flag)
          ∙ append_assoc (opened stream) (r.0 ∷ []) (map (λ (r : Received). r.0) mid),
    )
