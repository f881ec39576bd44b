-- The octets of challenges and responses.
use Rattle.std.proofs.Common.{◌≡◌, ℕ, ◌≤◌, Bool, true, false, cond, List, [], ◌∷◌, ◌++◌, length, take, drop, Option, None, Some, refl, sym, ap, ◌∙◌, subst, arith, length-append}
use Rattle.std.specs.Prelude.{◌&&◌, nat_le}
use Rattle.std.proofs.Math.Seq.{take-append_seam, drop-append_seam}
use Rattle.std.proofs.lemmas.List.{take-append-drop, length-take-le}
use Rattle.std.proofs.lemmas.Bool.{and_from, and_parts, leb-true, le-leb}
use Rattle.ppp_chap.specs.Packets.{valued_body, valued_of}

abbrev both_of : List ℕ → List ℕ → Option (List ℕ × List ℕ)
both_of value name = Some (value, name)

pub body_is_valued : (value name : List ℕ) → length name ≤ 255 → valued_of (valued_body value name) ≡ Some (value, name)
body_is_valued value name fits =
    let front : take (length value) (value ++ name) ≡ value = take-append_seam value name in
    let back : drop (length value) (value ++ name) ≡ name = drop-append_seam value name in
    let within : nat_le (length value) (length (value ++ name)) ≡ true =
    let l = length-append value name in le-leb (length value) (length (value ++ name)) (omega (arith, l)) in
    let short : nat_le (length (drop (length value) (value ++ name))) 255 ≡ true =
    ap (λ xs. nat_le (length xs) 255) back ∙ le-leb (length name) 255 fits in
    ap (λ test. cond {A = Option (List ℕ × List ℕ)} test (Some (take (length value) (value ++ name), drop (length value) (value ++ name))) None)
    (and_from (nat_le (length value) (length (value ++ name))) (nat_le (length (drop (length value) (value ++ name))) 255) within short)
    ∙ ap (λ xs. both_of xs (drop (length value) (value ++ name))) front
    ∙ ap (both_of value) back

pub valued_is_body : (octets value name : List ℕ) → valued_of octets ≡ Some (value, name) → (octets ≡ valued_body value name) × (length name ≤ 255)
valued_is_body [] value name e = absurd cc
valued_is_body (size ∷ rest) value name e = go (nat_le size (length rest) && nat_le (length (drop size rest)) 255) refl e
  where
    go : (test : Bool) → (nat_le size (length rest) && nat_le (length (drop size rest)) 255) ≡ test
        → cond {A = Option (List ℕ × List ℕ)} test (Some (take size rest, drop size rest)) None ≡ Some (value, name)
        → (size ∷ rest ≡ valued_body value name) × (length name ≤ 255)
    go false t e = absurd cc
    go true t e =
        let tests = and_parts (nat_le size (length rest)) (nat_le (length (drop size rest)) 255) t in
        let within : size ≤ length rest = leb-true size (length rest) tests.0 in
        let short : length (drop size rest) ≤ 255 = leb-true (length (drop size rest)) 255 tests.1 in
        let pair : (take size rest, drop size rest) ≡ (value, name) = cc e in
        let front : take size rest ≡ value = ap (λ (p : List ℕ × List ℕ). p.0) pair in
        let back : drop size rest ≡ name = ap (λ (p : List ℕ × List ℕ). p.1) pair in
        let sizes : size ≡ length value = sym (length-take-le size rest within) ∙ ap length front in (
          ap (λ n. n ∷ rest) sizes
              ∙ ap (λ r. length value ∷ r) (sym (take-append-drop size rest) ∙ ap (λ xs. xs ++ drop size rest) front ∙ ap (λ xs. value ++ xs) back),
          subst (λ (xs : List ℕ). length xs ≤ 255) back short,
        )
