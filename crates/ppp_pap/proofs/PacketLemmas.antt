-- The octets of requests and messages.
use Rattle.std.proofs.Common.{◌≡◌, ℕ, ◌<◌, Bool, true, false, cond, List, [], ◌∷◌, ◌++◌, length, take, drop, Option, None, Some, refl, sym, ap, ◌∙◌, arith, length-append}
use Rattle.std.specs.Prelude.{◌==◌, nat_lt, if◌then◌else◌}
use Rattle.std.proofs.Math.Seq.{take-append_seam, drop-append_seam}
use Rattle.std.proofs.lemmas.List.{take-append-drop, length-take-le}
use Rattle.std.proofs.lemmas.Bool.Decides.{nat_tests, Decides-eqb}
use Rattle.ppp_pap.specs.Packets.{is_message, password_behind, request_body, request_of}

pub body_is_read : (name password : List ℕ) → request_of (request_body name password) ≡ Some (name, password)
body_is_read name password =
    let within : nat_lt (length name) (length (name ++ (length password ∷ password))) ≡ true =
    let l = length-append name (length password ∷ password) in grind (arith, nat_tests)
    in
    let same : (length password == length password) ≡ true = (Decides-eqb (length password) (length password)).1 refl in
    ap (λ test. if test then password_behind (take (length name) (name ++ (length password ∷ password))) (drop (length name) (name ++ (length password ∷ password))) else None) within
    ∙ ap (λ front. password_behind front (drop (length name) (name ++ (length password ∷ password)))) (take-append_seam name (length password ∷ password))
    ∙ ap (password_behind name) (drop-append_seam name (length password ∷ password))
    ∙ ap (λ test. if test then Some (name, password) else None) same

behind : (front tail name password : List ℕ) → password_behind front tail ≡ Some (name, password) → (front ≡ name) × (tail ≡ length password ∷ password)
behind front [] name password e = absurd cc
behind front (size ∷ rest) name password e = go (length rest == size) refl e
  where
    go : (test : Bool) → (length rest == size) ≡ test → cond {A = Option (List ℕ × List ℕ)} test (Some (front, rest)) None ≡ Some (name, password) → (front ≡ name) × (size ∷ rest ≡ length password ∷ password)
    go false t e = absurd cc
    go true t e =
        let pair : (front, rest) ≡ (name, password) = cc e in
        let names : front ≡ name = ap (λ (p : List ℕ × List ℕ). p.0) pair in
        let passwords : rest ≡ password = ap (λ (p : List ℕ × List ℕ). p.1) pair in
        let sizes : length rest ≡ size = (Decides-eqb (length rest) size).0 t in
        (names, ap (λ n. n ∷ rest) (sym sizes) ∙ ap (λ p. length p ∷ p) passwords)

pub read_is_body : (octets name password : List ℕ) → request_of octets ≡ Some (name, password) → octets ≡ request_body name password
read_is_body [] name password e = absurd cc
read_is_body (size ∷ rest) name password e = go (nat_lt size (length rest)) refl e
  where
    go : (test : Bool) → nat_lt size (length rest) ≡ test → (if test then password_behind (take size rest) (drop size rest) else None) ≡ Some (name, password) → size ∷ rest ≡ request_body name password
    go false t e = absurd cc
    go true t e =
        let parts = behind (take size rest) (drop size rest) name password e in
        let less : size < length rest = grind (arith, nat_tests) in
        let sizes : size ≡ length name = sym (length-take-le size rest (omega arith)) ∙ ap length parts.0 in
        ap (λ n. n ∷ rest) sizes
        ∙ ap (λ r. length name ∷ r) (sym (take-append-drop size rest) ∙ ap (λ front. front ++ drop size rest) parts.0 ∙ ap (λ tail. name ++ tail) parts.1)

pub message_is_read : (message : List ℕ) → is_message (length message ∷ message) ≡ true
message_is_read message = (Decides-eqb (length message) (length message)).1 refl

pub read_is_message : (octets : List ℕ) → is_message octets ≡ true → (message : List ℕ) × (octets ≡ length message ∷ message)
read_is_message [] e = absurd cc
read_is_message (size ∷ message) e = (message, ap (λ n. n ∷ message) (sym ((Decides-eqb (length message) size).0 e)))
