-- One more octet of a part.
use Rattle.std.proofs.Common.{◌≡◌, ℕ, Bool, true, false, cond, List, [], ◌∷◌, ◌++◌, refl}
use Rattle.std.specs.Prelude.{bit_xor}
use Rattle.ppp_hdlc.specs.Frames.{unescaped, ends_escaping}
use Rattle.ppp_hdlc.specs.Octets.{is_escape}

-- what an octet adds to the octets of a part
abbrev pub added : Bool → ℕ → List ℕ
added true x = bit_xor x 32 ∷ []
added false x = cond (is_escape x) [] (x ∷ [])

pub unescaped-none : unescaped [] ≡ []
unfolding unescaped
unescaped-none = refl

pub unescaped-one : (y : ℕ) → unescaped (y ∷ []) ≡ cond (is_escape y) [] (y ∷ [])
unfolding unescaped
unescaped-one y = refl

pub unescaped-two : (y z : ℕ) (part : List ℕ) → unescaped (y ∷ z ∷ part) ≡ cond (is_escape y) (bit_xor z 32 ∷ unescaped part) (y ∷ unescaped (z ∷ part))
unfolding unescaped
unescaped-two y z part = refl

pub escaping-none : ends_escaping [] ≡ false
unfolding ends_escaping
escaping-none = refl

pub escaping-one : (y : ℕ) → ends_escaping (y ∷ []) ≡ is_escape y
unfolding ends_escaping
escaping-one y = refl

pub escaping-two : (y z : ℕ) (part : List ℕ) → ends_escaping (y ∷ z ∷ part) ≡ cond (is_escape y) (ends_escaping part) (ends_escaping (z ∷ part))
unfolding ends_escaping
escaping-two y z part = refl

pub unescaped-append : (part : List ℕ) (x : ℕ) → unescaped (part ++ x ∷ []) ≡ unescaped part ++ added (ends_escaping part) x
unescaped-append [] x = rw (unescaped-one, unescaped-none, escaping-none) refl
unescaped-append (y ∷ []) x =
    rw (unescaped-two y x [], unescaped-none, unescaped-one x, unescaped-one y, escaping-one y)
    (elim (is_escape y) as (λ b. cond b (bit_xor x 32 ∷ []) (y ∷ cond (is_escape x) [] (x ∷ [])) ≡ cond b [] (y ∷ []) ++ added b x) [ true ↦ refl | false ↦ refl ])
unescaped-append (y ∷ z ∷ part) x =
    rw (unescaped-two y z (part ++ x ∷ []), unescaped-append part x, unescaped-append (z ∷ part) x, unescaped-two y z part, escaping-two y z part)
    (elim (is_escape y) as (λ b. cond b (bit_xor z 32 ∷ (unescaped part ++ added (ends_escaping part) x)) (y ∷ (unescaped (z ∷ part) ++ added (ends_escaping (z ∷ part)) x))
    ≡ cond b (bit_xor z 32 ∷ unescaped part) (y ∷ unescaped (z ∷ part)) ++ added (cond b (ends_escaping part) (ends_escaping (z ∷ part))) x)
    [ true ↦ refl | false ↦ refl ])

pub escaping-append : (part : List ℕ) (x : ℕ) → ends_escaping (part ++ x ∷ []) ≡ cond (ends_escaping part) false (is_escape x)
escaping-append [] x = rw (escaping-one, escaping-none) refl
escaping-append (y ∷ []) x =
    rw (escaping-two y x [], escaping-none, escaping-one x, escaping-one y)
    refl
escaping-append (y ∷ z ∷ part) x =
    rw (escaping-two y z (part ++ x ∷ []), escaping-append part x, escaping-append (z ∷ part) x, escaping-two y z part)
    (elim (is_escape y) as (λ b. cond b (cond (ends_escaping part) false (is_escape x)) (cond (ends_escaping (z ∷ part)) false (is_escape x))
    ≡ cond (cond b (ends_escaping part) (ends_escaping (z ∷ part))) false (is_escape x))
    [ true ↦ refl | false ↦ refl ])
