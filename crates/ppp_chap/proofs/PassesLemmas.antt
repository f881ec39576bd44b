-- Who passes, as a value.
use Rattle.std.proofs.Common.{◌≡◌, ℕ, Bool, true, false, List, length, Option, None, Some, refl, ap, ◌∙◌}
use Rattle.std.specs.Prelude.{◌++◌, ◌∷◌, if◌then◌else◌}
use Rattle.std.specs.Str.{bytes_eq}
use Rattle.std.proofs.lemmas.Slice.Eq.{bytes_eq-Decides}
use Rattle.md5.proofs.StandardFacts.{length-md5}
use Rattle.ppp_secrets.specs.SecretLine.{SecretLine}
use Rattle.ppp_secrets.specs.Lookup.{line_for}
use Rattle.ppp_proving.specs.Calls.{Against}
use Rattle.ppp_chap.specs.Passes.{Passes, passing, passing_line, value_of}

passing_found : (a : Against) (challenge name value : List ℕ) (number : ℕ) (found : Option SecretLine) → line_for a.lines name a.server ≡ found
    → passing challenge found value ≡ Some number → Passes a challenge name value number
passing_found a challenge name value number None f e = absurd cc
passing_found a challenge name value number (Some line) f e = go (bytes_eq value (value_of 1 line.secret challenge)) refl e
  where
    go : (test : Bool) → bytes_eq value (value_of 1 line.secret challenge) ≡ test → (if test then Some line.number else None) ≡ Some number
        → Passes a challenge name value number
    go false t e = absurd cc
    go true t e = record { line = line; found = f; right = (bytes_eq-Decides value (value_of 1 line.secret challenge)).0 t; numbered = cc }

pub told_passes : (a : Against) (challenge name value : List ℕ) (number : ℕ) → passing_line a challenge name value ≡ Some number → Passes a challenge name value number
told_passes a challenge name value number e = passing_found a challenge name value number (line_for a.lines name a.server) refl e

pub passes_told : (a : Against) (challenge name value : List ℕ) (number : ℕ) → Passes a challenge name value number → passing_line a challenge name value ≡ Some number
passes_told a challenge name value number p =
    ap (λ found. passing challenge found value) p.found
    ∙ ap (λ test. if test then Some p.line.number else None) ((bytes_eq-Decides value (value_of 1 p.line.secret challenge)).1 p.right)
    ∙ ap Some p.numbered

pub none_passes : (a : Against) (challenge name value : List ℕ) → passing_line a challenge name value ≡ None → (number : ℕ) → Passes a challenge name value number → ⊥
none_passes a challenge name value e number p = let told = passes_told a challenge name value number p in absurd (cc (e, told))

pub passes_none : (a : Against) (challenge name value : List ℕ) → ((number : ℕ) → Passes a challenge name value number → ⊥) → passing_line a challenge name value ≡ None
passes_none a challenge name value never = go (passing_line a challenge name value) refl
  where
    go : (found : Option ℕ) → passing_line a challenge name value ≡ found → passing_line a challenge name value ≡ None
    go None e = e
    go (Some number) e = absurd (never number (told_passes a challenge name value number e))

pub passes_sixteen : (a : Against) (challenge name value : List ℕ) (number : ℕ) → Passes a challenge name value number → length value ≡ 16
passes_sixteen a challenge name value number p = ap length p.right ∙ length-md5 (1 ∷ (p.line.secret ++ challenge))
