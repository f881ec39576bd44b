-- Octets have at least one part, so that behind two parts they are a third.
use Rattle.std.proofs.Common.{◌≡◌, ℕ, Bool, true, false, cond, List, [], ◌∷◌, None, refl}
use Rattle.std.specs.Prelude.{◌==◌}
use Rattle.std.specs.List.{slice_split, onto_first}
use Rattle.ppp_option_words.specs.Values.{sides_of}

pub a_third_part : (s : ℕ) (a b xs : List ℕ) → sides_of (a ∷ b ∷ slice_split (λ octet. octet == s) xs) ≡ None
a_third_part s a b [] = refl
a_third_part s a b (x ∷ xs) = go (x == s) (slice_split (λ octet. octet == s) xs)
  where
    go : (test : Bool) (rest : List (List ℕ)) → sides_of (a ∷ b ∷ cond test ([] ∷ rest) (onto_first x rest)) ≡ None
    go true rest = refl
    go false [] = refl
    go false (part ∷ parts) = refl
