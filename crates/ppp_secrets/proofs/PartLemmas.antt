-- The parts of octets between slashes.
use Rattle.std.proofs.Common.{◌≡◌, ℕ, Bool, true, false, cond, List, [], ◌∷◌, None, refl}
use Rattle.std.specs.Prelude.{◌==◌}
use Rattle.std.specs.List.{slice_split, onto_first}
use Rattle.ppp_secrets.specs.AddressWords.{subnet_at}

-- Octets have at least one part, so that behind two parts they are a third.
pub a_third_part : (s : ℕ) (address bits octets : List ℕ) → subnet_at (address ∷ bits ∷ slice_split (λ octet. octet == s) octets) ≡ None
a_third_part s address bits [] = refl
a_third_part s address bits (x ∷ xs) = go (x == s) (slice_split (λ octet. octet == s) xs)
  where
    go : (test : Bool) (rest : List (List ℕ)) → subnet_at (address ∷ bits ∷ cond test ([] ∷ rest) (onto_first x rest)) ≡ None
    go true rest = refl
    go false [] = refl
    go false (part ∷ parts) = refl
