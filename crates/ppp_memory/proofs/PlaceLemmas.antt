-- A list from a place on, one place further.
use Rattle.std.proofs.Common.{◌≡◌, ℕ, zero, suc, ◌+◌, ◌≤◌, List, [], ◌∷◌, length, drop, refl, arith}
use Rattle.std.proofs.lemmas.List.{drop-drop}

pub one_on : {X : Type 0} (xs : List X) (n : ℕ) → drop 1 (drop n xs) ≡ drop (n + 1) xs
one_on xs n = drop-drop 1 n xs

-- Behind the last place nothing is left.
pub stays_at_end : {X : Type 0} (xs : List X) (n : ℕ) → length xs ≤ n → drop 1 (drop n xs) ≡ drop n xs
stays_at_end [] zero end = refl
stays_at_end [] (suc n) end = refl
stays_at_end (x ∷ xs) zero end = absurd (omega arith)
stays_at_end (x ∷ xs) (suc n) end = stays_at_end xs n (omega arith)
