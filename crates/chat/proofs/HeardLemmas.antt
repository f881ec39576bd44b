-- What a read of one octet gives.
use Rattle.std.proofs.Common.{◌≡◌, ℕ, ◌<◌, ◌≤◌, zero, suc, List, [], ◌∷◌, length, take, get_or, refl, ap, arith}

take-none : (count : ℕ) → take {A = ℕ} count [] ≡ []
take-none zero = refl
take-none (suc count) = refl

pub one_octet : (buf : List ℕ) (count : ℕ) → length buf ≡ 1 → 0 < count → take count buf ≡ get_or buf 0 0 ∷ []
one_octet [] count one some = absurd (omega (arith, one))
one_octet (octet ∷ []) zero one some = absurd (omega (arith, some))
one_octet (octet ∷ []) (suc count) one some = ap (λ (l : List ℕ). octet ∷ l) (take-none count)
one_octet (octet ∷ other ∷ rest) count one some = absurd (omega (arith, one))
