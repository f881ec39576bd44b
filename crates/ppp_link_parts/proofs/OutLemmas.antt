-- What is taken from the front of what waits for the line.
use Rattle.std.proofs.Common.{ap, subst, ◌∙◌, ◌≡◌, ℕ, List, ◌++◌, length, take, drop, arith}
use Rattle.std.specs.Prelude.{min, ◌≤◌}
use Rattle.std.proofs.Math.Seq.{take-append_seam}
use Rattle.std.proofs.lemmas.List.{drop_min, length-take-le, take_min}

front : (m : ℕ) (xs rest : List ℕ) → m ≤ length xs → take m (take m xs ++ rest) ≡ take m xs
front m xs rest le = subst (λ (n : ℕ). take n (take m xs ++ rest) ≡ take m xs) (length-take-le m xs le) (take-append_seam (take m xs) rest)

pub front_taken : (items rest new : List ℕ) (count : ℕ) → count ≡ min 1024 (length items) → new ≡ take count items ++ rest → take count new ≡ take 1024 items
front_taken items rest new count e is =
    ap (λ (l : List ℕ). take count l) is ∙ (front count items rest (omega (arith, e)) ∙ (ap (λ (n : ℕ). take n items) e ∙ take_min 1024 items))

pub behind_taken : (items : List ℕ) (count : ℕ) → count ≡ min 1024 (length items) → drop count items ≡ drop 1024 items
behind_taken items count e = ap (λ (n : ℕ). drop n items) e ∙ drop_min 1024 items
