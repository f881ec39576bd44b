-- The answers of a line in memory, one more of them.
use Rattle.std.proofs.Common.{◌≡◌, ℕ, suc, List, [], ◌∷◌, ◌++◌, length, ap, refl}
use Rattle.ppp_memory.specs.Kept.{answer_at, answers_at}
use Rattle.ppp_memory.specs.declared.kept_answer.KeptAnswer.{KeptAnswer}

pub one_more : (octets : List ℕ) (kept : List KeptAnswer) (one : KeptAnswer) → answers_at octets (kept ++ one ∷ []) ≡ answers_at octets kept ++ answer_at octets one ∷ []
one_more octets [] one = refl
one_more octets (first ∷ rest) one = ap (λ answers. answer_at octets first ∷ answers) (one_more octets rest one)

pub as_many : (octets : List ℕ) (kept : List KeptAnswer) → length (answers_at octets kept) ≡ length kept
as_many octets [] = refl
as_many octets (first ∷ rest) = ap (λ n. suc n) (as_many octets rest)
