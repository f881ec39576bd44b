use Rattle.std.proofs.Common.{◌≡◌, List, ℕ, Bool, true, false, IsTrue, nat_eq, refl}
use Rattle.std.specs.Cmp.Lexicographic.{other_text, pointwise, same_text}
use Rattle.ppp_outside.proofs.asked.is_same.Goals as goal

false_is_not_true : false ≡ true → ⊥
false_is_not_true same = cc

same_where : (xs ys : List ℕ) (answer : Bool) → answer ≡ pointwise nat_eq xs ys → (IsTrue answer → xs ≡ ys) × (xs ≡ ys → IsTrue answer)
same_where xs ys true is = (λ _. same_text xs ys is, λ _. refl)
same_where xs ys false is = (λ wrong. absurd (false_is_not_true wrong), λ same. absurd (other_text xs ys is same))

pub returns : goal.returns
returns c = same_where c.args.one.now c.args.other.now c.eq.result c.eq.ensures
