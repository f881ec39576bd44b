use Rattle.std.proofs.Common.{◌∙◌, ap, ℕ, Some, add-one, arith}
use Rattle.ppp_chat.proofs.FirstFault.{first-fault}
use Rattle.ppp_chat.proofs.laws.a_fault_is_the_first.Goals as goal

pub returns : goal.returns
returns c = λ words fault place is named. rw add-one (first-fault words fault place is (named ∙ ap (λ (n : ℕ). Some n) (omega arith)))
