use Rattle.std.proofs.Common.{◌∷◌, refl}
use Rattle.ppp_hooks.proofs.OneMore.{no_choice, due_keeps_both}
use Rattle.ppp_hooks.proofs.laws.no_other_choice.Goals as goal

pub returns-clause-only : goal.returns-clause-only
returns-clause-only c = λ past starts mark l may a law s. no_choice (mark ∷ past) starts _ (may, l) refl a law s

pub returns-clause-keeps : goal.returns-clause-keeps
returns-clause-keeps c = λ past mark l may. due_keeps_both (mark ∷ past) (may, l)
