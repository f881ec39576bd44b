-- A script that ends was the one that ran.
use Rattle.std.proofs.Common.{◌≡◌, ℕ, ◌+◌, List, [], ◌∷◌, ◌++◌, sym, ◌∙◌}
use Rattle.ppp_outside.specs.declared.spawner.ScriptEnd.{ScriptEnd}
use Rattle.ppp_hooks.specs.HookMark.{HookMark, Ended}
use Rattle.ppp_hooks.specs.HookPast.{IsLawful, ends_in, starts_in}
use Rattle.ppp_hooks.specs.HookRule.{due_after, with_due}

lawful_before : (some past : List HookMark) → IsLawful (some ++ past) → IsLawful past
lawful_before [] past lawful = lawful
lawful_before (m ∷ some) past lawful = lawful_before some past lawful.1

pub ran : (past : List HookMark) (answer : ScriptEnd) (job : ℕ) → IsLawful (with_due (Ended answer job ∷ past)) → job ≡ starts_in past → ends_in past + 1 ≡ starts_in past
ran past answer job lawful e = sym (lawful_before (due_after (Ended answer job ∷ past)) (Ended answer job ∷ past) lawful).0.1 ∙ e
