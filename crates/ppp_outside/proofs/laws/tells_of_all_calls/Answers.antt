use Rattle.std.proofs.Common.{ℕ, List, Option}
use Rattle.ppp_outside.specs.declared.hook_paths.HookPaths.{HookPaths}
use Rattle.ppp_outside.proofs.AskedLemmas.{one_more}
use Rattle.ppp_outside.proofs.laws.tells_of_all_calls.Goals as goal

pub returns-clause-paths : goal.returns-clause-paths
returns-clause-paths c = one_more HookPaths

pub returns-clause-names : goal.returns-clause-names
returns-clause-names c = one_more (Option (List ℕ))
