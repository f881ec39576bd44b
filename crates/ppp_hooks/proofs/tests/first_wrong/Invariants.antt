-- The openings so far are up to `greatest`.
use Rattle.std.proofs.Common.{◌≤◌}
use Rattle.ppp_hooks.proofs.tests.first_wrong.Given as goal

abbrev pub invariant-rows : goal.invariant-rows
invariant-rows l = l.machine.facts.greatest ≤ l.greatest
