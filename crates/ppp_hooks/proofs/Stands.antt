-- The machine goes on standing for its past.
use Rattle.std.proofs.Common.{ℕ, ◌+◌, ◌<◌, ◌≡◌, None, Some, List, ◌∷◌, ◌++◌, refl, arith, sym, subst}
use Rattle.std.proofs.lemmas.Bool.Decides.{nat_tests}
use Rattle.ppp_outside.specs.declared.hook_words.HookArgs.{HookArgs}
use Rattle.ppp_outside.specs.declared.spawner.ScriptEnd.{ScriptEnd}
use Rattle.ppp_hooks.specs.declared.facts.HookFacts.{HookFacts}
use Rattle.ppp_hooks.specs.HookFacts.{Keeps, StandsFor, HasArgs, settled, started, with_open, with_closed, with_end, opening_number}
use Rattle.ppp_hooks.specs.HookMark.{HookMark, Opened, Closed, Ended}
use Rattle.ppp_hooks.specs.HookPast.{open_in}
use Rattle.ppp_hooks.specs.HookRule.{due_after, with_due}

pub opened_keeps : (facts : HookFacts) (past : List HookMark) (n : ℕ) (args : HookArgs) → facts.now_open ≡ None → facts.greatest < n
    → Keeps facts past → Keeps (with_open facts n args) (Opened n ∷ past)
opened_keeps facts past n args closed above k = record {
  now_open = refl;
  last = k.last;
  greatest = refl;
  starts = k.starts;
  ends = k.ends;
  not_started = k.not_started;
  lawful = ((let e : opening_number facts.now_open ≡ open_in past = k.now_open in cc, omega (arith, k.greatest)), k.lawful);
}

pub closed_keeps : (facts : HookFacts) (past : List HookMark) (n : ℕ) → opening_number facts.now_open ≡ Some n
    → Keeps facts past → Keeps (with_closed facts) (Closed n ∷ past)
closed_keeps facts past n is k = record {
  now_open = refl;
  last = k.last;
  greatest = k.greatest;
  starts = k.starts;
  ends = k.ends;
  not_started = k.not_started;
  lawful = (cc (k.now_open, is), k.lawful);
}

pub ended_keeps : (facts : HookFacts) (past : List HookMark) (answer : ScriptEnd) (job : ℕ) → facts.ends < facts.starts → job ≡ facts.ends + 1
    → Keeps facts past → Keeps (with_end facts answer) (Ended answer job ∷ past)
ended_keeps facts past answer job runs number k = record {
  now_open = k.now_open;
  last = k.last;
  greatest = k.greatest;
  starts = k.starts;
  ends = omega (arith, k.ends);
  not_started = omega (arith, k.not_started);
  lawful = ((omega (arith, k.starts, k.ends), omega (arith, k.ends)), k.lawful);
}

-- what the machine starts is what is due
pub due_is : (facts : HookFacts) (past : List HookMark) → Keeps facts past → due_after past ≡ started facts (settled facts)
due_is facts past k = grind (arith, nat_tests)

pub started_stands : (facts : HookFacts) (past : List HookMark) → Keeps facts past → StandsFor (settled facts) (started facts (settled facts) ++ past)
started_stands facts past k = grind (arith, nat_tests)

pub settle_stands : (facts : HookFacts) (past : List HookMark) → Keeps facts past → StandsFor (settled facts) (with_due past)
settle_stands facts past k =
    subst (λ (marks : List HookMark). StandsFor (settled facts) (marks ++ past)) (sym (due_is facts past k)) (started_stands facts past k)

pub opened_stands : (facts : HookFacts) (past : List HookMark) (n : ℕ) (args : HookArgs) → facts.now_open ≡ None → facts.greatest < n
    → StandsFor facts past → StandsFor (settled (with_open facts n args)) (with_due (Opened n ∷ past))
opened_stands facts past n args closed above s =
    settle_stands (with_open facts n args) (Opened n ∷ past) (opened_keeps facts past n args closed above s.keeps)

pub closed_stands : (facts : HookFacts) (past : List HookMark) (n : ℕ) → opening_number facts.now_open ≡ Some n
    → StandsFor facts past → StandsFor (settled (with_closed facts)) (with_due (Closed n ∷ past))
closed_stands facts past n is s =
    settle_stands (with_closed facts) (Closed n ∷ past) (closed_keeps facts past n is s.keeps)

pub ended_stands : (facts : HookFacts) (past : List HookMark) (answer : ScriptEnd) (job : ℕ) → facts.ends < facts.starts → job ≡ facts.ends + 1
    → StandsFor facts past → StandsFor (settled (with_end facts answer)) (with_due (Ended answer job ∷ past))
ended_stands facts past answer job runs number s =
    settle_stands (with_end facts answer) (Ended answer job ∷ past) (ended_keeps facts past answer job runs number s.keeps)

pub settle_args : (given : ℕ → HookArgs) (facts : HookFacts) → HasArgs given facts → HasArgs given (settled facts)
settle_args given facts a = grind (arith, nat_tests)
