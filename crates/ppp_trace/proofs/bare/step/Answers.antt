use Rattle.std.proofs.Common.{MatchOption, Option, Some, None, sym, rules}
use Rattle.ppp_trace.specs.Steps.{Spells}
use Rattle.ppp_trace.proofs.StepLemmas.{event_word, no_step}
use Rattle.ppp_trace.proofs.bare.step.Goals as goal

pub returns-in-Some : goal.returns-in-Some
returns-in-Some c = record { is_step = search rules; word = event_word c.args.line.now c.in-Some.event (sym c.in-Some.ensures) }

pub returns-in-None : goal.returns-in-None
returns-in-None c = mapped (λ step. Spells c.args.line.now step) c.end_step.result (λ ends. no_step c.args.line.now (sym c.in-None.ensures) ends) c.end_step.ensures
  where
    mapped : {A P Q : Type 0} (R : A → Type 0) (o : Option A) → (P → Q) → MatchOption o P R → MatchOption o Q R
    mapped R None f h = f h
    mapped R (Some x) f h = h
