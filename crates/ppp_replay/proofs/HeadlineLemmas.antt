-- The headline for one unit: after each step of a run its scripts keep the law and agree with the automaton.
use Rattle.std.proofs.Common.{◌≡◌, ℕ, ◌+◌, ◌<◌, ◌≤◌, Bool, true, false, Option, None, Some, List, [], ◌∷◌, ◌++◌, refl, ap, ◌∙◌, subst, arith}
use Rattle.std.specs.Prelude.{◌==◌, is_some, nat_lt, nat_eq, take, reverse, if◌then◌else◌}
use Rattle.std.specs.Option.{option_eq}
use Rattle.std.proofs.lemmas.Bool.Decides.{nat_tests}
use Rattle.ppp_fsm.specs.Fsm.{acts_of, after}
use Rattle.ppp_fsm.specs.Opening.{layer_change}
use Rattle.ppp_fsm.proofs.OpeningLemmas.{opens_by_acts}
use Rattle.ppp_outside.specs.declared.spawner.ScriptEnd.{ScriptEnd}
use Rattle.ppp_hooks.specs.HookMark.{HookMark, Opened, Closed, Started, Ended}
use Rattle.ppp_hooks.specs.HookCall.{closed_marks}
use Rattle.ppp_hooks.specs.HookPast.{starts_in, ends_in, open_in, greatest_in, IsLawful, IsSettled}
use Rattle.ppp_hooks.specs.HookRule.{with_due}
use Rattle.ppp_hooks.specs.Settled.{Settled}
use Rattle.ppp_hooks.proofs.Calls.{due_keeps}
use Rattle.ppp_hooks.proofs.Places.{law_of_past, settled_of_past}
use Rattle.ppp_trace.specs.declared.step.BareStep.{BareStep}
use Rattle.ppp_trace.specs.declared.step.BareStep.TheVariants.{Event, End}
use Rattle.ppp_replay.specs.BareRun.{BareRun, Headline, KeepsScripts, after_step, run_from, run_of, run_start, runs_job}
use Rattle.ppp_replay.proofs.PlayerLemmas.{job_is}
use Rattle.ppp_bare.proofs.ActLemmas.{after_layer_acts}
use Rattle.ppp_bare.specs.Acts.{after_acts}

-- a past that is lawful and settled, whose protocol is open as said
pub record Goes (past : List HookMark) (is_open : Bool) : Type 0 where
  pub lawful : IsLawful past
  pub settled : IsSettled past
  pub agrees : is_some (open_in past) ≡ is_open

-- what starts leaves open what is open
open_with_due : (past : List HookMark) → open_in (with_due past) ≡ open_in past
open_with_due past = grind (arith, nat_tests)

goes_on : (past : List HookMark) (is_open : Bool) → IsLawful past → is_some (open_in past) ≡ is_open → Goes (with_due past) is_open
goes_on past is_open lawful agrees = record {
  lawful = (due_keeps past lawful).0;
  settled = (due_keeps past lawful).1;
  agrees = ap is_some (open_with_due past) ∙ agrees;
}

none_open : (o : Option ℕ) → is_some o ≡ false → o ≡ None
none_open None e = refl
none_open (Some n) e = absurd (cc e)

closes : (o : Option ℕ) (past : List HookMark) → open_in past ≡ o → is_some o ≡ true → IsLawful past → Goes (with_due (closed_marks o ++ past)) false
closes None past e some lawful = absurd (cc some)
closes (Some n) past e some lawful = goes_on (Closed n ∷ past) false (e, lawful) refl

changes : (was now : Bool) (past : List HookMark) → Goes past was → Goes (after_acts (layer_change was now) past) now
unfolding after_acts
changes false false past g = g
changes false true past g =
    goes_on (Opened (greatest_in past + 1) ∷ past) true ((none_open (open_in past) g.agrees, omega arith), g.lawful) refl
changes true false past g = closes (open_in past) past refl g.agrees g.lawful
changes true true past g = g

-- one script runs at most
one_at_a_time : (past : List HookMark) → IsLawful past → starts_in past ≤ ends_in past + 1
one_at_a_time [] l = omega arith
one_at_a_time (Opened n ∷ past) l = one_at_a_time past l.1
one_at_a_time (Closed n ∷ past) l = one_at_a_time past l.1
one_at_a_time (Started true n ∷ past) l = omega (arith, l.0.0)
one_at_a_time (Started false n ∷ past) l = omega (arith, l.0.0)
one_at_a_time (Ended answer job ∷ past) l = omega (arith, one_at_a_time past l.1)

running_is : (b : Bool) (ends starts job : ℕ) → nat_lt ends starts ≡ b → option_eq nat_eq (if b then Some starts else None) (Some job) ≡ true → ends < starts
running_is true ends starts job e on = grind (arith, nat_tests)
running_is false ends starts job e on = absurd (cc on)

ends : (past : List HookMark) (is_open : Bool) (job : ℕ) (answer : ScriptEnd) → Goes past is_open → runs_job job past ≡ true
    → Goes (with_due (Ended answer job ∷ past)) is_open
ends past is_open job answer g on =
    let below : ends_in past < starts_in past = running_is _ (ends_in past) (starts_in past) job refl on in
    let is : starts_in past ≡ job = job_is (nat_lt (ends_in past) (starts_in past)) (starts_in past) job on in
    goes_on (Ended answer job ∷ past) is_open ((below, omega (arith, one_at_a_time past g.lawful)), g.lawful) g.agrees

-- the run goes so
abbrev RunGoes : BareRun → Type 0
RunGoes run = Goes run.past (run.automaton.state == 9)

end_goes : (b : Bool) (run : BareRun) (job : ℕ) (answer : ScriptEnd) → RunGoes run → runs_job job run.past ≡ b
    → RunGoes (if b then record run { past = with_due (Ended answer job ∷ run.past) } else run)
end_goes true run job answer g on = ends run.past (run.automaton.state == 9) job answer g on
end_goes false run job answer g off = g

step_goes : (run : BareRun) (step : BareStep) → RunGoes run → RunGoes (after_step run step)
unfolding after_step
step_goes run (Event event) g =
    let a = run.automaton in
    let is : after_acts (acts_of a event) run.past ≡ after_acts (layer_change (a.state == 9) ((after a event).state == 9)) run.past =
    after_layer_acts (acts_of a event) run.past ∙ ap (λ acts. after_acts acts run.past) (opens_by_acts a event) in
    rw is (changes (a.state == 9) ((after a event).state == 9) run.past g)
step_goes run (End job answer) g = end_goes (runs_job job run.past) run job answer g refl

run_goes : (run : BareRun) (steps : List BareStep) → RunGoes run → RunGoes (run_from run steps)
run_goes run [] g = g
run_goes run (step ∷ steps) g = run_goes (after_step run step) steps (step_goes run step g)

keeps_scripts : (run : BareRun) → RunGoes run → KeepsScripts run
keeps_scripts run g = record {
  law = law_of_past run.past g.lawful;
  settled = subst (λ (b : Bool). Settled (reverse run.past) b) g.agrees (settled_of_past run.past g.settled);
}

pub headline : (steps : List BareStep) → Headline steps
headline steps n = keeps_scripts (run_of (take n steps)) (run_goes run_start (take n steps) (record { lawful = tt; settled = λ _. tt; agrees = refl }))
