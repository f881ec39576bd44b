-- What opening and closing IP leave of what a log says of bundles and members.
use Rattle.std.proofs.Common.{◌≡◌, ℕ, ◌+◌, Bool, true, false, cond, Option, None, Some, List, [], ◌∷◌, ◌++◌, refl, ap, sym, ◌∙◌}
use Rattle.ppp_base.specs.declared.hook_target.HookTarget.{HookTarget}
use Rattle.ppp_base.specs.declared.hook_target.HookTarget.TheVariants.{Link, Unit as OfUnit}
use Rattle.ppp_hooks.specs.declared.facts.HookFacts.{HookFacts}
use Rattle.ppp_hooks.specs.declared.facts.Start.{Start}
use Rattle.ppp_hooks.specs.HookFacts.{settled, start_due, with_open, with_start}
use Rattle.ppp_hooks.specs.HookPast.{last_in, open_in}
use Rattle.ppp_hooks.specs.HookRule.{due_for, start_marks}
use Rattle.ppp_hooks.specs.HookState.{HookState}
use Rattle.ppp_mark.specs.declared.mark.Mark.{Mark}
use Rattle.ppp_mark.specs.Log.{LogState}
use Rattle.ppp_mark.specs.Marks.{ip_closed_mark, ip_open_mark}
use Rattle.ppp_mark.specs.ScriptLog.{IsKept, ScriptLogState, log_closed, log_closed_at, log_opened, next_opening, with_addresses}
use Rattle.ppp_mark.specs.Scripts.{due_marks, marks_at, said_in}
use Rattle.ppp_outside.specs.declared.hook_words.HookArgs.{HookArgs}
use Rattle.ppp_bundle.specs.Replay.{LogSays, SaysSame, bundle_in, openings_in, stay_in}

-- a start that is due says nothing of them
bundle_at : (due : Bool) (start : Option (Bool × ℕ)) (time : ℕ) (past : List Mark) → bundle_in (marks_at time (cond due (start_marks start) []) ++ past) ≡ bundle_in past
bundle_at true None time past = refl
bundle_at true (Some s) time past = refl
bundle_at false start time past = refl

stay_at : (due : Bool) (start : Option (Bool × ℕ)) (time : ℕ) (past : List Mark) (link : ℕ) → stay_in link (marks_at time (cond due (start_marks start) []) ++ past) ≡ stay_in link past
stay_at true None time past link = refl
stay_at true (Some s) time past link = refl
stay_at false start time past link = refl

openings_at : (due : Bool) (start : Option (Bool × ℕ)) (time : ℕ) (past : List Mark) → openings_in 0 (marks_at time (cond due (start_marks start) []) ++ past) ≡ openings_in 0 past
openings_at true None time past = refl
openings_at true (Some s) time past = refl
openings_at false start time past = refl

due_same : (time : ℕ) (past : List Mark) → SaysSame past (due_marks time past ++ past)
due_same time past = record {
  bundle = bundle_at _ (due_for (last_in (said_in past)) (open_in (said_in past))) time past;
  stays = λ link. stay_at _ (due_for (last_in (said_in past)) (open_in (said_in past))) time past link;
}

-- IP opens.
opens_at : (target : HookTarget) (unit time : ℕ) (args : HookArgs) (log : LogState) → target ≡ OfUnit unit → SaysSame log.past (with_addresses time args (log_opened target time log)).past
opens_at (OfUnit u) unit time args log e =
    let same = due_same time (ip_open_mark time (next_opening log) ∷ log.past) in
    record { bundle = same.bundle; stays = same.stays }
opens_at (Link l) unit time args log e = absurd (cc e)

pub open_same : (target : HookTarget) (unit time : ℕ) (args : HookArgs) (old new : LogState) → target ≡ OfUnit unit
    → new ≡ with_addresses time args (log_opened target time old) → SaysSame old.past new.past
open_same target unit time args old new e is = rw is (opens_at target unit time args old e)

-- IP closes.
closes_at : (target : HookTarget) (n : Option ℕ) (unit time : ℕ) (log : LogState) → target ≡ OfUnit unit → SaysSame log.past (log_closed_at target time n log).past
closes_at target None unit time log e = record { bundle = refl; stays = λ link. refl }
closes_at (OfUnit u) (Some n) unit time log e =
    let same = due_same time (ip_closed_mark time n ∷ log.past) in
    record { bundle = same.bundle; stays = same.stays }
closes_at (Link l) (Some n) unit time log e = absurd (cc e)

pub shut_same : (target : HookTarget) (unit time : ℕ) (old new : LogState) → target ≡ OfUnit unit → new ≡ log_closed target time old → SaysSame old.past new.past
shut_same target unit time old new e is = rw is (closes_at target (open_in (said_in old.past)) unit time old e)

-- the addresses of the opening, and its number
started_open : (due : Bool) (start : Option Start) (f : HookFacts) → (cond due (with_start f start) f).now_open ≡ f.now_open
started_open true None f = refl
started_open true (Some s) f = refl
started_open false start f = refl

started_greatest : (due : Bool) (start : Option Start) (f : HookFacts) → (cond due (with_start f start) f).greatest ≡ f.greatest
started_greatest true None f = refl
started_greatest true (Some s) f = refl
started_greatest false start f = refl

openings_opened : (target : HookTarget) (unit time : ℕ) (args : HookArgs) (log : LogState) → target ≡ OfUnit unit
    → openings_in 0 (with_addresses time args (log_opened target time log)).past ≡ openings_in 0 log.past + 1
openings_opened (OfUnit u) unit time args log e =
    let past = ip_open_mark time (next_opening log) ∷ log.past in
    openings_at _ (due_for (last_in (said_in past)) (open_in (said_in past))) time past
openings_opened (Link l) unit time args log e = absurd (cc e)

pub open_says : {S : Type 0} (unit time : ℕ) (args : HookArgs) (old new : ScriptLogState S) → old.machine.target ≡ OfUnit unit → IsKept old.machine old.log → LogSays old
    → new.log ≡ with_addresses time args (log_opened old.machine.target time old.log)
    → new.machine ≡ record old.machine { facts = settled (with_open old.machine.facts (next_opening old.log) args) } → LogSays new
open_says {S = S} unit time args old new e kept says logs machines =
    let f : HookFacts = with_open old.machine.facts (next_opening old.log) args in
    let now : new.machine.facts.now_open ≡ Some (record { number = next_opening old.log; args = args }) =
    ap (λ (m : HookState S). m.facts.now_open) machines ∙ started_open _ (start_due f.last f.now_open) f in
    let most : new.machine.facts.greatest ≡ next_opening old.log = ap (λ (m : HookState S). m.facts.greatest) machines ∙ started_greatest _ (start_due f.last f.now_open) f in
    record {
      local = rw (now, logs) refl;
      remote = rw (now, logs) refl;
      openings = most ∙ ap (λ n. n + 1) (sym kept.stands.keeps.greatest ∙ says.openings) ∙ sym (ap (λ (l : LogState). openings_in 0 l.past) logs ∙ openings_opened old.machine.target unit time args old.log e);
    }
