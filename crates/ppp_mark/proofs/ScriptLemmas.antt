-- A machine goes on standing for what its log says.
use Rattle.std.proofs.Common.{◌≡◌, ℕ, ◌+◌, ◌<◌, ◌≤◌, ◌⊎◌, inl, inr, zero, suc, Bool, true, false, Option, None, Some, List, [], ◌∷◌, ◌++◌, length, refl, ap, sym, ◌∙◌, subst, arith}
use Rattle.std.specs.Prelude.{◌==◌, ◌↔◌, IsNone, ◌||◌, if◌then◌else◌}
use Rattle.std.proofs.lemmas.Bool.Decides.{nat_tests}
use Rattle.ppp_base.specs.declared.hook_target.HookTarget.{HookTarget}
use Rattle.ppp_base.specs.declared.hook_target.HookTarget.TheVariants.{Link, Unit as OfUnit}
use Rattle.ppp_outside.specs.declared.spawner.ScriptEnd.{ScriptEnd}
use Rattle.ppp_outside.specs.declared.spawner.ScriptEnd.TheVariants.{Exit, Killed, NotStarted}
use Rattle.ppp_hooks.specs.declared.facts.HookFacts.{HookFacts}
use Rattle.ppp_hooks.specs.declared.facts.Opening.{Opening}
use Rattle.ppp_hooks.specs.declared.facts.Start.{Start}
use Rattle.ppp_hooks.specs.HookFacts.{StandsFor, opening_number, settled, start_due, with_start}
use Rattle.ppp_hooks.specs.HookMark.{HookMark, Opened, Closed, Started, Ended}
use Rattle.ppp_hooks.specs.HookPast.{open_in, starts_in, ends_in, not_started_in, last_in}
use Rattle.ppp_hooks.specs.HookPlace.{AreStarts}
use Rattle.ppp_hooks.specs.HookRule.{due_after, due_for, start_marks, with_due}
use Rattle.ppp_hooks.specs.HookState.{HookState, DoneState}
use Rattle.ppp_hooks.proofs.Places.{law_of_past, settled_of_past}
use Rattle.ppp_mark.specs.declared.kind.TheConstants.{START, ENDED}
use Rattle.ppp_mark.specs.declared.mark.Mark.{Mark}
use Rattle.ppp_mark.specs.declared.script_log.TheConstants.{MOST_LIMIT}
use Rattle.ppp_mark.specs.Log.{AreOf, LogState}
use Rattle.ppp_mark.specs.Table.{IsInRow, IsInTable, row_of, stands_in}
use Rattle.ppp_mark.specs.Marks.{ended_mark, mark}
use Rattle.ppp_mark.specs.ScriptLog.{Grows, IsKept, IsRunningJob, KeepsLaw, closed_mark, opened_mark, with_due_mark}
use Rattle.ppp_mark.specs.Scripts.{AreUpOrDown, KeepsRunning, is_open_kind, is_closed_kind, due_marks, marks_at, said_in, said_with, says_scripts}

-- what is due is starts
start-marks-starts : (s : Option (Bool × ℕ)) → AreStarts (start_marks s)
start-marks-starts None = tt
start-marks-starts (Some s) = tt

pub due-starts : (past : List HookMark) → AreStarts (due_after past)
due-starts past = elim (ends_in past == starts_in past) as (λ b. AreStarts (if b then start_marks (due_for (last_in past) (open_in past)) else []))
    [ true ↦ start-marks-starts (due_for (last_in past) (open_in past)) | false ↦ tt ]

-- the marks of starts say these starts
said-starts : (time : ℕ) (starts : List HookMark) (past : List Mark) → AreStarts starts → said_in (marks_at time starts ++ past) ≡ starts ++ said_in past
said-starts time [] past a = refl
said-starts time (Opened n ∷ starts) past a = absurd a
said-starts time (Closed n ∷ starts) past a = absurd a
said-starts time (Started true n ∷ starts) past a = ap (λ hooks. Started true n ∷ hooks) (said-starts time starts past a)
said-starts time (Started false n ∷ starts) past a = ap (λ hooks. Started false n ∷ hooks) (said-starts time starts past a)
said-starts time (Ended answer job ∷ starts) past a = absurd a

pub said-due : (time : ℕ) (past : List Mark) → said_in (due_marks time past ++ past) ≡ with_due (said_in past)
said-due time past = said-starts time (due_after (said_in past)) past (due-starts (said_in past))

one-or-two : (x : ℕ) → 1 ≤ x → x ≤ 2 → (x ≡ 1) ⊎ (x ≡ 2)
one-or-two zero a b = absurd (omega (arith, a))
one-or-two (suc zero) a b = inl refl
one-or-two (suc (suc zero)) a b = inr refl
one-or-two (suc (suc (suc x))) a b = absurd (omega (arith, b))

-- a start's x is 1 or 2
up-or-down : (kind x y z : ℕ) (time : ℕ) → IsInTable (mark time kind x y z) → kind ≡ START → (x ≡ 1) ⊎ (x ≡ 2)
up-or-down kind x y z time h e =
    let row : IsInRow (row_of START) (mark time START x y z) = subst (λ k. IsInRow (row_of k) (mark time k x y z)) e h.in_row in
    one-or-two x row.0 row.1

pub directions_of : (target : HookTarget) (past : List Mark) → AreOf target past → AreUpOrDown past
directions_of target [] a = tt
directions_of target (m ∷ past) a = (λ e. up-or-down m.kind m.x m.y m.z m.time a.1 e, directions_of target past a.2)

longer-starts : (time : ℕ) (starts : List HookMark) (past : List Mark) → length past ≤ length (marks_at time starts ++ past)
longer-starts time [] past = omega arith
longer-starts time (Opened n ∷ starts) past = longer-starts time starts past
longer-starts time (Closed n ∷ starts) past = longer-starts time starts past
longer-starts time (Started up n ∷ starts) past = omega (arith, longer-starts time starts past)
longer-starts time (Ended answer job ∷ starts) past = longer-starts time starts past

one-start : (time : ℕ) (s : Option (Bool × ℕ)) (past : List Mark) → length (marks_at time (start_marks s) ++ past) ≤ length past + 1
one-start time None past = omega arith
one-start time (Some s) past = omega arith

pub few-due : (time : ℕ) (past : List Mark) → length (due_marks time past ++ past) ≤ length past + 1
few-due time past =
    elim (ends_in (said_in past) == starts_in (said_in past)) as (λ b. length (marks_at time (if b then start_marks (due_for (last_in (said_in past)) (open_in (said_in past))) else []) ++ past) ≤ length past + 1)
    [ true ↦ one-start time (due_for (last_in (said_in past)) (open_in (said_in past))) past | false ↦ omega arith ]

pub more-due : (time : ℕ) (past : List Mark) → length past ≤ length (due_marks time past ++ past)
more-due time past = longer-starts time (due_after (said_in past)) past

-- what a start leaves as it was
pub record Same (f g : HookFacts) : Type 0 where
  pub now_open : g.now_open ≡ f.now_open
  pub greatest : g.greatest ≡ f.greatest
  pub starts : g.starts ≤ f.starts + 1

same_start : (f : HookFacts) (start : Option Start) → Same f (with_start f start)
same_start f None = record { now_open = refl; greatest = refl; starts = omega arith }
same_start f (Some s) = record { now_open = refl; greatest = refl; starts = omega arith }

pub settled_same : (f : HookFacts) → Same f (settled f)
settled_same f = elim (f.ends == f.starts) as (λ b. Same f (if b then with_start f (start_due f.last f.now_open) else f))
    [ true ↦ same_start f (start_due f.last f.now_open) | false ↦ same_start f None ]

-- what the marks of the scripts say
pub said-opened : (target : HookTarget) (time n : ℕ) (hooks : List HookMark) → said_with (opened_mark target time n) hooks ≡ Opened n ∷ hooks
said-opened (Link l) time n hooks = refl
said-opened (OfUnit u) time n hooks = refl

pub said-closed : (target : HookTarget) (time n : ℕ) (hooks : List HookMark) → said_with (closed_mark target time n) hooks ≡ Closed n ∷ hooks
said-closed (Link l) time n hooks = refl
said-closed (OfUnit u) time n hooks = refl

pub said-ended : (time : ℕ) (answer : ScriptEnd) (job : ℕ) (hooks : List HookMark) → said_with (ended_mark time answer job) hooks ≡ Ended answer job ∷ hooks
said-ended time (Exit status) job hooks = refl
said-ended time Killed job hooks = refl
said-ended time NotStarted job hooks = refl

-- starts and ends stand in both kinds of logs
pub ended-owner : (target : HookTarget) → stands_in target ENDED ≡ true
ended-owner (Link l) = refl
ended-owner (OfUnit u) = refl

-- after a mark that tells of h, and the mark of what is due then, where the machine settled these facts
pub kept_on : {S : Type 0} (new : HookState S) (target : HookTarget) (log after : LogState) (time : ℕ) (m : Mark) (h : HookMark) (f : HookFacts)
    → after ≡ with_due_mark time m log → new.target ≡ target → AreOf target after.past → log.limit ≤ MOST_LIMIT
    → said_with m (said_in log.past) ≡ h ∷ said_in log.past
    → new.facts ≡ settled f → StandsFor new.facts (with_due (h ∷ said_in log.past))
    → f.greatest ≤ length log.past + 1 → f.starts ≤ length log.past → IsKept new after
kept_on new target log after time m h f is_after same_target of_table small told is stands few_openings few_starts =
    let same = settled_same f in
    let greatest : new.facts.greatest ≡ f.greatest = ap (λ (x : HookFacts). x.greatest) is ∙ same.greatest in
    let starts : new.facts.starts ≡ (settled f).starts = ap (λ (x : HookFacts). x.starts) is in
    let most : (settled f).starts ≤ f.starts + 1 = same.starts in
    let long : length log.past + 1 ≤ length (due_marks time (m ∷ log.past) ++ m ∷ log.past) = omega (arith, more-due time (m ∷ log.past)) in
    let longer : length after.past ≡ length (due_marks time (m ∷ log.past) ++ m ∷ log.past) = ap (λ (l : LogState). length l.past) is_after in
    record {
      stands = subst (λ hooks. StandsFor new.facts hooks) (sym (ap (λ (l : LogState). said_in l.past) is_after ∙ said-due time (m ∷ log.past) ∙ ap with_due told)) stands;
      of_table = subst (λ t. AreOf t after.past) (sym same_target) of_table;
      greatest = omega (arith, greatest, few_openings, long, longer);
      starts = omega (arith, starts, most, few_starts, long, longer);
      small = subst (λ (l : LogState). l.limit ≤ MOST_LIMIT) (sym is_after) small;
    }

-- what was added is the mark, and that of what is due
pub written : (time : ℕ) (log : LogState) (m : Mark) (h : HookMark) (starts : List HookMark) → said_with m (said_in log.past) ≡ h ∷ said_in log.past
    → due_after (h ∷ said_in log.past) ≡ starts → let after : LogState = record log { past = marks_at time starts ++ m ∷ log.past } in after ≡ with_due_mark time m log
written time log m h starts told due =
    ap (λ hooks. let after : LogState = record log { past = marks_at time hooks ++ m ∷ log.past } in after) (sym due ∙ ap due_after (sym told))

-- a mark that says nothing of scripts
if_all : (a b c d : Bool) (p q r s t : List HookMark) → (a || b || c || d) ≡ false → (if a then p else if b then q else if c then r else if d then s else t) ≡ t
if_all true b c d p q r s t e = absurd (let f : true ≡ false = e in cc)
if_all false true c d p q r s t e = absurd (let f : true ≡ false = e in cc)
if_all false false true d p q r s t e = absurd (let f : true ≡ false = e in cc)
if_all false false false true p q r s t e = absurd (let f : true ≡ false = e in cc)
if_all false false false false p q r s t e = refl

pub said-quiet : (m : Mark) (past : List Mark) → says_scripts m.kind ≡ false → said_in (m ∷ past) ≡ said_in past
said-quiet m past quiet = if_all (is_open_kind m.kind) (is_closed_kind m.kind) (m.kind == START) (m.kind == ENDED) _ _ _ _ _ quiet

pub kept_put : {S : Type 0} (machine : HookState S) (log : LogState) (m : Mark) → IsKept machine log → says_scripts m.kind ≡ false → stands_in machine.target m.kind ≡ true → IsInTable m
    → IsKept machine (record log { past = m ∷ log.past })
kept_put machine log m kept quiet owner in_table = record {
  stands = subst (λ hooks. StandsFor machine.facts hooks) (sym (said-quiet m log.past quiet)) kept.stands;
  of_table = (owner, in_table, kept.of_table);
  greatest = omega (arith, kept.greatest);
  starts = omega (arith, kept.starts);
  small = kept.small;
}

-- the law of scripts, of the log
pub keeps_law : {S : Type 0} (machine : HookState S) (log : LogState) → IsKept machine log → KeepsLaw log.past
keeps_law machine log kept = record {
  law = record { directions = directions_of machine.target log.past kept.of_table; law = law_of_past (said_in log.past) kept.stands.keeps.lawful };
  settled = settled_of_past (said_in log.past) kept.stands.settled;
}

-- what comes back is the running job, by the machine and by the log
none-is : {S : Type 0} (o : Option S) → IsNone o → o ≡ None
none-is None h = refl
none-is (Some s) h = absurd (cc h)

is-none : {S : Type 0} (o : Option S) → o ≡ None → IsNone o
is-none None e = refl
is-none (Some s) e = absurd (cc e)

pub running_is : {S : Type 0} (done : DoneState S) (machine : HookState S) (log : LogState) → IsKept machine log
    → (IsNone machine.spawner × (done.target ≡ machine.target) × (done.number ≡ machine.facts.starts) × (done.not_started ≡ machine.facts.not_started))
    ↔ IsRunningJob done (record { machine = machine; log = log })
running_is done machine log kept =
    let k = kept.stands.keeps in (
      λ h. record { out = none-is machine.spawner h.0; target = h.1; number = h.2 ∙ k.starts; not_started = h.3 ∙ k.not_started },
      λ r. (is-none machine.spawner r.out, r.target, r.number ∙ sym k.starts, r.not_started ∙ sym k.not_started),
    )

pub job-number : {S : Type 0} (done : DoneState S) (machine : HookState S) (log : LogState) → IsKept machine log
    → done.number ≡ machine.facts.starts → machine.facts.starts ≡ machine.facts.ends + 1 → done.number ≡ ends_in (said_in log.past) + 1
job-number done machine log kept e counted = e ∙ counted ∙ ap (λ n. n + 1) kept.stands.keeps.ends

none-open : (o : Option Opening) → opening_number o ≡ None → o ≡ None
none-open None e = refl
none-open (Some o) e = absurd (cc e)

-- where the log has no opening open, the machine has none
pub is_shut : {S : Type 0} (machine : HookState S) (log : LogState) → IsKept machine log → open_in (said_in log.past) ≡ None → machine.facts.now_open ≡ None
is_shut machine log kept shut = none-open machine.facts.now_open (kept.stands.keeps.now_open ∙ shut)

-- at most the mark and a start are added
pub grows_by : (time : ℕ) (m : Mark) (log : LogState) → Grows 2 log (with_due_mark time m log)
grows_by time m log = record {
  few = omega (arith, few-due time (m ∷ log.past));
  longer = omega (arith, more-due time (m ∷ log.past));
  same_limit = refl;
}

-- what the log says then
pub said_after : (time : ℕ) (m : Mark) (h : HookMark) (log : LogState) → said_with m (said_in log.past) ≡ h ∷ said_in log.past
    → said_in (with_due_mark time m log).past ≡ with_due (h ∷ said_in log.past)
said_after time m h log told = said-due time (m ∷ log.past) ∙ ap with_due told

-- an opening or a closing lets a running job go on
same_jobs : (hooks : List HookMark) → ends_in hooks < starts_in hooks → with_due hooks ≡ hooks
same_jobs hooks runs = grind (arith, nat_tests)

due-ends : (starts past : List HookMark) → AreStarts starts → (ends_in (starts ++ past) ≡ ends_in past) × (not_started_in (starts ++ past) ≡ not_started_in past)
due-ends [] past a = (refl, refl)
due-ends (Opened n ∷ starts) past a = absurd a
due-ends (Closed n ∷ starts) past a = absurd a
due-ends (Started up n ∷ starts) past a = due-ends starts past a
due-ends (Ended answer job ∷ starts) past a = absurd a

pub opening_keeps : (n : ℕ) (hooks new : List HookMark) → new ≡ with_due (Opened n ∷ hooks) → KeepsRunning hooks new
opening_keeps n hooks new is =
    let ends = due-ends (due_after (Opened n ∷ hooks)) (Opened n ∷ hooks) (due-starts (Opened n ∷ hooks)) in record {
      starts = λ runs. ap starts_in is ∙ ap starts_in (same_jobs (Opened n ∷ hooks) runs);
      ends = ap ends_in is ∙ ends.0;
      not_started = ap not_started_in is ∙ ends.1;
    }

pub closing_keeps : (n : ℕ) (hooks new : List HookMark) → new ≡ with_due (Closed n ∷ hooks) → KeepsRunning hooks new
closing_keeps n hooks new is =
    let ends = due-ends (due_after (Closed n ∷ hooks)) (Closed n ∷ hooks) (due-starts (Closed n ∷ hooks)) in record {
      starts = λ runs. ap starts_in is ∙ ap starts_in (same_jobs (Closed n ∷ hooks) runs);
      ends = ap ends_in is ∙ ends.0;
      not_started = ap not_started_in is ∙ ends.1;
    }
