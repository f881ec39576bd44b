-- What a run answers.
use Rattle.std.proofs.Common.{◌≡◌, ◌≤◌, ◌⊎◌, ℕ, Bool, true, false, List, Option, Some, None, IfSome, Result, Ok, Err, inl, inr, refl, sym, ap, ◌∙◌, subst, arith}
use Rattle.std.specs.Bool.{OnFalse, OnTrue}
use Rattle.ppp_chat.specs.declared.now.ChatEnd.{ChatEnd}
use Rattle.ppp_chat.specs.declared.now.ChatEnd.TheVariants as how
use Rattle.ppp_chat.specs.Words.{script_of}
use Rattle.ppp_chat.proofs.AbortNumbers.{abort-number}
use Rattle.ppp_chat_words.specs.FileWords.{words_at}
use Rattle.ppp_chat_words.specs.Split.{FrontWords}
use Rattle.ppp_outside.specs.Clock.{ClockState}
use Rattle.ppp_outside.specs.Counts.{Rose}
use Rattle.ppp_outside.specs.Files.{FilesState, NamedFile}
use Rattle.ppp_outside.specs.Line.{LineState}
use Rattle.ppp_outside.specs.Sink.{SinkState}
use Rattle.ppp_outside.specs.declared.line_in.LineAnswer.{LineAnswer}
use Rattle.ppp_words.specs.declared.backslash.Backslash.TheVariants.{Kept}
use Rattle.chat.specs.Asked.{GivesPlan, Plans, Task, file_plan, plan_of, planned, quote_plan, script_plan, task_of, task_plan}
use Rattle.chat.specs.Run.{Answers, Ends, HasCause, HasNoLine, IsNumbered, IsStatusOf, LineIsOut, Outside, PlanRuns, RunsOver, TalkIsNumbered, EndIsNumbered, over_status, status_of, talk_status}
use Rattle.chat.specs.Talks.{Talks}
use Rattle.chat.specs.declared.ending.Ending.{Ending}
use Rattle.chat.specs.declared.ending.Ending.TheVariants.{Refused, NoLine, Talked}
use Rattle.chat.specs.declared.ending.Refusal.{Refusal}
use Rattle.chat.specs.declared.ending.Refusal.TheVariants.{OtherWords, BadScript, NoFile, FilesFailed, NoMemory}
use Rattle.chat.specs.declared.ending.TalkEnd.{TalkEnd}
use Rattle.chat.specs.declared.ending.TalkEnd.TheVariants.{Over, LineEnded, LineFailed, SendFailed}
use Rattle.chat.specs.declared.plan.Plan.{Plan}

pub either_way : (b : Bool) (P Q : Type 0) → OnTrue b P → OnFalse b Q → P ⊎ Q
either_way true P Q p q = inl p
either_way false P Q p q = inr q

-- ---- the script of a plan was read

-- a plan that words have has a script that words are
abbrev HasScript : Result Plan Refusal → Type 0
HasScript (Ok plan) = (words : List (List ℕ)) × (script_of words ≡ Ok plan.script.items)
HasScript (Err refusal) = Unit {0}

script_has : (line : List ℕ) (timeout_s : ℕ) (words : List (List ℕ)) → HasScript (script_plan line timeout_s (script_of words))
script_has line timeout_s words = cases (script_of words) refl
  where
    cases : (r : _) → script_of words ≡ r → HasScript (script_plan line timeout_s (script_of words))
    cases (Ok items) e = rw e (words, e)
    cases (Err fault) e = rw e tt

quote_has : (line : List ℕ) (timeout_s : ℕ) (words : List (List ℕ)) (open_quote : Option ℕ) → HasScript (quote_plan line timeout_s words open_quote)
quote_has line timeout_s words None = script_has line timeout_s words
quote_has line timeout_s words (Some at) = tt

file_has : (line : List ℕ) (timeout_s : ℕ) (front : Option FrontWords) → HasScript (file_plan line timeout_s front)
file_has line timeout_s None = tt
file_has line timeout_s (Some front) = quote_has line timeout_s front.words front.open_quote

task_has : (files : List ℕ → Option FrontWords) (task : Task) (file : Option (List ℕ)) → HasScript (task_plan files task file)
task_has files task None = script_has task.line task.timeout_s task.words
task_has files task (Some name) = file_has task.line task.timeout_s (files name)

plan_has : (files : List ℕ → Option FrontWords) (task : Option Task) → HasScript (plan_of files task)
plan_has files None = tt
plan_has files (Some task) = task_has files task task.file

planned_has : (files : List ℕ → Option FrontWords) (words : List (List ℕ)) (plan : Plan) → Ok plan ≡ planned files words → HasScript (Ok plan)
planned_has files words plan e = subst (λ (r : Result Plan Refusal). HasScript r) (sym e) (plan_has files (task_of words))

-- ---- numbers of abort strings

module _ {I C : Type 0} (line : I → LineState) (coming : I → Option LineAnswer) (clock : C → ClockState) where
  over_numbered : (plan : Plan) (end : ChatEnd) (before after : I) (earlier later : C) (old new : SinkState) → HasScript (Ok plan)
      → Talks line coming clock plan.script (Over end) before after earlier later old new → IsNumbered end
  over_numbered plan how.Done before after earlier later old new h t = tt
  over_numbered plan how.TimedOut before after earlier later old new h t = tt
  over_numbered plan (how.Aborted number) before after earlier later old new h t = abort-number h.0 plan.script t.calls number h.1 t.ends.ends

  pub talk_numbered : (plan : Plan) (end : TalkEnd) (before after : I) (earlier later : C) (old new : SinkState) → HasScript (Ok plan)
      → Talks line coming clock plan.script end before after earlier later old new → TalkIsNumbered end
  talk_numbered plan (Over end) before after earlier later old new h t = over_numbered plan end before after earlier later old new h t
  talk_numbered plan LineEnded before after earlier later old new h t = tt
  talk_numbered plan LineFailed before after earlier later old new h t = tt
  talk_numbered plan SendFailed before after earlier later old new h t = tt

-- ---- the status that words have

file_same : (f g : List ℕ → Option FrontWords) → ((name : List ℕ) → f name ≡ g name) → (task : Task) (file : Option (List ℕ)) → task_plan f task file ≡ task_plan g task file
file_same f g same task None = refl
file_same f g same task (Some name) = ap (λ (front : Option FrontWords). file_plan task.line task.timeout_s front) (same name)

plan_same : (f g : List ℕ → Option FrontWords) → ((name : List ℕ) → f name ≡ g name) → (task : Option Task) → plan_of f task ≡ plan_of g task
plan_same f g same None = refl
plan_same f g same (Some task) = file_same f g same task task.file

planned_told : (files : Option (List NamedFile)) (all : List NamedFile) (f : List ℕ → Option FrontWords) (words : List (List ℕ)) → files ≡ Some all
    → IfSome files (λ told. (name : List ℕ) → f name ≡ words_at Kept told name) → planned f words ≡ planned (words_at Kept all) words
planned_told files all f words e told =
    let same : (name : List ℕ) → f name ≡ words_at Kept all name = subst (λ (o : Option (List NamedFile)). IfSome o (λ these. (name : List ℕ) → f name ≡ words_at Kept these name)) e told in
    plan_same f (words_at Kept all) same (task_of words)

by_memory : (asked : Result Plan Refusal) (cause : Type 0) → IsStatusOf asked cause 64
by_memory (Ok plan) cause = inr (inr refl)
by_memory (Err refusal) cause = inr (inr refl)

by_cause : (asked : Result Plan Refusal) (cause : Type 0) → cause → IsStatusOf asked cause 2
by_cause (Ok plan) cause is = inr (inl (refl, is))
by_cause (Err refusal) cause is = inr (inl (refl, is))

by_words : (asked : Result Plan Refusal) (cause : Type 0) (refusal : Refusal) (status : ℕ) → Err refusal ≡ asked → IsStatusOf (Err refusal) cause status → IsStatusOf asked cause status
by_words asked cause refusal status e is = subst (λ (r : Result Plan Refusal). IsStatusOf r cause status) e is

refused_status_of : (old new : FilesState) (words : List (List ℕ)) (refusal : Refusal) (all : List NamedFile) (cause : Type 0) → Plans old new words (Err refusal)
    → old.files ≡ Some all → (Rose old.faults new.faults → cause) → IsStatusOf (planned (words_at Kept all) words) cause (status_of (Refused refusal))
refused_status_of old new words OtherWords all cause p told because =
    by_words (planned (words_at Kept all) words) cause OtherWords 1 (p.gives ∙ planned_told old.files all p.files words told p.where_told) (inl refl)
refused_status_of old new words BadScript all cause p told because =
    by_words (planned (words_at Kept all) words) cause BadScript 1 (p.gives ∙ planned_told old.files all p.files words told p.where_told) (inl refl)
refused_status_of old new words NoFile all cause p told because =
    by_words (planned (words_at Kept all) words) cause NoFile 2 (p.gives ∙ planned_told old.files all p.files words told p.where_told) (inl refl)
refused_status_of old new words FilesFailed all cause p told because = by_cause (planned (words_at Kept all) words) cause (because p.faults)
refused_status_of old new words NoMemory all cause p told because = by_memory (planned (words_at Kept all) words) cause

over_status_of : (old new : FilesState) (words : List (List ℕ)) (plan : Plan) (how : ChatEnd) (all : List NamedFile) (cause : Type 0) → Plans old new words (Ok plan)
    → old.files ≡ Some all → IsStatusOf (planned (words_at Kept all) words) cause (over_status how)
over_status_of old new words plan how all cause p told =
    let is : Ok plan ≡ planned (words_at Kept all) words = p.gives ∙ planned_told old.files all p.files words told p.where_told in
    subst (λ (r : Result Plan Refusal). IsStatusOf r cause (over_status how)) is (inl (how, refl))

rose_from : (before now : ℕ) → Rose before now → Rose 0 now
rose_from before now rose = omega (arith, rose)

module _ {I O C : Type 0} (input : I → LineState) (coming : I → Option LineAnswer) (output : O → SinkState) (clock : C → ClockState) where
  -- a line that was dialled has ended for a cause
  out : (asked : Plan) (end : TalkEnd) (first last : I × O) (earlier later : C) → Talks input coming clock asked.script end first.0 last.0 earlier later (output first.1) (output last.1)
      → ((how : ChatEnd) × (end ≡ Over how)) ⊎ ((talk_status end ≡ 2) × LineIsOut input output (Some last))
  out asked (Over how) first last earlier later t = inl (how, refl)
  out asked LineEnded first last earlier later t = inr (refl, inr (inl (omega (arith, t.stops.reads.ends))))
  out asked LineFailed first last earlier later t = inr (refl, inl (rose_from _ _ t.stops.reads.faults))
  out asked SendFailed first last earlier later t = inr (refl, inr (inr (rose_from _ _ t.broke.fault)))

  talked_status_of : (words : List (List ℕ)) (end : TalkEnd) (old new : Outside C) (line : Option (I × O)) (asked : Plan) (all : List NamedFile)
      → Plans old.files new.files words (Ok asked) → RunsOver input coming output clock asked old.dialer new.dialer old.clock new.clock end line → old.files.files ≡ Some all
      → IsStatusOf (planned (words_at Kept all) words) (HasCause input output old new line) (talk_status end)
  talked_status_of words end old new line asked all p r told =
      elim (out asked end r.first r.last old.clock new.clock r.talks) [
        | inl over ↦ rw over.1 (over_status_of old.files new.files words asked over.0 all (HasCause input output old new line) p told)
        | inr ended ↦ rw ended.0 (by_cause (planned (words_at Kept all) words) (HasCause input output old new line) (inr (inr (rw r.line_is ended.1))))
      ]

  complete_by : (words : List (List ℕ)) (ending : Ending) (old new : Outside C) (line : Option (I × O)) (all : List NamedFile) → Ends input coming output clock words ending old new line
      → old.files.files ≡ Some all → IsStatusOf (planned (words_at Kept all) words) (HasCause input output old new line) (status_of ending)
  complete_by words (Refused refusal) old new line all e told =
      refused_status_of old.files new.files words refusal all (HasCause input output old new line) e.plan told (λ rose. inl rose)
  complete_by words NoLine old new line all e told =
      by_cause (planned (words_at Kept all) words) (HasCause input output old new line) (inr (inl e.dials.faults))
  complete_by words (Talked end) old new line all e told = talked_status_of words end old new line e.asked all e.plan e.runs told

  pub complete_of : (words : List (List ℕ)) (status : ℕ) (old new : Outside C) (line : Option (I × O)) (all : List NamedFile) → Answers input coming output clock words status old new line
      → old.files.files ≡ Some all → IsStatusOf (planned (words_at Kept all) words) (HasCause input output old new line) status
  complete_of words status old new line all a told = rw a.status_is (complete_by words a.ending old new line all a.ends told)

  -- a plan was run
  pub run_numbered : (old new : FilesState) (words : List (List ℕ)) (plan : Plan) (before after : _) (earlier later : C) (ending : Ending) (line : Option (I × O))
      → Plans old new words (Ok plan) → PlanRuns input coming output clock plan before after earlier later ending line → EndIsNumbered ending
  run_numbered old new words plan before after earlier later (Refused refusal) line p r = absurd r
  run_numbered old new words plan before after earlier later NoLine line p r = tt
  run_numbered old new words plan before after earlier later (Talked end) line p r =
      talk_numbered input coming clock plan end r.first.0 r.last.0 earlier later (output r.first.1) (output r.last.1) (planned_has p.files words plan p.gives) r.talks

  pub run_ends : (words : List (List ℕ)) (plan : Plan) (old new : Outside C) (ending : Ending) (line : Option (I × O))
      → Plans old.files new.files words (Ok plan) → PlanRuns input coming output clock plan old.dialer new.dialer old.clock new.clock ending line → new.errors ≡ old.errors
      → Ends input coming output clock words ending old new line
  run_ends words plan old new (Refused refusal) line p r same = absurd r
  run_ends words plan old new NoLine line p r same = record { asked = plan; plan = p; dials = r.0; clock = r.1; errors = same; none = r.2 }
  run_ends words plan old new (Talked end) line p r same = record { asked = plan; plan = p; runs = r; errors = same }
