-- What contracts see of the spawners in memory.
use Rattle.std.specs.Prelude.{ℕ, Bool, List, length, nat_lt, nat_eq, not, ◌||◌, ◌++◌, if◌then◌else◌}
use Rattle.std.specs.List.{list_any}
use Rattle.ppp_outside.specs.Counts.{raised}
use Rattle.ppp_outside.specs.Spawner.{failed, ran_by}
use Rattle.ppp_outside.specs.declared.hook_words.HookWords.{HookWords}
use Rattle.ppp_outside.specs.declared.spawner.Ran.{Ran}
use Rattle.ppp_outside.specs.declared.spawner.ScriptEnd.{ScriptEnd}
use Rattle.ppp_outside.specs.declared.spawner.ScriptEnd.TheVariants.{NotStarted}

-- what was run and for how many runs the record has room, which calls are to fail, the answer that was set, and the counts
pub record Recorded : Type 0 where
  pub runs : List Ran
  pub room : ℕ
  pub failing : List ℕ
  pub next : ScriptEnd
  pub tries : ℕ
  pub faults : ℕ

-- whether the next call fails: it is one of those that are to fail, or the record is full
abbrev pub is_refused : Recorded → Bool
is_refused s = list_any (λ call. nat_eq call (raised s.tries 1)) s.failing || not (nat_lt (length s.runs) s.room)

-- what the next call answers
abbrev pub answer_of : Recorded → ScriptEnd
answer_of s = if is_refused s then NotStarted else s.next

-- the count of faults after an answer
abbrev pub faults_after : ℕ → ScriptEnd → ℕ
faults_after faults answer = if failed answer then raised faults 1 else faults

-- after a call with these words
abbrev pub after_run : Recorded → HookWords → Recorded
after_run s words =
    let answer = answer_of s in
    record s { runs = s.runs ++ ran_by words answer; tries = raised s.tries 1; faults = faults_after s.faults answer }
