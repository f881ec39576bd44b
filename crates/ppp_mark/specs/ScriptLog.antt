-- A machine of site scripts together with a log. What the machine does the log has, and the log has other marks too.
use Rattle.std.specs.Prelude.{ℕ, ◌+◌, ◌≤◌, ◌≡◌, Option, None, Some, List, ◌∷◌, ◌++◌, is_some, length, if◌then◌else◌}
use Rattle.ppp_base.specs.declared.hook_target.HookTarget.{HookTarget}
use Rattle.ppp_base.specs.declared.hook_target.HookTarget.TheVariants.{Link, Unit as OfUnit}
use Rattle.ppp_outside.specs.declared.hook_words.HookArgs.{HookArgs}
use Rattle.ppp_outside.specs.declared.spawner.ScriptEnd.{ScriptEnd}
use Rattle.ppp_hooks.specs.HookFacts.{StandsFor, settled, with_closed}
use Rattle.ppp_hooks.specs.declared.facts.HookFacts.{HookFacts}
use Rattle.ppp_hooks.specs.HookPast.{open_in, greatest_in, starts_in, ends_in, not_started_in}
use Rattle.ppp_hooks.specs.HookState.{HookState, DoneState}
use Rattle.ppp_mark.specs.declared.mark.Mark.{Mark}
use Rattle.ppp_mark.specs.declared.script_log.TheConstants.{MOST_LIMIT}
use Rattle.ppp_mark.specs.Log.{AreOf, LogState, added}
use Rattle.ppp_mark.specs.Marks.{auth_open_mark, auth_closed_mark, ip_open_mark, ip_closed_mark, ended_mark, local_mark, remote_mark}
use Rattle.ppp_mark.specs.Scripts.{LogLaw, LogSettled, due_marks, said_in}

pub record ScriptLogState (S : Type 0) : Type 0 where
  pub machine : HookState S
  pub log : LogState

-- The machine stands for what the log says, whose marks are of its object's kinds and in the table's ranges, and the counts are small.
pub record IsKept {S : Type 0} (machine : HookState S) (log : LogState) : Type 0 where
  pub stands : StandsFor machine.facts (said_in log.past)
  pub of_table : AreOf machine.target log.past
  pub greatest : machine.facts.greatest ≤ length log.past
  pub starts : machine.facts.starts ≤ length log.past
  pub small : log.limit ≤ MOST_LIMIT

-- The log keeps the law of scripts, and while none runs they agree with the protocol, which is open where an opening is.
pub record KeepsLaw (past : List Mark) : Type 0 where
  pub law : LogLaw 0 past
  pub settled : LogSettled past (is_some (open_in (said_in past)))

-- The protocol whose opening starts the scripts: of a link what the peer has proved, of a unit IP.
abbrev pub opened_mark : HookTarget → ℕ → ℕ → Mark
opened_mark (Link link) time n = auth_open_mark time n
opened_mark (OfUnit unit) time n = ip_open_mark time n

abbrev pub closed_mark : HookTarget → ℕ → ℕ → Mark
closed_mark (Link link) time n = auth_closed_mark time n
closed_mark (OfUnit unit) time n = ip_closed_mark time n

-- a mark, and behind it that of the start which is due then
abbrev pub with_due_mark : ℕ → Mark → LogState → LogState
with_due_mark time mark log = record log { past = due_marks time (mark ∷ log.past) ++ mark ∷ log.past }

-- the marks of both addresses behind what an opening has added
abbrev pub with_addresses : ℕ → HookArgs → LogState → LogState
with_addresses time args log = added (remote_mark time args.remote) (added (local_mark time args.local) log)

-- the number of the next opening
abbrev pub next_opening : LogState → ℕ
next_opening log = greatest_in (said_in log.past) + 1

-- the protocol opens under the next number
abbrev pub log_opened : HookTarget → ℕ → LogState → LogState
log_opened target time log = with_due_mark time (opened_mark target time (next_opening log)) log

-- the opening that is open closes, if one is
abbrev pub log_closed_at : HookTarget → ℕ → Option ℕ → LogState → LogState
log_closed_at target time None log = log
log_closed_at target time (Some n) log = with_due_mark time (closed_mark target time n) log

abbrev pub log_closed : HookTarget → ℕ → LogState → LogState
log_closed target time log = log_closed_at target time (open_in (said_in log.past)) log

-- the machine's facts then
abbrev pub closed_facts : HookFacts → HookFacts
closed_facts facts = if is_some facts.now_open then settled (with_closed facts) else facts

-- the running job has ended
abbrev pub log_ended : ℕ → ScriptEnd → LogState → LogState
log_ended time answer log = with_due_mark time (ended_mark time answer (ends_in (said_in log.past) + 1)) log

-- What comes back is the job that was taken and runs, as the log has it.
pub record IsRunningJob {S : Type 0} (done : DoneState S) (old : ScriptLogState S) : Type 0 where
  pub out : old.machine.spawner ≡ None
  pub target : done.target ≡ old.machine.target
  pub number : done.number ≡ starts_in (said_in old.log.past)
  pub not_started : done.not_started ≡ not_started_in (said_in old.log.past)

-- At most so many marks were added, and the limit is the same.
pub record Grows (most : ℕ) (old new : LogState) : Type 0 where
  pub few : length new.past ≤ length old.past + most
  pub longer : length old.past ≤ length new.past
  pub same_limit : new.limit ≡ old.limit
