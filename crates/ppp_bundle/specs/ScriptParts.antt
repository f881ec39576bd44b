-- How the scripts of a unit and its log go on together.
use Rattle.std.specs.Prelude.{ℕ, Some}
use Rattle.ppp_hooks.specs.HookFacts.{settled, with_end, with_open}
use Rattle.ppp_hooks.specs.HookState.{DoneState}
use Rattle.ppp_mark.specs.declared.mark.Mark.{Mark}
use Rattle.ppp_mark.specs.Log.{added}
use Rattle.ppp_mark.specs.ScriptLog.{ScriptLogState, closed_facts, log_closed, log_ended, log_opened, next_opening, with_addresses}
use Rattle.ppp_outside.specs.declared.hook_words.HookArgs.{HookArgs}

-- a mark that says nothing of scripts
abbrev pub marked : {S : Type 0} → Mark → ScriptLogState S → ScriptLogState S
marked m s = record s { log = added m s.log }

-- IP opens under the next number: the marks of its addresses stand behind the start that it led to.
abbrev pub opened : {S : Type 0} → HookArgs → ℕ → ScriptLogState S → ScriptLogState S
opened args time s = record {
  machine = record s.machine { facts = settled (with_open s.machine.facts (next_opening s.log) args) };
  log = with_addresses time args (log_opened s.machine.target time s.log);
}

-- IP closes, where it is open.
abbrev pub shut : {S : Type 0} → ℕ → ScriptLogState S → ScriptLogState S
shut time s = record {
  machine = record s.machine { facts = closed_facts s.machine.facts };
  log = log_closed s.machine.target time s.log;
}

-- The running script has ended, and its spawner is back.
abbrev pub over : {S : Type 0} → DoneState S → ℕ → ScriptLogState S → ScriptLogState S
over done time s = record {
  machine = record s.machine { facts = settled (with_end s.machine.facts done.answer); spawner = Some done.spawner };
  log = log_ended time done.answer s.log;
}
