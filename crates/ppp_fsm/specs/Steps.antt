-- One step of the code, against the table.
use Rattle.std.specs.Prelude.{ℕ, ◌≡◌}
use Rattle.ppp_fsm.specs.declared.event.FsmEvent.{FsmEvent}
use Rattle.ppp_fsm.specs.declared.fsm.Limits.{Limits}
use Rattle.ppp_fsm.specs.declared.steps.Move.{Move}
use Rattle.ppp_fsm.specs.Fsm.{Automaton, acts_of, after}
use Rattle.ppp_fsm.specs.State.{number_of}

-- the automaton with these limits, in this state, with this counter
abbrev pub automaton : Limits → ℕ → ℕ → Automaton
automaton limits state counter = record { configure = limits.configure; terminate = limits.terminate; state = state; counter = counter }

-- the move has the acts of the table's entry, and leads where it says
pub record Makes (limits : Limits) (state counter : ℕ) (event : FsmEvent) (move : Move) : Type 0 where
  pub acts : move.acts ≡ acts_of (automaton limits state counter) event
  pub after : automaton limits (number_of move.next) move.counter ≡ after (automaton limits state counter) event
