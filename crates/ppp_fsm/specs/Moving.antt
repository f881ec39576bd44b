-- Where events lead (RFC 1661, section 4.2).
use Rattle.std.specs.Prelude.{ℕ, ◌==◌, ◌||◌, Bool, true, false}
use Rattle.ppp_fsm.specs.declared.event.FsmEvent.{FsmEvent}
use Rattle.ppp_fsm.specs.declared.event.FsmEvent.TheVariants.{Up, Open, RcrGood, RcrBad}

-- The layer isn't wanted: Initial, Closed or Closing.
abbrev pub is_shut : ℕ → Bool
is_shut state = state == 0 || state == 2 || state == 4

abbrev pub is_open_event : FsmEvent → Bool
is_open_event Open = true
is_open_event _ = false

-- What leads from the states up to Stopped to those above: Up in Starting, Open in Closed, and a Configure-Request in Stopped.
abbrev pub may_begin : FsmEvent → ℕ → Bool
may_begin Up state = state == 1
may_begin Open state = state == 2
may_begin RcrGood state = state == 3
may_begin RcrBad state = state == 3
may_begin _ state = false
