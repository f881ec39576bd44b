-- A tick's slots, each by whether it was due at the tick's beginning and still holds a moment.
use Rattle.std.specs.Prelude.{ℕ, ◌&&◌, Bool, is_some}
use Rattle.ppp_timer.specs.Due.{moment_of}
use Rattle.ppp_timer.specs.declared.slot.Slot.{Slot}
use Rattle.ppp_link_rules.specs.LinkState.{LinkState}
use Rattle.ppp_link_rules.specs.Ticking.{moments_of, timers_treated, treated_if, with_time}

abbrev pub slot_if : Bool → Slot → LinkState → LinkState
slot_if due slot s = treated_if (due && is_some (moment_of (moments_of s) slot)) slot s

-- the time is set, and the slots are treated
abbrev pub timers_ticked : ℕ → LinkState → LinkState
timers_ticked now s = timers_treated (with_time now s)
