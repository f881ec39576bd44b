-- How an expect ends, by the places of the events after the one at which it began (chat(8), "Expect-send pairs", "Abort strings").
use Rattle.std.specs.Prelude.{ℕ, ◌+◌, nat_le, nat_eq, zero, suc, Bool, if◌then◌else◌, Option, None, Some, option_map, is_none, List, ◌++◌, take, slice_index_or}
use Rattle.std.specs.List.{ends_with, position}
use Rattle.ppp_chat.specs.Event.{Event, heard, silence}
use Rattle.ppp_chat.specs.declared.ending.Ending.{Ending}
use Rattle.ppp_chat.specs.declared.ending.Ending.TheVariants.{TimeHasCome, Found, AbortFound}

-- an expect: the string, the moment from which on it is late, and the abort strings in the order in which they were set
pub record Awaited : Type 0 where
  pub text : List ℕ
  pub until : ℕ
  pub aborts : List (List ℕ)

-- whether the octets end with the string
abbrev pub is_found : List ℕ → List ℕ → Bool
is_found octets text = ends_with nat_eq octets text

-- which of the abort strings the octets end with: the first of them, counted from 1
abbrev pub abort_found : List ℕ → List (List ℕ) → Option ℕ
abort_found octets aborts = option_map (λ (place : ℕ). place + 1) (position (is_found octets) aborts)

-- Whether an expect ends with this event, and how, where these octets have come since it began, this event's too.
-- First the time is looked at; then, where an octet came, the expected string, and the abort strings behind it.
abbrev pub ending : Awaited → List ℕ → Event → Option Ending
ending x octets event =
    if nat_le x.until event.at then Some TimeHasCome
    else if is_none event.octet then None
    else if is_found octets x.text then Some Found
    else option_map AbortFound (abort_found octets x.aborts)

-- the event at a place
abbrev pub event_at : List Event → ℕ → Event
event_at events place = slice_index_or events place silence

-- Whether an expect ends with the event at this place, where these octets came before the first of the events.
abbrev pub ending_at : Awaited → List ℕ → List Event → ℕ → Option Ending
ending_at x before later place = ending x (before ++ heard (take (suc place) later)) (event_at later place)

-- whether a delay up to this moment ends with the event at this place
abbrev pub delay_end_at : ℕ → List Event → ℕ → Option Ending
delay_end_at until later place = if nat_le until (event_at later place).at then Some TimeHasCome else None

-- the place and the ending, where there is an ending here
abbrev pub here_or : ℕ → Option Ending → Option (ℕ × Ending) → Option (ℕ × Ending)
here_or place None other = other
here_or place (Some found) other = Some (place, found)

-- the first of so many places, from one on, that has an ending
abbrev pub first_from : (ℕ → Option Ending) → ℕ → ℕ → Option (ℕ × Ending)
first_from ends place zero = None
first_from ends place (suc count) = here_or place (ends place) (first_from ends (suc place) count)
