-- The calls that a conversation hears, as a list: its beginning, the octets that come, and the moments at which its time is looked at.
use Rattle.std.specs.Prelude.{ℕ, None, Some, List}
use Rattle.std.specs.List.{filter_map}
pub use Rattle.ppp_chat.specs.declared.event.Event.{Event}

-- the octets of events, in their order
abbrev pub heard : List Event → List ℕ
heard events = filter_map (λ (event : Event). event.octet) events

-- what stands past a list's end
abbrev pub silence : Event
silence = record { at = 0; octet = None }

-- a call without an octet, as the one that begins a script
abbrev pub tick_at : ℕ → Event
tick_at now = record { at = now; octet = None }

-- a call with an octet
abbrev pub octet_at : ℕ → ℕ → Event
octet_at octet now = record { at = now; octet = Some octet }
