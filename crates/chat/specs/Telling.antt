-- What a line and a clock tell of the calls of a conversation: no octet is lost, each answer is an event, and each event has its reading.
use Rattle.std.specs.Prelude.{◌≡◌, ℕ, ◌+◌, List, [], ◌∷◌, length, map, drop, Option, None, Some}
use Rattle.std.specs.Io.KnownBytes.{Consumes}
use Rattle.ppp_chat.specs.Event.{heard}
use Rattle.ppp_chat.specs.declared.event.Event.{Event}
use Rattle.ppp_outside.specs.Clock.{ClockState}
use Rattle.ppp_outside.specs.Contents.{GrowsBy, GrowsWhereTold}
use Rattle.ppp_outside.specs.Counts.{raised}
use Rattle.ppp_outside.specs.Line.{LineState}
use Rattle.ppp_outside.specs.declared.line_in.LineAnswer.{LineAnswer}
use Rattle.ppp_outside.specs.declared.line_in.LineAnswer.TheVariants as told
use Rattle.chat.specs.Heard.{listed, moment}

-- the answer of the line from which an event comes
abbrev pub answer_for : Option ℕ → LineAnswer
answer_for None = told.Quiet
answer_for (Some octet) = told.Got (octet ∷ [])

abbrev pub answers_for : List Event → List LineAnswer
answers_for events = map (λ (event : Event). answer_for event.octet) events

-- What a line tells of these events: its octets, its answers, its counts.
pub record LineTells (old new : LineState) (events : List Event) : Type 0 where
  pub octets : Consumes old.left new.left (heard events)
  pub answers : GrowsBy (answers_for events) old.answers new.answers
  pub taken : new.taken ≡ raised old.taken (length (heard events))
  pub faults : new.faults ≡ old.faults
  pub ends : new.ends ≡ old.ends

-- What a clock tells of calls: one reading for each, in their order.
pub record ClockTells (old new : ClockState) (calls : List Event) : Type 0 where
  pub readings : List ℕ
  pub moments : map (λ (call : Event). call.at) calls ≡ map moment readings
  pub told : GrowsWhereTold readings old.readings new.readings
