-- What a conversation hears: the line is read octet by octet, and behind each read the clock.
use Rattle.std.specs.Prelude.{◌≡◌, ℕ, ◌^◌, min, List, [], ◌∷◌, length, Option, None, Some, IfSome}
use Rattle.ppp_chat.specs.Event.{tick_at}
use Rattle.ppp_chat.specs.declared.event.Event.{Event}
use Rattle.ppp_outside.specs.Clock.{ClockState, Reads}
use Rattle.ppp_outside.specs.Line.{AnswersAs, LineState, ReadsLine, given}
use Rattle.ppp_outside.specs.declared.line_in.LineAnswer.{LineAnswer}
use Rattle.ppp_outside.specs.declared.line_in.LineGot.{LineGot}
use Rattle.ppp_outside.specs.declared.line_in.LineGot.TheVariants as got

-- The moment of a reading: one above 2^56 milliseconds counts as that.
abbrev pub moment : ℕ → ℕ
moment reading = min reading (2 ^ 56)

-- an octet as a list, none as the empty one
abbrev pub listed : Option ℕ → List ℕ
listed None = []
listed (Some octet) = octet ∷ []

-- One read with room for one octet turned this line into that one. It answered so, and as was set where that is told.
pub record ReadsOne {I : Type 0} (line : I → LineState) (coming : I → Option LineAnswer) (before after : I) (answer : LineGot) : Type 0 where
  pub buf : List ℕ
  pub room : length buf ≡ 1
  pub reads : ReadsLine (line before) (line after) answer buf
  pub as_told : IfSome (coming before) (λ set. AnswersAs set answer buf)

-- The read that an event comes from gave its octet, or nothing came in its wait.
abbrev pub IsHeard : LineGot → List ℕ → Option ℕ → Type 0
IsHeard (got.Got count) buf octet = given (got.Got count) buf ≡ listed octet
IsHeard got.Quiet buf octet = octet ≡ None
IsHeard got.End buf octet = ⊥
IsHeard got.Failed buf octet = ⊥

module _ {I C : Type 0} (line : I → LineState) (coming : I → Option LineAnswer) (clock : C → ClockState) where
  -- An event was heard: the line was read, and then the clock, which tells its moment.
  pub record Hears (before after : I) (earlier later : C) (event : Event) : Type 0 where
    pub answer : LineGot
    pub read : ReadsOne line coming before after answer
    pub heard : IsHeard answer read.buf event.octet
    pub reading : ℕ
    pub clock_read : Reads (clock earlier) (clock later) reading
    pub at : event.at ≡ moment reading

  -- These events were heard, one after the other, and nothing else was read.
  abbrev pub HearsAll : List Event → I → I → C → C → Type 0
  HearsAll [] before after earlier later = (after ≡ before) × (later ≡ earlier)
  HearsAll (event ∷ events) before after earlier later =
      (between : I) × (meanwhile : C) × Hears before between earlier meanwhile event × HearsAll events between after meanwhile later

  -- A conversation over a line that was just dialled has heard these calls: it began at the clock's next reading, and then heard an event with each
  -- read.
  pub record Listens (before after : I) (earlier later : C) (calls : List Event) : Type 0 where
    pub reading : ℕ
    pub begun : C
    pub begins : Reads (clock earlier) (clock begun) reading
    pub events : List Event
    pub heard : HearsAll events before after begun later
    pub calls_are : calls ≡ tick_at (moment reading) ∷ events
