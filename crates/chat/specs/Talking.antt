-- How far a conversation has come: what the private calls of the loop take and leave. What they come to is what `Talks` says.
use Rattle.std.specs.Prelude.{◌≡◌, ℕ, List, [], ◌∷◌, ◌++◌, Option, None, Some, Result, Ok, Err}
use Rattle.ppp_chat.specs.ChatOf.{ChatOf}
use Rattle.ppp_chat.specs.ChatState.{Answers, ChatState, IsBegun, StandsFor}
use Rattle.ppp_chat.specs.declared.event.Event.{Event}
use Rattle.ppp_chat.specs.Script.{ChatScript}
use Rattle.ppp_chat.specs.declared.now.ChatEnd.TheVariants as how
use Rattle.ppp_chat.specs.declared.now.ChatNow.{ChatNow}
use Rattle.ppp_chat.specs.declared.now.ChatNow.TheVariants.{Going, Sent, Done, TimedOut, Aborted}
use Rattle.ppp_outside.specs.Clock.{ClockState}
use Rattle.ppp_outside.specs.Line.{LineState}
use Rattle.ppp_outside.specs.Sink.{SinkState}
use Rattle.ppp_outside.specs.Writing.{Breaks, Writes}
use Rattle.ppp_outside.specs.declared.line_in.LineAnswer.{LineAnswer}
use Rattle.ppp_outside.specs.declared.line_in.LineGot.{LineGot}
use Rattle.ppp_outside.specs.declared.line_in.LineGot.TheVariants as got
use Rattle.chat.specs.Heard.{Hears, IsHeard, Listens, ReadsOne}
use Rattle.chat.specs.Talks.{GoesOn}
use Rattle.chat.specs.declared.ending.TalkEnd.{TalkEnd}
use Rattle.chat.specs.declared.ending.TalkEnd.TheVariants.{Over, LineEnded, LineFailed, SendFailed}

-- A read gave this octet or none.
pub record GivesOctet {I : Type 0} (line : I → LineState) (coming : I → Option LineAnswer) (before after : I) (octet : Option ℕ) : Type 0 where
  pub answer : LineGot
  pub read : ReadsOne line coming before after answer
  pub heard : IsHeard answer read.buf octet

-- A read gave this octet or none, or the line has ended so.
abbrev pub ReadsAs : {I : Type 0} → (I → LineState) → (I → Option LineAnswer) → I → I → Result (Option ℕ) TalkEnd → Type 0
ReadsAs line coming before after (Ok octet) = GivesOctet line coming before after octet
ReadsAs line coming before after (Err LineEnded) = ReadsOne line coming before after got.End
ReadsAs line coming before after (Err LineFailed) = ReadsOne line coming before after got.Failed
ReadsAs line coming before after (Err other) = ⊥

-- A conversation that stood for some calls stands for one more, and this is its answer.
pub record TakesCall (old new : ChatState) (call : Event) (answered : ChatNow) : Type 0 where
  pub begun : IsBegun new
  pub script : new.script ≡ old.script
  pub stands : (calls : List Event) → StandsFor old calls → StandsFor new (calls ++ call ∷ [])
  pub answers : (calls : List Event) → StandsFor old calls → Answers new.script calls call answered

module _ {I C : Type 0} (line : I → LineState) (coming : I → Option LineAnswer) (clock : C → ClockState) where
  -- An event was heard, and answered.
  pub record Continues (old new : ChatState) (before after : I) (earlier later : C) (answered : ChatNow) : Type 0 where
    pub event : Event
    pub hears : Hears line coming clock before after earlier later event
    pub takes : TakesCall old new event answered

  -- An event was heard and answered, or the line has ended so, and the clock wasn't read.
  abbrev pub HearsNext : ChatState → ChatState → I → I → C → C → Result ChatNow TalkEnd → Type 0
  HearsNext old new before after earlier later (Ok answered) = Continues old new before after earlier later answered
  HearsNext old new before after earlier later (Err end) = ReadsAs line coming before after (Err end) × (later ≡ earlier)

  -- The script went on with these calls, and all that it sends at them was written. The last call was heard and has this answer, which is still to be
  -- acted on.
  pub record Talking (script : ChatScript) (chat : ChatState) (answered : ChatNow) (before after : I) (earlier later : C) (old new : SinkState) : Type 0 where
    pub calls : List Event
    pub last : Event
    pub listens : Listens line coming clock before after earlier later (calls ++ last ∷ [])
    pub goes_on : GoesOn script calls
    pub wrote : Writes old new (ChatOf script calls).sent
    pub script_is : chat.script ≡ script
    pub begun : IsBegun chat
    pub stands : StandsFor chat (calls ++ last ∷ [])
    pub answers : Answers script calls last answered

-- What an answer asks for was done: octets were written, or broke off, or the conversation is over.
abbrev pub Says : ChatNow → SinkState → SinkState → Option TalkEnd → Type 0
Says Going old new end = (end ≡ None) × (new ≡ old)
Says (Sent octets) old new None = Writes old new octets
Says (Sent octets) old new (Some end) = (end ≡ SendFailed) × Breaks old new octets
Says Done old new end = (end ≡ Some (Over how.Done)) × (new ≡ old)
Says TimedOut old new end = (end ≡ Some (Over how.TimedOut)) × (new ≡ old)
Says (Aborted number) old new end = (end ≡ Some (Over (how.Aborted number))) × (new ≡ old)
