-- A conversation over a line: what is heard, what the script sends at it, and how it ends (chat(8), "Chat script").
use Rattle.std.specs.Prelude.{◌≡◌, ℕ, List, [], ◌∷◌, ◌++◌, take, Option, None, Some}
use Rattle.ppp_chat.specs.ChatOf.{ChatOf}
use Rattle.ppp_chat.specs.declared.event.Event.{Event}
use Rattle.ppp_chat.specs.Script.{ChatScript}
use Rattle.ppp_chat.specs.declared.now.ChatEnd.{ChatEnd}
use Rattle.ppp_outside.specs.Clock.{ClockState}
use Rattle.ppp_outside.specs.Line.{LineState}
use Rattle.ppp_outside.specs.Sink.{SinkState}
use Rattle.ppp_outside.specs.Writing.{Breaks, Writes}
use Rattle.ppp_outside.specs.declared.line_in.LineAnswer.{LineAnswer}
use Rattle.ppp_outside.specs.declared.line_in.LineGot.{LineGot}
use Rattle.ppp_outside.specs.declared.line_in.LineGot.TheVariants as got
use Rattle.chat.specs.Heard.{Listens, ReadsOne}
use Rattle.chat.specs.declared.ending.TalkEnd.{TalkEnd}
use Rattle.chat.specs.declared.ending.TalkEnd.TheVariants.{Over, LineEnded, LineFailed, SendFailed}

-- With none of these calls has the script ended.
abbrev pub GoesOn : ChatScript → List Event → Type 0
GoesOn script calls = (count : ℕ) → (ChatOf script (take count calls)).outcome ≡ None

-- The script has ended so with the last of these calls, and with none before it.
pub record EndsSo (script : ChatScript) (calls : List Event) (how : ChatEnd) : Type 0 where
  pub earlier : List Event
  pub last : Event
  pub calls_are : calls ≡ earlier ++ last ∷ []
  pub goes_on : GoesOn script earlier
  pub ends : (ChatOf script calls).outcome ≡ Some how

module _ {I C : Type 0} (line : I → LineState) (coming : I → Option LineAnswer) (clock : C → ClockState) where
  -- The script ended with the last call that was heard, and all that it sends was written.
  pub record IsOver (script : ChatScript) (how : ChatEnd) (before after : I) (earlier later : C) (old new : SinkState) : Type 0 where
    pub calls : List Event
    pub listens : Listens line coming clock before after earlier later calls
    pub ends : EndsSo script calls how
    pub wrote : Writes old new (ChatOf script calls).sent

  -- The script went on with each call that was heard, and all that it sends at them was written. Then a read of the line had this answer, and the
  -- clock wasn't read again.
  pub record StopsAt (script : ChatScript) (answer : LineGot) (before after : I) (earlier later : C) (old new : SinkState) : Type 0 where
    pub calls : List Event
    pub until : I
    pub listens : Listens line coming clock before until earlier later calls
    pub goes_on : GoesOn script calls
    pub wrote : Writes old new (ChatOf script calls).sent
    pub stops : ReadsOne line coming until after answer

  -- What the script sends at the last call that was heard broke off; all that it sends before that was written.
  pub record BreaksOff (script : ChatScript) (before after : I) (earlier later : C) (old new : SinkState) : Type 0 where
    pub calls : List Event
    pub last : Event
    pub listens : Listens line coming clock before after earlier later (calls ++ last ∷ [])
    pub goes_on : GoesOn script (calls ++ last ∷ [])
    pub between : SinkState
    pub wrote : Writes old between (ChatOf script calls).sent
    pub octets : List ℕ
    pub sends : (ChatOf script (calls ++ last ∷ [])).sent ≡ (ChatOf script calls).sent ++ octets
    pub broke : Breaks between new octets

  -- How a conversation ended: which events it heard, and what of the script was written.
  abbrev pub Talks : ChatScript → TalkEnd → I → I → C → C → SinkState → SinkState → Type 0
  Talks script (Over how) before after earlier later old new = IsOver script how before after earlier later old new
  Talks script LineEnded before after earlier later old new = StopsAt script got.End before after earlier later old new
  Talks script LineFailed before after earlier later old new = StopsAt script got.Failed before after earlier later old new
  Talks script SendFailed before after earlier later old new = BreaksOff script before after earlier later old new
