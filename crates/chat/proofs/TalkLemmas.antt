-- How a conversation goes on, call by call.
use Rattle.std.proofs.Common.{◌≡◌, ℕ, ◌⊎◌, zero, suc, min, List, [], ◌∷◌, ◌++◌, take, Option, None, Some, Result, Err, inl, inr, refl, sym, ap, ◌∙◌, subst, append-nil}
use Rattle.std.specs.Io.KnownBytes.{Appends}
use Rattle.ppp_chat.specs.ChatOf.{ChatOf}
use Rattle.ppp_chat.specs.ChatState.{Answers, ChatState, IsBegun, StandsFor, answer}
use Rattle.ppp_chat.specs.Event.{tick_at}
use Rattle.ppp_chat.specs.declared.event.Event.{Event}
use Rattle.ppp_chat.specs.Script.{ChatScript}
use Rattle.ppp_chat.specs.declared.now.ChatEnd.{ChatEnd}
use Rattle.ppp_chat.specs.declared.now.ChatEnd.TheVariants as how
use Rattle.ppp_chat.specs.declared.now.ChatNow.{ChatNow}
use Rattle.ppp_chat.specs.declared.now.ChatNow.TheVariants.{Going, Sent, Done, TimedOut, Aborted}
use Rattle.ppp_chat.proofs.SendEnds.{send-ends-nothing}
use Rattle.ppp_outside.specs.Clock.{ClockState, Reads}
use Rattle.ppp_outside.specs.Line.{LineState}
use Rattle.ppp_outside.specs.Sink.{SinkState}
use Rattle.ppp_outside.specs.Writing.{Writes}
use Rattle.ppp_outside.specs.declared.line_in.LineAnswer.{LineAnswer}
use Rattle.ppp_outside.specs.declared.line_in.LineGot.TheVariants as got
use Rattle.ppp_outside.proofs.PutLemmas.{writes_then}
use Rattle.chat.specs.Heard.{Hears, HearsAll, Listens, moment}
use Rattle.chat.specs.Talking.{Continues, HearsNext, Says, Talking}
use Rattle.chat.specs.Talks.{EndsSo, GoesOn, Talks}
use Rattle.chat.specs.declared.ending.TalkEnd.{TalkEnd}
use Rattle.chat.specs.declared.ending.TalkEnd.TheVariants.{Over, LineEnded, LineFailed, SendFailed}

-- nothing was written
kept : (written : Option (List ℕ)) → Appends written written []
kept None = tt
kept (Some octets) = sym (append-nil octets)

pub nothing_written : (s : SinkState) → Writes s s []
nothing_written s = record { whole = kept s.written; sound = refl }

take-none : (count : ℕ) → take {A = Event} count [] ≡ []
take-none zero = refl
take-none (suc count) = refl

-- a front of a list with one more is a front of the list, or all of it
take-cases : (calls : List Event) (last : Event) (count : ℕ) → (take count (calls ++ last ∷ []) ≡ take count calls) ⊎ (take count (calls ++ last ∷ []) ≡ calls ++ last ∷ [])
take-cases [] last zero = inl refl
take-cases [] last (suc count) = inr (ap (λ (l : List Event). last ∷ l) (take-none count))
take-cases (call ∷ calls) last zero = inl refl
take-cases (call ∷ calls) last (suc count) =
    elim (take-cases calls last count) [
      | inl is ↦ inl (ap (λ (l : List Event). call ∷ l) is)
      | inr is ↦ inr (ap (λ (l : List Event). call ∷ l) is)
    ]

nothing_yet : (script : ChatScript) → GoesOn script []
nothing_yet script count = ap (λ (l : List Event). (ChatOf script l).outcome) (take-none count)

goes_on_more : (script : ChatScript) (calls : List Event) (last : Event) → GoesOn script calls → (ChatOf script (calls ++ last ∷ [])).outcome ≡ None
    → GoesOn script (calls ++ last ∷ [])
goes_on_more script calls last goes none count =
    elim (take-cases calls last count) [
      | inl is ↦ ap (λ (l : List Event). (ChatOf script l).outcome) is ∙ goes count
      | inr is ↦ ap (λ (l : List Event). (ChatOf script l).outcome) is ∙ none
    ]

-- ---- what an answer tells of the outcome

silent_outcome : (outcome : Option ChatEnd) → Going ≡ answer [] outcome → outcome ≡ None
silent_outcome None e = refl
silent_outcome (Some how.Done) e = absurd (cc (e))
silent_outcome (Some how.TimedOut) e = absurd (cc (e))
silent_outcome (Some (how.Aborted number)) e = absurd (cc (e))

done_outcome : (outcome : Option ChatEnd) → Done ≡ answer [] outcome → outcome ≡ Some how.Done
done_outcome None e = absurd (cc (e))
done_outcome (Some how.Done) e = refl
done_outcome (Some how.TimedOut) e = absurd (cc (e))
done_outcome (Some (how.Aborted number)) e = absurd (cc (e))

late_outcome : (outcome : Option ChatEnd) → TimedOut ≡ answer [] outcome → outcome ≡ Some how.TimedOut
late_outcome None e = absurd (cc (e))
late_outcome (Some how.Done) e = absurd (cc (e))
late_outcome (Some how.TimedOut) e = refl
late_outcome (Some (how.Aborted number)) e = absurd (cc (e))

same_number : (m n : ℕ) → Aborted m ≡ Aborted n → m ≡ n
same_number m n e = cc (e)

aborted_outcome : (number : ℕ) (outcome : Option ChatEnd) → Aborted number ≡ answer [] outcome → outcome ≡ Some (how.Aborted number)
aborted_outcome number None e = absurd (cc (e))
aborted_outcome number (Some how.Done) e = absurd (cc (e))
aborted_outcome number (Some how.TimedOut) e = absurd (cc (e))
aborted_outcome number (Some (how.Aborted other)) e = ap (λ (n : ℕ). Some (how.Aborted n)) (sym (same_number number other e))

module _ {I C : Type 0} (line : I → LineState) (coming : I → Option LineAnswer) (clock : C → ClockState) where
  heard_more : (events : List Event) (event : Event) (before after more : I) (earlier later latest : C) → HearsAll line coming clock events before after earlier later
      → Hears line coming clock after more later latest event → HearsAll line coming clock (events ++ event ∷ []) before more earlier latest
  heard_more [] event before after more earlier later latest heard hears =
      let from_line = subst (λ (x : I). Hears line coming clock x more later latest event) heard.0 hears in
      let from_both = subst (λ (x : C). Hears line coming clock before more x latest event) heard.1 from_line in
      (more, latest, from_both, (refl, refl))
  heard_more (first ∷ events) event before after more earlier later latest heard hears =
      (heard.0, heard.1, heard.2, heard_more events event heard.0 after more heard.1 later latest heard.3 hears)

  listens_more : (before after more : I) (earlier later latest : C) (calls : List Event) (event : Event) → Listens line coming clock before after earlier later calls
      → Hears line coming clock after more later latest event → Listens line coming clock before more earlier latest (calls ++ event ∷ [])
  listens_more before after more earlier later latest calls event l hears = record {
    reading = l.reading;
    begun = l.begun;
    begins = l.begins;
    events = l.events ++ event ∷ [];
    heard = heard_more l.events event before after more l.begun later latest l.heard hears;
    calls_are = ap (λ (xs : List Event). xs ++ event ∷ []) l.calls_are;
  }

  -- the script went on with all these calls, and what it sends at them was written
  pub record Spoken (script : ChatScript) (chat : ChatState) (before after : I) (earlier later : C) (old new : SinkState) : Type 0 where
    pub calls : List Event
    pub listens : Listens line coming clock before after earlier later calls
    pub goes_on : GoesOn script calls
    pub wrote : Writes old new (ChatOf script calls).sent
    pub script_is : chat.script ≡ script
    pub begun : IsBegun chat
    pub stands : StandsFor chat calls

  -- the first call
  pub begins : (script : ChatScript) (chat : ChatState) (answered : ChatNow) (input : I) (earlier later : C) (reading : ℕ) (sink : SinkState)
      → Reads (clock earlier) (clock later) reading → chat.script ≡ script → IsBegun chat → StandsFor chat (tick_at (moment reading) ∷ [])
      → Answers chat.script [] (tick_at (moment reading)) answered
      → Talking line coming clock script chat answered input input earlier later sink sink
  begins script chat answered input earlier later reading sink reads is begun stands a = record {
    calls = [];
    last = tick_at (moment reading);
    listens = record { reading = reading; begun = later; begins = reads; events = []; heard = (refl, refl); calls_are = refl };
    goes_on = nothing_yet script;
    wrote = nothing_written sink;
    script_is = is;
    begun = begun;
    stands = stands;
    answers = subst (λ (s : ChatScript). Answers s [] (tick_at (moment reading)) answered) is a;
  }

  went_on : (script : ChatScript) (chat : ChatState) (answered : ChatNow) (before after : I) (earlier later : C) (old mid new : SinkState) (octets : List ℕ)
      (t : Talking line coming clock script chat answered before after earlier later old mid)
      → (ChatOf script (t.calls ++ t.last ∷ [])).outcome ≡ None → (ChatOf script (t.calls ++ t.last ∷ [])).sent ≡ (ChatOf script t.calls).sent ++ octets
      → Writes mid new octets → Spoken script chat before after earlier later old new
  went_on script chat answered before after earlier later old mid new octets t none sent wrote = record {
    calls = t.calls ++ t.last ∷ [];
    listens = t.listens;
    goes_on = goes_on_more script t.calls t.last t.goes_on none;
    wrote = rw sent (writes_then old mid new (ChatOf script t.calls).sent octets t.wrote wrote);
    script_is = t.script_is;
    begun = t.begun;
    stands = t.stands;
  }

  -- what was asked for was done, and the conversation goes on
  pub spoken : (script : ChatScript) (chat : ChatState) (answered : ChatNow) (before after : I) (earlier later : C) (old mid new : SinkState)
      → Talking line coming clock script chat answered before after earlier later old mid → Says answered mid new None
      → Spoken script chat before after earlier later old new
  spoken script chat Going before after earlier later old mid new t says =
      went_on script chat Going before after earlier later old mid new [] t (silent_outcome (ChatOf script (t.calls ++ t.last ∷ [])).outcome t.answers.is) t.answers.sent
      (rw says.1 (nothing_written mid))
  spoken script chat (Sent octets) before after earlier later old mid new t says =
      went_on script chat (Sent octets) before after earlier later old mid new octets t (send-ends-nothing script t.calls t.last octets t.answers) t.answers.sent says
  spoken script chat Done before after earlier later old mid new t says = absurd (cc (says.0))
  spoken script chat TimedOut before after earlier later old mid new t says = absurd (cc (says.0))
  spoken script chat (Aborted number) before after earlier later old mid new t says = absurd (cc (says.0))

  is_over : (script : ChatScript) (chat : ChatState) (answered : ChatNow) (before after : I) (earlier later : C) (old mid new : SinkState) (end : ChatEnd)
      (t : Talking line coming clock script chat answered before after earlier later old mid)
      → (ChatOf script (t.calls ++ t.last ∷ [])).outcome ≡ Some end → (ChatOf script (t.calls ++ t.last ∷ [])).sent ≡ (ChatOf script t.calls).sent ++ []
      → new ≡ mid → Talks line coming clock script (Over end) before after earlier later old new
  is_over script chat answered before after earlier later old mid new end t ends sent same = record {
    calls = t.calls ++ t.last ∷ [];
    listens = t.listens;
    ends = record { earlier = t.calls; last = t.last; calls_are = refl; goes_on = t.goes_on; ends = ends };
    wrote = rw (sent, append-nil, same) t.wrote;
  }

  -- the conversation is over
  pub over : (script : ChatScript) (chat : ChatState) (answered : ChatNow) (before after : I) (earlier later : C) (old mid new : SinkState) (end : TalkEnd)
      → Talking line coming clock script chat answered before after earlier later old mid → Says answered mid new (Some end)
      → Talks line coming clock script end before after earlier later old new
  over script chat Going before after earlier later old mid new end t says = absurd (cc (says.0))
  over script chat (Sent octets) before after earlier later old mid new end t says =
      rw says.0 (record {
        calls = t.calls;
        last = t.last;
        listens = t.listens;
        goes_on = goes_on_more script t.calls t.last t.goes_on (send-ends-nothing script t.calls t.last octets t.answers);
        between = mid;
        wrote = t.wrote;
        octets = octets;
        sends = t.answers.sent;
        broke = says.1;
      })
  over script chat Done before after earlier later old mid new end t says =
      let is : end ≡ Over how.Done = cc (says.0) in
      rw is (is_over script chat Done before after earlier later old mid new how.Done t (done_outcome (ChatOf script (t.calls ++ t.last ∷ [])).outcome t.answers.is) t.answers.sent says.1)
  over script chat TimedOut before after earlier later old mid new end t says =
      let is : end ≡ Over how.TimedOut = cc (says.0) in
      rw is (is_over script chat TimedOut before after earlier later old mid new how.TimedOut t (late_outcome (ChatOf script (t.calls ++ t.last ∷ [])).outcome t.answers.is) t.answers.sent says.1)
  over script chat (Aborted number) before after earlier later old mid new end t says =
      let is : end ≡ Over (how.Aborted number) = cc (says.0) in
      rw is (is_over script chat (Aborted number) before after earlier later old mid new (how.Aborted number) t
      (aborted_outcome number (ChatOf script (t.calls ++ t.last ∷ [])).outcome t.answers.is) t.answers.sent says.1)

  -- one more event was heard and answered
  pub heard_next : (script : ChatScript) (chat next : ChatState) (answered : ChatNow) (before after more : I) (earlier later latest : C) (old new : SinkState)
      → Spoken script chat before after earlier later old new → Continues line coming clock chat next after more later latest answered
      → Talking line coming clock script next answered before more earlier latest old new
  heard_next script chat next answered before after more earlier later latest old new s c = record {
    calls = s.calls;
    last = c.event;
    listens = listens_more before after more earlier later latest s.calls c.event s.listens c.hears;
    goes_on = s.goes_on;
    wrote = s.wrote;
    script_is = c.takes.script ∙ s.script_is;
    begun = c.takes.begun;
    stands = c.takes.stands s.calls s.stands;
    answers = subst (λ (x : ChatScript). Answers x s.calls c.event answered) (c.takes.script ∙ s.script_is) (c.takes.answers s.calls s.stands);
  }

  -- the line has ended
  pub stopped : (script : ChatScript) (chat next : ChatState) (before after more : I) (earlier later latest : C) (old new : SinkState) (end : TalkEnd)
      → Spoken script chat before after earlier later old new → HearsNext line coming clock chat next after more later latest (Err end)
      → Talks line coming clock script end before more earlier latest old new
  stopped script chat next before after more earlier later latest old new (Over how) s h = absurd h.0
  stopped script chat next before after more earlier later latest old new SendFailed s h = absurd h.0
  stopped script chat next before after more earlier later latest old new LineEnded s h = record {
    calls = s.calls;
    until = after;
    listens = rw h.1 s.listens;
    goes_on = s.goes_on;
    wrote = s.wrote;
    stops = h.0;
  }
  stopped script chat next before after more earlier later latest old new LineFailed s h = record {
    calls = s.calls;
    until = after;
    listens = rw h.1 s.listens;
    goes_on = s.goes_on;
    wrote = s.wrote;
    stops = h.0;
  }
