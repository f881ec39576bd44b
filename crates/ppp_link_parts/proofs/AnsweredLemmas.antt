-- What a link keeps of its log stays what the marks tell where the mark of an answer of its dial is added.
use Rattle.std.proofs.Common.{refl, ap, sym, subst, ◌∙◌, ◌≡◌, ℕ, ◌≤◌, ◌<◌, Bool, true, false, if◌then◌else◌, List, ◌∷◌, arith}
use Rattle.ppp_base.specs.declared.hook_target.HookTarget.TheVariants.{Link}
use Rattle.ppp_dial.specs.declared.dial.Dial.{Dial}
use Rattle.ppp_dial.specs.declared.now.DialNow.{DialNow}
use Rattle.ppp_dial.specs.declared.now.DialNow.TheVariants.{Nothing, Begin, Hold, Wait, Finish}
use Rattle.ppp_dial.specs.LookingBack.{is_nothing}
use Rattle.ppp_mark.specs.declared.mark.Mark.{Mark}
use Rattle.ppp_mark.specs.Log.{LogState, added, room_of}
use Rattle.ppp_mark.specs.ScriptLog.{Grows, ScriptLogState}
use Rattle.ppp_link_rules.specs.Marks.{Doing, New, Dials, HasLine, IsOver, Holds, Waits, HasFinished, doing_in, is_session}
use Rattle.ppp_link_parts.specs.declared.control.Control.{Control}
use Rattle.ppp_link_parts.specs.Records.{AreFew, AreKept, IsInStep, KeepsTold, RecordsNow, answer_marked, is_at_rest, is_call, log_answered, marked_with}

-- at rest the newest mark is no call
abbrev pub Rests : List Mark → Type 0
Rests past = is_at_rest (doing_in past) ≡ true → is_call past ≡ false

pub rests_after : (answer : DialNow) (time : ℕ) (log : LogState) → (is_nothing answer ≡ true → Rests log.past) → Rests (log_answered answer time log).past
rests_after Nothing time log h = h refl
rests_after Begin time log h = λ _. refl
rests_after (Hold ms) time log h = λ _. refl
rests_after Wait time log h = λ _. refl
rests_after (Finish status) time log h = λ _. refl

-- in a session nothing rests
no_rest : (doing : Doing) (b : Bool) → is_session doing ≡ true → is_at_rest doing ≡ true → b ≡ false
no_rest New b e r = absurd (cc e)
no_rest Dials b e r = absurd (cc r)
no_rest HasLine b e r = absurd (cc r)
no_rest IsOver b e r = absurd (cc e)
no_rest (Holds until) b e r = absurd (cc e)
no_rest Waits b e r = absurd (cc e)
no_rest (HasFinished status) b e r = absurd (cc e)

pub rests_in_session : (past : List Mark) → is_session (doing_in past) ≡ true → Rests past
rests_in_session past e = no_rest (doing_in past) (is_call past) e

-- A stop that is answered Nothing is one in a session.
pub stopped_in_session : (lasts : Bool) (answer : DialNow) → answer ≡ (if lasts then Nothing else Finish 5) → is_nothing answer ≡ true → lasts ≡ true
stopped_in_session true answer e n = refl
stopped_in_session false answer e n = absurd (cc (ap is_nothing e, n))

pub grows_answered : (answer : DialNow) (time : ℕ) (log : LogState) → Grows 1 log (log_answered answer time log)
grows_answered Nothing time log = record { few = omega arith; longer = omega arith; same_limit = refl }
grows_answered Begin time log = record { few = omega arith; longer = omega arith; same_limit = refl }
grows_answered (Hold ms) time log = record { few = omega arith; longer = omega arith; same_limit = refl }
grows_answered Wait time log = record { few = omega arith; longer = omega arith; same_limit = refl }
grows_answered (Finish status) time log = record { few = omega arith; longer = omega arith; same_limit = refl }

pub grows_marked : (mark : Mark) (answer : DialNow) (time : ℕ) (log : LogState) → Grows 2 log (log_answered answer time (added mark log))
grows_marked mark answer time log =
    let g : Grows 1 (added mark log) (log_answered answer time (added mark log)) = grows_answered answer time (added mark log) in
    record { few = omega (arith, g.few); longer = omega (arith, g.longer); same_limit = g.same_limit }

-- room for a mark behind one more
pub room_more : (mark : Mark) (log : LogState) → 2 ≤ room_of log → 0 < room_of (added mark log)
room_more mark log le = omega (arith, le)

-- Behind an answer alone.
pub kept_answered : {S : Type 0} (id : ℕ) (old new : ScriptLogState S) (dial : Dial) (c : Control) (answer : DialNow) (time : ℕ) → old.machine.target ≡ Link id
    → new ≡ record old { log = log_answered answer time old.log } → KeepsTold c new.log.past → AreFew c new.log.past → (is_nothing answer ≡ true → Rests old.log.past)
    → IsInStep dial (doing_in (log_answered answer time old.log).past) → AreKept id new dial c
kept_answered id old new dial c answer time t is told few rests step = record {
  target = ap (λ (s : ScriptLogState _). s.machine.target) is ∙ t;
  told = told;
  few = few;
  rests = subst (λ (s : ScriptLogState _). Rests s.log.past) (sym is) (rests_after answer time old.log rests);
  step = subst (λ (s : ScriptLogState _). IsInStep dial (doing_in s.log.past)) (sym is) step;
}

-- Behind a mark and an answer.
pub kept_marked : {S : Type 0} (id : ℕ) (old put new : ScriptLogState S) (dial : Dial) (c : Control) (mark : Mark) (answer : DialNow) (time : ℕ) → old.machine.target ≡ Link id
    → put ≡ record old { log = added mark old.log } → new ≡ record put { log = log_answered answer time put.log } → KeepsTold c new.log.past → AreFew c new.log.past
    → (is_nothing answer ≡ true → Rests (mark ∷ old.log.past)) → IsInStep dial (doing_in (log_answered answer time (added mark old.log)).past) → AreKept id new dial c
kept_marked id old put new dial c mark answer time t p is told few rests step =
    kept_answered id (record old { log = added mark old.log }) new dial c answer time t (is ∙ ap (λ (s : ScriptLogState _). record s { log = log_answered answer time s.log }) p) told few rests step

abbrev pub made : {S : Type 0} → ℕ → ScriptLogState S → Dial → RecordsNow S
made id scripts dial = record { id = id; scripts = scripts; dial = dial }

-- what the records are then
pub is_answered : {S : Type 0} (id : ℕ) (old new : ScriptLogState S) (before after : Dial) (answer : DialNow) (time : ℕ) → new ≡ record old { log = log_answered answer time old.log }
    → made id new after ≡ record (answer_marked answer time (made id old before)) { dial = after }
is_answered id old new before after answer time is = ap (λ (s : ScriptLogState _). made id s after) is

pub is_marked : {S : Type 0} (id : ℕ) (old put new : ScriptLogState S) (before after : Dial) (mark : Mark) (answer : DialNow) (time : ℕ) → put ≡ record old { log = added mark old.log }
    → new ≡ record put { log = log_answered answer time put.log } → made id new after ≡ record (answer_marked answer time (marked_with mark (made id old before))) { dial = after }
is_marked id old put new before after mark answer time p is =
    ap (λ (s : ScriptLogState _). made id s after) (is ∙ ap (λ (s : ScriptLogState _). record s { log = log_answered answer time s.log }) p)
