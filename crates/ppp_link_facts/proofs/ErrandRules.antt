-- The log tells which errands there are, rule by rule and event by event.
use Rattle.std.proofs.Common.{◌≡◌, ℕ, Bool, true, false, refl, ap, sym, ◌∙◌}
use Rattle.std.specs.Prelude.{◌*◌, ◌==◌, nat_lt, not, is_none, if◌then◌else◌}
use Rattle.std.proofs.lemmas.Bool.{false≢true}
use Rattle.ppp_dial.specs.declared.now.DialNow.{DialNow}
use Rattle.ppp_dial.specs.declared.now.DialNow.TheVariants as now
use Rattle.ppp_dial.specs.declared.policy.DialPolicy.{DialPolicy}
use Rattle.ppp_dial.specs.declared.session_end.SessionEnd.{SessionEnd}
use Rattle.ppp_dial.specs.Answer.{after_session, attempt, next}
use Rattle.ppp_dial.specs.DialLaw.{has_failed_often}
use Rattle.ppp_dial.specs.LookingBack.{is_nothing as tells_nothing}
use Rattle.ppp_link_rules.specs.Facts.{is_dialling, is_with_line}
use Rattle.ppp_link_rules.specs.LinkState.{LinkState, is_absent}
use Rattle.ppp_link_rules.specs.Marks.{Doing, New, Dials, HasLine, IsOver, Holds, Waits, HasFinished, cause_in, doing_in, is_session}
use Rattle.ppp_link_rules.specs.Sessions.{attempted, dial_answered, is_over, over_marked}
use Rattle.ppp_link_facts.proofs.Sight.{Adds, Sight, sight}

abbrev pub is_just_over : Doing → Bool
is_just_over New = false
is_just_over Dials = false
is_just_over HasLine = false
is_just_over IsOver = true
is_just_over (Holds until) = false
is_just_over Waits = false
is_just_over (HasFinished status) = false

-- A dial is there only while the link dials, and comes back only behind a cause; the rest is there exactly while there is a line.
pub record Errands (x : Sight) : Type 0 where
  pub dial : is_absent x.dial ≡ false → is_dialling (doing_in x.past) ≡ true
  pub waits : is_dialling (doing_in x.past) ≡ true → is_absent x.dial ≡ true → is_none (cause_in x.past) ≡ false
  pub reading : is_with_line (doing_in x.past) ≡ not (is_absent x.reading)
  pub writing : is_with_line (doing_in x.past) ≡ not (is_absent x.writing)
  pub part : is_with_line (doing_in x.past) ≡ x.lines
  pub over : is_just_over (doing_in x.past) ≡ false

pub errands_kept : {k : ℕ} {x y : Sight} → Adds k x y → Errands x → Errands y
errands_kept a h = record {
  dial = λ there. ap is_dialling a.doing ∙ h.dial (ap is_absent (sym a.dial) ∙ there);
  waits = λ dials back. a.caused (h.waits (ap is_dialling (sym a.doing) ∙ dials) (ap is_absent (sym a.dial) ∙ back));
  reading = ap is_with_line a.doing ∙ h.reading ∙ ap (λ e. not (is_absent e)) (sym a.reading);
  writing = ap is_with_line a.doing ∙ h.writing ∙ ap (λ e. not (is_absent e)) (sym a.writing);
  part = ap is_with_line a.doing ∙ h.part ∙ sym a.lines;
  over = ap is_just_over a.doing ∙ h.over;
}

-- where no session lasts, none is there
pub record Free (x : Sight) : Type 0 where
  pub dial : is_absent x.dial ≡ true
  pub reading : is_absent x.reading ≡ true
  pub writing : is_absent x.writing ≡ true
  pub part : x.lines ≡ false

no_session : (d : Doing) → is_session d ≡ false → (is_dialling d ≡ false) × (is_with_line d ≡ false)
no_session New e = (refl, refl)
no_session Dials e = absurd (false≢true (sym e))
no_session HasLine e = absurd (false≢true (sym e))
no_session IsOver e = (refl, refl)
no_session (Holds until) e = (refl, refl)
no_session Waits e = (refl, refl)
no_session (HasFinished status) e = (refl, refl)

not_false : (b : Bool) → not b ≡ false → b ≡ true
not_false true e = refl
not_false false e = sym e

true_by : (b : Bool) → (b ≡ false → true ≡ false) → b ≡ true
true_by true h = refl
true_by false h = absurd (false≢true (sym (h refl)))

pub free_of : (x : Sight) → Errands x → is_session (doing_in x.past) ≡ false → Free x
free_of x h none =
    let p = no_session (doing_in x.past) none in
    record {
      dial = true_by (is_absent x.dial) (λ there. sym (h.dial there) ∙ p.0);
      reading = not_false (is_absent x.reading) (sym h.reading ∙ p.1);
      writing = not_false (is_absent x.writing) (sym h.writing ∙ p.1);
      part = sym h.part ∙ p.1;
    }

-- AN ANSWER OF THE DIAL

attempted_errands : (s : LinkState) → Errands (sight (attempted s))
unfolding attempted
attempted_errands s = record { dial = λ e. refl; waits = λ d e. absurd (false≢true e); reading = refl; writing = refl; part = refl; over = refl }

pub told_errands : (answer : DialNow) (s : LinkState) → tells_nothing answer ≡ false → Free (sight s) → Errands (sight (dial_answered answer s))
told_errands now.Nothing s e f = absurd (false≢true (sym e))
told_errands now.Begin s e f = attempted_errands s
told_errands (now.Hold ms) s e f = record {
  dial = λ there. absurd (false≢true (sym there ∙ f.dial));
  waits = λ d b. absurd (false≢true d);
  reading = sym (ap not f.reading);
  writing = sym (ap not f.writing);
  part = sym f.part;
  over = refl;
}
told_errands now.Wait s e f = record {
  dial = λ there. absurd (false≢true (sym there ∙ f.dial));
  waits = λ d b. absurd (false≢true d);
  reading = sym (ap not f.reading);
  writing = sym (ap not f.writing);
  part = sym f.part;
  over = refl;
}
told_errands (now.Finish status) s e f = record {
  dial = λ there. absurd (false≢true (sym there ∙ f.dial));
  waits = λ d b. absurd (false≢true d);
  reading = sym (ap not f.reading);
  writing = sym (ap not f.writing);
  part = sym f.part;
  over = refl;
}

answer_by : (b : Bool) (answer : DialNow) (s : LinkState) → tells_nothing answer ≡ b → Errands (sight s) → is_session (doing_in s.log.past) ≡ false → Errands (sight (dial_answered answer s))
answer_by false answer s e h none = told_errands answer s e (free_of (sight s) h none)
answer_by true now.Nothing s e h none = h
answer_by true now.Begin s e h none = absurd (false≢true e)
answer_by true (now.Hold ms) s e h none = absurd (false≢true e)
answer_by true now.Wait s e h none = absurd (false≢true e)
answer_by true (now.Finish status) s e h none = absurd (false≢true e)

-- where no session lasts, whatever the answer
pub answer_errands : (answer : DialNow) (s : LinkState) → Errands (sight s) → is_session (doing_in s.log.past) ≡ false → Errands (sight (dial_answered answer s))
answer_errands answer s h none = answer_by (tells_nothing answer) answer s refl h none

-- a choice of the dial: where it says something, no session lasts
pub either_errands : (s : LinkState) (b : Bool) (x y : DialNow) → (b ≡ true → Errands (sight (dial_answered x s))) → (b ≡ false → Errands (sight (dial_answered y s))) → Errands (sight (dial_answered (if b then x else y) s))
either_errands s true x y f g = f refl
either_errands s false x y f g = g refl

-- A SESSION'S END IS ANSWERED

either_tells : (b : Bool) (x y : DialNow) → tells_nothing x ≡ false → tells_nothing y ≡ false → tells_nothing (if b then x else y) ≡ false
either_tells true x y e f = e
either_tells false x y e f = f

next_tells : (policy : DialPolicy) (room : ℕ) → tells_nothing (next policy room) ≡ false
next_tells policy room =
    either_tells policy.demand now.Wait (attempt room) refl (either_tells (nat_lt room 1024) (now.Finish 34) now.Begin refl refl)

pub end_tells : (policy : DialPolicy) (stopped : Bool) (failures : ℕ) (end : SessionEnd) (room : ℕ) → tells_nothing (after_session policy stopped failures end room) ≡ false
end_tells policy stopped failures end room =
    let n : DialNow = next policy room in
    let last : DialNow = if policy.holdoff_s == 0 then n else now.Hold (policy.holdoff_s * 1000) in
    let third : DialNow = if end.cause == 12 then n else last in
    let second : DialNow = if has_failed_often policy.maxfail failures then now.Finish end.status else third in
    let first : DialNow = if not policy.persist then now.Finish end.status else second in
    either_tells stopped (now.Finish 5) first refl
    (either_tells (not policy.persist) (now.Finish end.status) second refl
    (either_tells (has_failed_often policy.maxfail failures) (now.Finish end.status) third refl
    (either_tells (end.cause == 12) n last (next_tells policy room) (either_tells (policy.holdoff_s == 0) n (now.Hold (policy.holdoff_s * 1000)) (next_tells policy room) refl))))

-- NO SESSION IS LEFT THAT SHOULD BE OVER

attempted_on : (s : LinkState) → is_over (attempted s) ≡ false
unfolding attempted
attempted_on s = refl

pub answered_on : (answer : DialNow) (s : LinkState) → is_over (dial_answered answer (over_marked s)) ≡ false
answered_on now.Nothing s = refl
answered_on now.Begin s = attempted_on (over_marked s)
answered_on (now.Hold ms) s = refl
answered_on now.Wait s = refl
answered_on (now.Finish status) s = refl
