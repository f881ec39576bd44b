-- Signals: what the machine stands for behind each piece.
use Rattle.std.proofs.Common.{◌≡◌, ℕ, Bool, true, false, Option, None, Some, List, ◌∷◌, refl, ap, sym, subst, ◌∙◌}
use Rattle.std.specs.Prelude.{◌||◌, ◌&&◌, is_none, is_some}
use Rattle.ppp_base.specs.declared.signal_word.SignalWord.{SignalWord}
use Rattle.ppp_base.specs.declared.signal_word.SignalWord.TheVariants.{Hup, Int, Term, Usr1, Usr2}
use Rattle.ppp_dial.specs.Answer.{answer_to}
use Rattle.ppp_dial.specs.DialState.{stage_of}
use Rattle.ppp_dial.specs.Happened.{Happened, asked}
use Rattle.ppp_dial.specs.LookingBack.{is_nothing, last_in, nothing_yet, so_far}
use Rattle.ppp_dial.specs.declared.call.CallKind.{CallKind}
use Rattle.ppp_dial.specs.declared.call.CallKind.TheVariants as call
use Rattle.ppp_dial.specs.declared.now.DialNow.{DialNow}
use Rattle.ppp_hooks.specs.HookPast.{open_in}
use Rattle.ppp_mark.specs.Log.{added, room_of}
use Rattle.ppp_mark.specs.Marks.{signal_mark, signal_number}
use Rattle.ppp_mark.specs.declared.mark.Mark.{Mark}
use Rattle.ppp_outside.specs.declared.line_words.LineWords.{LineWords}
use Rattle.ppp_link_parts.specs.Records.{DialStands, RecordsNow, answer_marked, log_answered, marked_with, says, stage_by, told}
use Rattle.ppp_link_rules.specs.CauseStatus.{signalled}
use Rattle.ppp_link_rules.specs.Dialling.{dial_says, dialled_by, dialled_in, stops_session}
use Rattle.ppp_link_rules.specs.Ending.{ended_by}
use Rattle.ppp_link_rules.specs.LinkState.{LinkState, control, is_busy, is_lasting}
use Rattle.ppp_link_rules.specs.Marks.{Dials, Doing, HasFinished, HasLine, Holds, IsOver, New, Waits, hold_by, is_session, status_by}
use Rattle.ppp_link_rules.specs.Sessions.{dial_answered}
use Rattle.ppp_link_rules.specs.Signals.{hung_up, hung_up_by, signal_marked, signal_taken, stopped, stopped_by}
use Rattle.ppp_link_rules.specs.declared.cause.Cause.{Cause}
use Rattle.ppp_link_core.proofs.StandFacts.{at_state, lives_after}
use Rattle.ppp_link_core.specs.Standing.{Does, Lives, Sits, StandsFor, histories_of, opened, state_of}
use Rattle.ppp_link_core.specs.declared.link_core.LinkCore.{LinkCore}
use Rattle.ppp_link_steps.proofs.CalmLemmas.{Same, calm_keeps, ended_keeps, keeps_same}
use Rattle.ppp_link_steps.proofs.DialFacts.{answered_calm, answered_is, free_from, last_is, marked_said, marked_stay, rests, still_sits}
use Rattle.ppp_link_steps.specs.Calm.{Calm, IsCalm}
use Rattle.ppp_link_steps.specs.Dialled.{dial_followed, held_up, session_hup, signal_told, stopped_now}

signal_is : (word : SignalWord) (s : LinkState) → Same s (signal_marked word s)
signal_is word s = record { doing = refl; cause = refl; session = refl; dial = refl; failed = refl; lcp = refl; wish = refl; listener = refl }

signal_calm : (word : SignalWord) (s : LinkState) → IsCalm s → IsCalm (signal_marked word s)
signal_calm word s c = calm_keeps (keeps_same (signal_is word s)) c

-- A HANG-UP IN A SESSION

pub hup_does : {S : Type 0} {c : LinkCore S} {r : RecordsNow S}
    → r ≡ marked_with (signal_mark c.time Hup) c.records → ((line : LineWords) → DialStands line c.records → DialStands line r)
    → Does (signal_marked Hup) c (record c { records = r })
hup_does {c = c} {r = r} e dials = record {
  stands = λ s k. record {
    is = at_state c s (λ y. state_of (record c { records = r }) (histories_of (signal_marked Hup y)) ≡ signal_marked Hup y) k (rw e refl);
    id = rw e k.id;
    moment = k.moment;
    asks = k.asks;
    listens = k.listens;
    negotiates = k.negotiates;
    proves = k.proves;
    dials = dials c.config.line k.dials;
    policy = rw e k.policy;
    fits = k.fits;
    passes = k.passes;
  };
}

pub hup_lives : {S : Type 0} {c : LinkCore S} {r : RecordsNow S}
    → r ≡ marked_with (signal_mark c.time Hup) c.records → ((line : LineWords) → DialStands line c.records → DialStands line r)
    → Lives c → Lives (record c { records = r })
hup_lives e dials l = lives_after (hup_does e dials) l

pub session_does : {S : Type 0} {a b c : LinkCore S} {x : Cause} → x ≡ signalled (signal_number Hup) → Does (signal_marked Hup) a b → Does (ended_by x) b c → Does session_hup a c
session_does {c = c} e x y = record { stands = λ s k. subst (λ z. StandsFor c (ended_by z (signal_marked Hup s))) e (y.stands (signal_marked Hup s) (x.stands s k)) }

pub session_calm : {S : Type 0} {a c : LinkCore S} → Does session_hup a c → Calm a → Calm c
session_calm {a = a} d calm = record {
  state = session_hup calm.state;
  stands = d.stands calm.state calm.stands;
  calm = calm_keeps (ended_keeps (signalled 1) (signal_marked Hup calm.state)) (signal_calm Hup calm.state calm.calm);
}

-- A SIGNAL THAT THE DIAL IS TOLD OF

pub told_does : {S : Type 0} {c : LinkCore S} {r : RecordsNow S} (word : SignalWord) (answer : DialNow)
    → r ≡ record (answer_marked answer c.time (marked_with (signal_mark c.time word) c.records)) { dial = r.dial } → r.dial.policy ≡ c.records.dial.policy
    → ((line : LineWords) → DialStands line c.records → DialStands line r)
    → Does (signal_told word answer) c (record c { records = r })
told_does {S = S} {c = c} {r = r} word answer e p dials = record {
  stands = λ s k.
      let f : r.scripts ≡ record c.records.scripts { log = log_answered answer c.time (added (signal_mark c.time word) c.records.scripts.log) } = ap (λ (x : RecordsNow S). x.scripts) e in
      record {
        is = at_state c s (λ y. state_of (record c { records = r }) (histories_of (signal_told word answer y)) ≡ signal_told word answer y) k (rw f refl);
        id = ap (λ (x : RecordsNow S). x.id) e ∙ k.id;
        moment = k.moment;
        asks = k.asks;
        listens = k.listens;
        negotiates = k.negotiates;
        proves = k.proves;
        dials = dials c.config.line k.dials;
        policy = p ∙ k.policy;
        fits = λ h. k.fits (ap is_some (sym (marked_stay answer s.time (added (signal_mark s.time word) s.log))) ∙ h);
        passes = λ h. k.passes (ap (λ x. is_some (open_in x)) (sym (marked_said answer s.time (added (signal_mark s.time word) s.log))) ∙ h);
      };
}

pub told_lives : {S : Type 0} {c : LinkCore S} {r : RecordsNow S} (word : SignalWord) (answer : DialNow)
    → r ≡ record (answer_marked answer c.time (marked_with (signal_mark c.time word) c.records)) { dial = r.dial } → r.dial.policy ≡ c.records.dial.policy
    → ((line : LineWords) → DialStands line c.records → DialStands line r)
    → Lives c → Lives (record c { records = r })
told_lives word answer e p dials l = lives_after (told_does word answer e p dials) l

pub says_is : {S : Type 0} {c : LinkCore S} {answer : DialNow} (kind : CallKind) (word : SignalWord)
    → ((line : LineWords) → DialStands line c.records → answer ≡ says line kind c.time (marked_with (signal_mark c.time word) c.records))
    → (s : LinkState) → StandsFor c s → answer ≡ dial_says kind (signal_marked word s)
says_is {c = c} {answer = answer} kind word h s k =
    h c.config.line k.dials
    ∙ ap (λ p. answer_to p (so_far nothing_yet (dialled_in c.config.line c.records.scripts.log.limit (signal_mark c.time word ∷ c.records.scripts.log.past))) (asked kind c.time (room_of (added (signal_mark c.time word) c.records.scripts.log)))) k.policy
    ∙ ap (λ (y : LinkState). dial_says kind (signal_marked word y)) k.is

-- A HANG-UP IN A HOLD

pub held_by : (d : Doing) → is_some (hold_by d) ≡ true → is_session d ≡ false
held_by New h = refl
held_by Dials h = absurd (let x : false ≡ true = h in cc)
held_by HasLine h = absurd (let x : false ≡ true = h in cc)
held_by IsOver h = refl
held_by (Holds until) h = refl
held_by Waits h = refl
held_by (HasFinished status) h = refl

lasting_is : {S : Type 0} {c : LinkCore S} (s : LinkState) → StandsFor c s → is_session (told c.records).doing ≡ is_lasting s
lasting_is {c = c} s k = ap (λ (y : LinkState). is_lasting y) k.is

pub held_phase : {S : Type 0} {b : LinkCore S} (a : LinkCore S) → Calm a → Sits (opened a.lcp) a → is_session (told a.records).doing ≡ false
    → b ≡ record a { records = b.records } → is_some b.auth ≡ false
held_phase {S = S} a calm sits free e =
    ap (λ (x : LinkCore S). is_some x.auth) e ∙ still_sits calm.state calm.stands (rests calm.state calm.calm (sym (lasting_is calm.state calm.stands) ∙ free)) sits

pub held_does : {S : Type 0} {a b c : LinkCore S} (answer : DialNow)
    → ((s : LinkState) → StandsFor a s → answer ≡ dial_says call.Hup (signal_marked Hup s)) → Does (signal_told Hup answer) a b → Does (dial_followed answer) b c → Does held_up a c
held_does {c = c} answer h x y = record {
  stands = λ s k.
      subst (λ z. StandsFor c (dial_answered z (signal_marked Hup s))) (h s k)
      (subst (λ z. StandsFor c z) (answered_is answer (signal_marked Hup s)) (y.stands (signal_told Hup answer s) (x.stands s k)));
}

pub held_calm : {S : Type 0} {a c : LinkCore S} → is_session (told a.records).doing ≡ false → Does held_up a c → Calm a → Calm c
held_calm {a = a} {c = c} free d calm =
    let s : LinkState = calm.state in
    record {
      state = held_up s;
      stands = d.stands s calm.stands;
      calm = answered_calm (dial_says call.Hup (signal_marked Hup s)) (signal_marked Hup s) (λ _. sym (lasting_is s calm.stands) ∙ free) (signal_calm Hup s calm.calm);
    }

-- HUP

pub hung_busy : {S : Type 0} {a b : LinkCore S} {busy : Bool} (holds : Bool) → busy ≡ true → Does session_hup a b → Does (hung_up_by busy holds) a b
hung_busy {b = b} holds e d = record { stands = λ s k. subst (λ x. StandsFor b (hung_up_by x holds s)) (sym e) (d.stands s k) }

pub hung_held : {S : Type 0} {a b : LinkCore S} {busy holds : Bool} → busy ≡ false → holds ≡ true → Does held_up a b → Does (hung_up_by busy holds) a b
hung_held {b = b} e f d = record { stands = λ s k. rw (e, f) (d.stands s k) }

pub hung_else : {S : Type 0} {a : LinkCore S} {busy holds : Bool} → busy ≡ false → holds ≡ false → Does (hung_up_by busy holds) a a
hung_else {a = a} e f = record { stands = λ s k. rw (e, f) k }

pub hung_does : {S : Type 0} {a b : LinkCore S} {busy holds : Bool} {until : Option ℕ}
    → busy ≡ (is_session (told a.records).doing && is_none (told a.records).cause) → until ≡ hold_by (told a.records).doing → holds ≡ is_some until
    → Does (hung_up_by busy holds) a b → Does hung_up a b
hung_does {a = a} {b = b} {busy = busy} e f g d = record {
  stands = λ s k.
      subst (λ x. StandsFor b (hung_up_by x (is_some (hold_by (control s).doing)) s)) (e ∙ ap (λ (y : LinkState). is_busy y) k.is)
      (subst (λ x. StandsFor b (hung_up_by busy x s)) (g ∙ ap is_some f ∙ ap (λ (y : LinkState). is_some (hold_by (control y).doing)) k.is) (d.stands s k));
}

pub busy_lasts : {busy : Bool} (lasts none : Bool) → busy ≡ (lasts && none) → busy ≡ true → lasts ≡ true
busy_lasts true none e f = refl
busy_lasts false none e f = absurd (let z : false ≡ true = sym e ∙ f in cc)

pub hold_there : {holds : Bool} {until : Option ℕ} (o : Option ℕ) → until ≡ o → holds ≡ is_some until → holds ≡ true → is_some o ≡ true
hold_there o f g h = ap is_some (sym f) ∙ sym g ∙ h

-- INT AND TERM

stop_last : (b : Bool) (line : LineWords) (room time : ℕ) (past : List Mark) (calls : List Happened) → last_in nothing_yet (dialled_by None b line room time past calls) ≡ last_in nothing_yet calls
stop_last true line room time past calls = refl
stop_last false line room time past calls = refl

signal_last : (line : LineWords) (limit time : ℕ) (word : SignalWord) (past : List Mark)
    → last_in nothing_yet (dialled_in line limit (signal_mark time word ∷ past)) ≡ last_in nothing_yet (dialled_in line limit past)
signal_last line limit time word past = stop_last (stops_session (signal_mark time word) past) line _ time past (dialled_in line limit past)

pub stop_free : {S : Type 0} {c : LinkCore S} {answer : DialNow} (word : SignalWord) → Lives c
    → c.records.dial.stage ≡ stage_by (told c.records).doing
    → ((line : LineWords) → DialStands line c.records → answer ≡ says line call.Stop c.time (marked_with (signal_mark c.time word) c.records))
    → is_nothing answer ≡ false → is_session (told c.records).doing ≡ false
stop_free {c = c} {answer = answer} word l step h f =
    free_from call.Stop c.records.dial.policy (so_far nothing_yet (dialled_in c.config.line c.records.scripts.log.limit (signal_mark c.time word ∷ c.records.scripts.log.past))) c.time
    (room_of (added (signal_mark c.time word) c.records.scripts.log)) (told c.records).doing answer refl
    (ap stage_of (signal_last c.config.line c.records.scripts.log.limit c.time word c.records.scripts.log.past) ∙ last_is c.config.line c.records l.stands.dials ∙ step)
    (h c.config.line l.stands.dials) f

pub stopped_does : {S : Type 0} {a b c d : LinkCore S} {x : Cause} (word : SignalWord) (answer : DialNow)
    → x ≡ signalled (signal_number word)
    → ((s : LinkState) → StandsFor a s → answer ≡ dial_says call.Stop (signal_marked word s))
    → Does (signal_told word answer) a b → Does (dial_followed answer) b c → Does (ended_by x) c d → Does (stopped_now word) a d
stopped_does {d = d} {x = x} word answer e h p q r = record {
  stands = λ s k.
      let heard : LinkState = signal_marked word s in
      let t : StandsFor d (ended_by x (dial_followed answer (signal_told word answer s))) = r.stands (dial_followed answer (signal_told word answer s)) (q.stands (signal_told word answer s) (p.stands s k)) in
      subst (λ z. StandsFor d (ended_by z (dial_answered (dial_says call.Stop heard) heard))) e
      (subst (λ z. StandsFor d (ended_by x (dial_answered z heard))) (h s k)
      (subst (λ z. StandsFor d (ended_by x z)) (answered_is answer heard) t));
}

pub stopped_calm : {S : Type 0} {a d : LinkCore S} (word : SignalWord) (answer : DialNow)
    → ((s : LinkState) → StandsFor a s → answer ≡ dial_says call.Stop (signal_marked word s))
    → (is_nothing answer ≡ false → is_session (told a.records).doing ≡ false)
    → Does (stopped_now word) a d → Calm a → Calm d
stopped_calm {a = a} {d = d} word answer h free x calm =
    let s : LinkState = calm.state in
    let heard : LinkState = signal_marked word s in
    let e : answer ≡ dial_says call.Stop heard = h s calm.stands in
    record {
      state = stopped_now word s;
      stands = x.stands s calm.stands;
      calm = calm_keeps (ended_keeps (signalled (signal_number word)) (dial_answered (dial_says call.Stop heard) heard))
          (answered_calm (dial_says call.Stop heard) heard (λ f. sym (lasting_is s calm.stands) ∙ free (ap is_nothing e ∙ f)) (signal_calm word s calm.calm));
    }

pub stopped_then : {S : Type 0} {a b : LinkCore S} {done : Bool} (word : SignalWord) → done ≡ false → Does (stopped_now word) a b → Does (stopped_by done word) a b
stopped_then {b = b} word e d = record { stands = λ s k. subst (λ x. StandsFor b (stopped_by x word s)) (sym e) (d.stands s k) }

pub stopped_else : {S : Type 0} {a : LinkCore S} {done : Bool} (word : SignalWord) → done ≡ true → Does (stopped_by done word) a a
stopped_else {a = a} word e = record { stands = λ s k. subst (λ x. StandsFor a (stopped_by x word s)) (sym e) k }

pub stop_does : {S : Type 0} {a b : LinkCore S} {was done : Bool} {status : Option ℕ} (word : SignalWord)
    → was ≡ (told a.records).stopped → status ≡ status_by (told a.records).doing → done ≡ (was || is_some status) → Does (stopped_by done word) a b → Does (stopped word) a b
stop_does {a = a} {b = b} {was = was} {status = status} word e f g d = record {
  stands = λ s k.
      subst (λ x. StandsFor b (stopped_by x word s))
      (g ∙ ap (λ x. x || is_some status) e ∙ ap (λ x. (told a.records).stopped || is_some x) f ∙ ap (λ (y : LinkState). (control y).stopped || is_some (status_by (control y).doing)) k.is)
      (d.stands s k);
}

none_by : (x : Bool) (o : Option ℕ) → (x || is_some o) ≡ false → o ≡ None
none_by false None h = refl
none_by false (Some n) h = absurd (let z : true ≡ false = h in cc)
none_by true o h = absurd (let z : true ≡ false = h in cc)

pub alive_by : {done : Bool} {status : Option ℕ} (was : Bool) (o : Option ℕ) → status ≡ o → done ≡ (was || is_some status) → done ≡ false → o ≡ None
alive_by {status = status} was o f g h = sym f ∙ none_by was status (sym g ∙ h)

-- EACH SIGNAL

pub taken_hup : {S : Type 0} {a b : LinkCore S} {word : SignalWord} → word ≡ Hup → Does hung_up a b → Does (signal_taken word) a b
unfolding signal_taken
taken_hup {b = b} e d = record { stands = λ s k. subst (λ x. StandsFor b (signal_taken x s)) (sym e) (d.stands s k) }

pub taken_int : {S : Type 0} {a b : LinkCore S} {word : SignalWord} → word ≡ Int → Does (stopped Int) a b → Does (signal_taken word) a b
unfolding signal_taken
taken_int {b = b} e d = record { stands = λ s k. subst (λ x. StandsFor b (signal_taken x s)) (sym e) (d.stands s k) }

pub taken_term : {S : Type 0} {a b : LinkCore S} {word : SignalWord} → word ≡ Term → Does (stopped Term) a b → Does (signal_taken word) a b
unfolding signal_taken
taken_term {b = b} e d = record { stands = λ s k. subst (λ x. StandsFor b (signal_taken x s)) (sym e) (d.stands s k) }

pub taken_usr1 : {S : Type 0} {a : LinkCore S} {word : SignalWord} → word ≡ Usr1 → Does (signal_taken word) a a
unfolding signal_taken
taken_usr1 {a = a} e = record { stands = λ s k. subst (λ x. StandsFor a (signal_taken x s)) (sym e) k }

pub taken_usr2 : {S : Type 0} {a : LinkCore S} {word : SignalWord} → word ≡ Usr2 → Does (signal_taken word) a a
unfolding signal_taken
taken_usr2 {a = a} e = record { stands = λ s k. subst (λ x. StandsFor a (signal_taken x s)) (sym e) k }
