-- A session's end: what the machine stands for behind each piece.
use Rattle.std.proofs.Common.{◌≡◌, ℕ, Bool, true, false, Option, None, Some, ◌∷◌, refl, ap, sym, subst, ◌∙◌}
use Rattle.std.specs.Prelude.{◌&&◌, ◌||◌, is_none, is_some, not}
use Rattle.ppp_chat.specs.Script.{ChatScript}
use Rattle.ppp_dial.specs.Answer.{answer_to}
use Rattle.ppp_dial.specs.Happened.{asked}
use Rattle.ppp_dial.specs.LookingBack.{nothing_yet, so_far}
use Rattle.ppp_dial.specs.declared.call.CallKind.TheVariants.{SessionOver}
use Rattle.ppp_dial.specs.declared.now.DialNow.{DialNow}
use Rattle.ppp_hooks.specs.HookPast.{open_in}
use Rattle.ppp_mark.specs.Log.{added, room_of}
use Rattle.ppp_mark.specs.Marks.{over_mark}
use Rattle.ppp_link_parts.specs.Records.{DialStands, RecordsNow, answer_marked, log_answered, marked_with, says, told}
use Rattle.ppp_link_parts.specs.Talk.{Listens, TalkNow}
use Rattle.ppp_link_rules.specs.Dialling.{dial_says, dialled_in, end_by}
use Rattle.ppp_link_rules.specs.Hearing.{looked_after}
use Rattle.ppp_link_rules.specs.LinkState.{LinkState, Listener, Nobody, control, is_absent, is_lasting, is_leaving, is_out, lcp_state, wants_line}
use Rattle.ppp_link_rules.specs.Marks.{is_session}
use Rattle.ppp_link_rules.specs.Sessions.{at_end, dial_answered, is_over, over_if, over_marked, session_over}
use Rattle.ppp_link_rules.specs.declared.cause.Cause.{Cause}
use Rattle.ppp_link_rules.specs.declared.errand.Errand.TheVariants.{Absent}
use Rattle.ppp_link_core.proofs.AuthFacts.{none_of}
use Rattle.ppp_link_core.proofs.StandFacts.{at_state, lives_after}
use Rattle.ppp_link_core.specs.Standing.{Does, Lives, Sits, StandsFor, histories_of, opened, state_of}
use Rattle.ppp_link_core.specs.declared.link_core.LinkCore.{LinkCore}
use Rattle.ppp_link_steps.proofs.CalmLemmas.{calm_keeps, looked_keeps}
use Rattle.ppp_link_steps.proofs.DialFacts.{answered_calm, answered_is, calm_does, marked_said, marked_stay, still_sits}
use Rattle.ppp_link_steps.specs.Calm.{Calm, IsCalm, IsStill}
use Rattle.ppp_link_steps.specs.Dialled.{dial_followed, ended_now, over_told}

-- READERS

pub wants_is : {S : Type 0} {c : LinkCore S} {lasting wanted : Bool} {cause : Option Cause} {state : ℕ}
    → lasting ≡ is_session (told c.records).doing → cause ≡ (told c.records).cause → ((s : LinkState) → StandsFor c s → lcp_state s ≡ state)
    → wanted ≡ (lasting && (not (is_absent c.reading) && (not c.line_ended && (is_none cause || is_leaving state))))
    → (s : LinkState) → StandsFor c s → wants_line s ≡ wanted
wants_is {c = c} {lasting = lasting} {wanted = wanted} {cause = cause} {state = state} e f g h s k =
    ap (λ n. is_lasting s && (not (is_absent s.reading) && (not s.line_ended && (is_none (control s).cause || is_leaving n)))) (g s k)
    ∙ ap (λ (y : LinkState). is_lasting y && (not (is_absent y.reading) && (not y.line_ended && (is_none (control y).cause || is_leaving state)))) (sym k.is)
    ∙ ap (λ x. x && (not (is_absent c.reading) && (not c.line_ended && (is_none (told c.records).cause || is_leaving state)))) (sym e)
    ∙ ap (λ x. lasting && (not (is_absent c.reading) && (not c.line_ended && (is_none x || is_leaving state)))) (sym f)
    ∙ sym h

pub over_is : {S : Type 0} {c : LinkCore S} {lasting wanted over : Bool} {cause : Option Cause}
    → lasting ≡ is_session (told c.records).doing → cause ≡ (told c.records).cause → ((s : LinkState) → StandsFor c s → wants_line s ≡ wanted)
    → over ≡ (lasting && (is_some cause && (not wanted && (is_absent c.dial && (not (is_out c.reading) && not (is_out c.writing))))))
    → (s : LinkState) → StandsFor c s → is_over s ≡ over
over_is {c = c} {lasting = lasting} {wanted = wanted} {over = over} {cause = cause} e f g h s k =
    ap (λ w. is_lasting s && (is_some (control s).cause && (not w && (is_absent s.dial && (not (is_out s.reading) && not (is_out s.writing)))))) (g s k)
    ∙ ap (λ (y : LinkState). is_lasting y && (is_some (control y).cause && (not wanted && (is_absent y.dial && (not (is_out y.reading) && not (is_out y.writing)))))) (sym k.is)
    ∙ ap (λ x. x && (is_some (told c.records).cause && (not wanted && (is_absent c.dial && (not (is_out c.reading) && not (is_out c.writing)))))) (sym e)
    ∙ ap (λ x. lasting && (is_some x && (not wanted && (is_absent c.dial && (not (is_out c.reading) && not (is_out c.writing)))))) (sym f)
    ∙ sym h

-- THE END, WITH ITS MARK AND THE DIAL'S

pub told_does : {S : Type 0} {c : LinkCore S} {r : RecordsNow S} {t : TalkNow} (answer : DialNow)
    → is_some c.auth ≡ false
    → r ≡ record (answer_marked answer c.time (marked_with (over_mark c.time (told c.records).was_live (told c.records).session) c.records)) { dial = r.dial }
    → r.dial.policy ≡ c.records.dial.policy
    → (DialStands c.config.line c.records → DialStands c.config.line r)
    → ((script : Option ChatScript) (listener : Listener) → Listens script c.talk listener → Listens script t Nobody)
    → Does (over_told answer) c (record c { records = r; reading = Absent; writing = Absent; talk = t; lcp = None; auth = None })
told_does {S = S} {c = c} {r = r} {t = t} answer none e p dials l = record {
  stands = λ s k.
      let f : r.scripts ≡ record c.records.scripts { log = log_answered answer c.time (added (over_mark c.time (told c.records).was_live (told c.records).session) c.records.scripts.log) } = ap (λ (x : RecordsNow S). x.scripts) e in
      record {
        is = at_state c s (λ y. state_of (record c { records = r; reading = Absent; writing = Absent; talk = t; lcp = None; auth = None }) (histories_of (over_told answer y)) ≡ over_told answer y) k (rw f refl);
        id = ap (λ (x : RecordsNow S). x.id) e ∙ k.id;
        moment = k.moment;
        asks = k.asks;
        listens = l c.config.script s.listener k.listens;
        negotiates = tt;
        proves = tt;
        dials = dials k.dials;
        policy = p ∙ k.policy;
        fits = λ h. k.fits (ap is_some (sym (marked_stay answer s.time (over_marked s).log)) ∙ h);
        passes = λ h. absurd (let z : false ≡ true = sym (none_of c.auth s.auth none k.proves) ∙ k.passes (ap (λ x. is_some (open_in x)) (sym (marked_said answer s.time (over_marked s).log)) ∙ h) in cc);
      };
}

pub told_lives : {S : Type 0} {c : LinkCore S} {r : RecordsNow S} {t : TalkNow} (answer : DialNow)
    → is_some c.auth ≡ false
    → r ≡ record (answer_marked answer c.time (marked_with (over_mark c.time (told c.records).was_live (told c.records).session) c.records)) { dial = r.dial }
    → r.dial.policy ≡ c.records.dial.policy
    → (DialStands c.config.line c.records → DialStands c.config.line r)
    → ((script : Option ChatScript) (listener : Listener) → Listens script c.talk listener → Listens script t Nobody)
    → Lives c
    → Lives (record c { records = r; reading = Absent; writing = Absent; talk = t; lcp = None; auth = None })
told_lives answer none e p dials l lives = lives_after (told_does answer none e p dials l) lives

pub says_is : {S : Type 0} {c : LinkCore S} {answer : DialNow}
    → (DialStands c.config.line c.records → answer ≡ says c.config.line (SessionOver (end_by c.config.line (told c.records).was_live (told c.records).cause)) c.time (marked_with (over_mark c.time (told c.records).was_live (told c.records).session) c.records))
    → (s : LinkState) → StandsFor c s → answer ≡ dial_says (SessionOver (end_by s.config.line (control s).was_live (control s).cause)) (over_marked s)
says_is {c = c} {answer = answer} h s k =
    h k.dials
    ∙ ap (λ p. answer_to p (so_far nothing_yet (dialled_in c.config.line c.records.scripts.log.limit (over_mark c.time (told c.records).was_live (told c.records).session ∷ c.records.scripts.log.past)))
    (asked (SessionOver (end_by c.config.line (told c.records).was_live (told c.records).cause)) c.time (room_of (added (over_mark c.time (told c.records).was_live (told c.records).session) c.records.scripts.log)))) k.policy
    ∙ ap (λ (y : LinkState). dial_says (SessionOver (end_by y.config.line (control y).was_live (control y).cause)) (over_marked y)) k.is

pub ended_does : {S : Type 0} {a b c : LinkCore S} (answer : DialNow)
    → ((s : LinkState) → StandsFor a s → answer ≡ dial_says (SessionOver (end_by s.config.line (control s).was_live (control s).cause)) (over_marked s))
    → Does (over_told answer) a b → Does (dial_followed answer) b c → Does ended_now a c
ended_does {c = c} answer h x y = record {
  stands = λ s k.
      subst (λ z. StandsFor c (dial_answered z (over_marked s))) (h s k)
      (subst (λ z. StandsFor c z) (answered_is answer (over_marked s)) (y.stands (over_told answer s) (x.stands s k)));
}

over_calm : (s : LinkState) → IsCalm s → IsCalm (over_marked s)
over_calm s c = record { still = λ _. record { shut = refl; hushed = refl }; few = c.few }

pub ended_calm : {S : Type 0} {a c : LinkCore S} → Does ended_now a c → Calm a → Calm c
ended_calm {c = c} d calm =
    let s : LinkState = calm.state in
    record {
      state = ended_now s;
      stands = d.stands s calm.stands;
      calm = answered_calm (dial_says (SessionOver (end_by s.config.line (control s).was_live (control s).cause)) (over_marked s)) (over_marked s) (λ _. refl) (over_calm s calm.calm);
    }

pub over_then : {S : Type 0} {a b : LinkCore S} {over : Bool} → over ≡ true → Does ended_now a b → Does (over_if over) a b
over_then {b = b} e d = record { stands = λ s k. subst (λ x. StandsFor b (over_if x s)) (sym e) (d.stands s k) }

pub over_else : {S : Type 0} {a : LinkCore S} {over : Bool} → over ≡ false → Does (over_if over) a a
over_else {a = a} e = record { stands = λ s k. subst (λ x. StandsFor a (over_if x s)) (sym e) k }

pub session_does : {S : Type 0} {a b : LinkCore S} {over : Bool} → ((s : LinkState) → StandsFor a s → is_over s ≡ over) → Does (over_if over) a b → Does session_over a b
unfolding session_over
session_does {b = b} h d = record { stands = λ s k. subst (λ x. StandsFor b (over_if x s)) (sym (h s k)) (d.stands s k) }

-- A SESSION THAT IS OVER

first_of : (x y : Bool) → (x && y) ≡ true → x ≡ true
first_of true y h = refl
first_of false y h = absurd (let z : false ≡ true = h in cc)

rest_of : (x y : Bool) → (x && y) ≡ true → y ≡ true
rest_of true y h = h
rest_of false y h = absurd (let z : false ≡ true = h in cc)

no_talk : (lasting absent : Bool) (o : Option Cause) → is_some o ≡ true → ((lasting && is_none o) && absent) ≡ false
no_talk lasting absent None h = absurd (let z : false ≡ true = h in cc)
no_talk true absent (Some c) h = refl
no_talk false absent (Some c) h = refl

over_still : (s : LinkState) → IsCalm s → is_over s ≡ true → IsStill s
over_still s c h = c.still (no_talk (is_lasting s) (is_absent s.dial) (control s).cause (first_of _ _ (rest_of (is_lasting s) _ h)))

pub over_lasts : {S : Type 0} {c : LinkCore S} {over : Bool} → Lives c → ((s : LinkState) → StandsFor c s → is_over s ≡ over) → over ≡ true → is_session (told c.records).doing ≡ true
over_lasts {c = c} l h e = ap (λ (y : LinkState). is_lasting y) l.stands.is ∙ first_of (is_lasting l.state) _ (h l.state l.stands ∙ e)

pub over_phase : {S : Type 0} {c : LinkCore S} {over : Bool} → Calm c → Sits (opened c.lcp) c → ((s : LinkState) → StandsFor c s → is_over s ≡ over) → over ≡ true → is_some c.auth ≡ false
over_phase {c = c} calm sits h e = still_sits calm.state calm.stands (over_still calm.state calm.calm (h calm.state calm.stands ∙ e)) sits

-- THE END OF A STEP

pub looked_calm : {S : Type 0} {a b : LinkCore S} → Does looked_after a b → Calm a → Calm b
looked_calm d calm = calm_does (λ s c. calm_keeps (looked_keeps s) c) d calm

pub step_does : {S : Type 0} {a b c : LinkCore S} → Does looked_after a b → Does session_over b c → Does at_end a c
step_does x y = record { stands = λ s k. y.stands (looked_after s) (x.stands s k) }
