-- What the dial answers: what the machine stands for behind each piece.
use Rattle.std.proofs.Common.{◌≡◌, ◌≤◌, ℕ, Bool, true, false, Option, None, Some, [], refl, ap, sym, subst, ◌∙◌, arith}
use Rattle.std.specs.Prelude.{◌==◌, ◌+◌, ◌&&◌, is_none, is_some}
use Rattle.std.proofs.lemmas.Bool.Decides.{nat_tests}
use Rattle.ppp_base.specs.RingAfter.{Ring}
use Rattle.ppp_chat.specs.Script.{ChatScript}
use Rattle.ppp_dial.specs.Answer.{answer_by, answer_to}
use Rattle.ppp_dial.specs.DialState.{stage_of}
use Rattle.ppp_dial.specs.Happened.{asked}
use Rattle.ppp_dial.specs.LookingBack.{SoFar, is_nothing, nothing_yet, so_far}
use Rattle.ppp_dial.specs.declared.call.CallKind.{CallKind}
use Rattle.ppp_dial.specs.declared.call.CallKind.TheVariants as call
use Rattle.ppp_dial.specs.declared.dial.Dial.{Dial}
use Rattle.ppp_dial.specs.declared.now.DialNow.{DialNow}
use Rattle.ppp_dial.specs.declared.now.DialNow.TheVariants.{Nothing, Begin, Hold, Wait, Finish}
use Rattle.ppp_dial.specs.declared.policy.DialPolicy.{DialPolicy}
use Rattle.ppp_dial.specs.declared.stage.Stage.TheVariants as stage
use Rattle.ppp_fsm.specs.Moving.{is_shut}
use Rattle.ppp_hdlc.specs.Deframing.{Deframing, fresh}
use Rattle.ppp_hooks.specs.HookPast.{open_in}
use Rattle.ppp_lcp.specs.declared.lcp.Lcp.{Lcp}
use Rattle.ppp_link_parts.specs.Records.{DialStands, RecordsNow, answer_marked, log_answered, says, stage_by, told}
use Rattle.ppp_link_parts.specs.Talk.{Listens, TalkNow}
use Rattle.ppp_link_rules.specs.Dialling.{dial_says, dialled_in}
use Rattle.ppp_link_rules.specs.LinkState.{LinkState, Listener, Nobody, control, is_absent, is_lasting, lcp_state, state_in}
use Rattle.ppp_link_rules.specs.Marks.{Dials, Doing, HasFinished, HasLine, Holds, IsOver, New, Waits, is_session, stay_in}
use Rattle.ppp_link_rules.specs.Sessions.{attempted, dial_answered}
use Rattle.ppp_link_rules.specs.declared.errand.Errand.{Errand}
use Rattle.ppp_link_rules.specs.declared.errand.Errand.TheVariants.{Absent, Waiting, Out}
use Rattle.ppp_mark.specs.Log.{LogState, room_of}
use Rattle.ppp_mark.specs.Scripts.{said_in}
use Rattle.ppp_outside.specs.declared.line_words.LineWords.{LineWords}
use Rattle.ppp_link_core.proofs.AuthFacts.{none_of}
use Rattle.ppp_link_core.proofs.ReaderFacts.{state_some}
use Rattle.ppp_link_core.proofs.StandFacts.{at_state, lives_after}
use Rattle.ppp_link_core.specs.Standing.{Does, Lives, Sits, StandsFor, histories_of, opened, state_of}
use Rattle.ppp_link_core.specs.declared.link_core.LinkCore.{LinkCore}
use Rattle.ppp_link_steps.specs.Calm.{Calm, IsCalm, IsStill, is_chatting, pending}
use Rattle.ppp_link_steps.specs.Dialled.{dial_asked, dial_followed, dial_marked, kind_of, session_made}
use Rattle.ppp_link_steps.specs.declared.dialling.DialAsk.{DialAsk}
use Rattle.ppp_link_steps.specs.declared.dialling.DialAsk.TheVariants as ask

-- THE MARK

pub marked_stay : (answer : DialNow) (time : ℕ) (log : LogState) → stay_in (log_answered answer time log).past ≡ stay_in log.past
marked_stay Nothing time log = refl
marked_stay Begin time log = refl
marked_stay (Hold ms) time log = refl
marked_stay Wait time log = refl
marked_stay (Finish status) time log = refl

pub marked_said : (answer : DialNow) (time : ℕ) (log : LogState) → said_in (log_answered answer time log).past ≡ said_in log.past
marked_said Nothing time log = refl
marked_said Begin time log = refl
marked_said (Hold ms) time log = refl
marked_said Wait time log = refl
marked_said (Finish status) time log = refl

pub marked_does : {S : Type 0} {c : LinkCore S} {r : RecordsNow S} (answer : DialNow)
    → r ≡ record (answer_marked answer c.time c.records) { dial = r.dial } → r.dial.policy ≡ c.records.dial.policy
    → ((line : LineWords) → DialStands line c.records → DialStands line r)
    → Does (dial_marked answer) c (record c { records = r })
marked_does {S = S} {c = c} {r = r} answer e p dials = record {
  stands = λ s k.
      let f : r.scripts ≡ record c.records.scripts { log = log_answered answer c.time c.records.scripts.log } = ap (λ (x : RecordsNow S). x.scripts) e in
      record {
        is = at_state c s (λ y. state_of (record c { records = r }) (histories_of (dial_marked answer y)) ≡ dial_marked answer y) k (rw f refl);
        id = ap (λ (x : RecordsNow S). x.id) e ∙ k.id;
        moment = k.moment;
        asks = k.asks;
        listens = k.listens;
        negotiates = k.negotiates;
        proves = k.proves;
        dials = dials c.config.line k.dials;
        policy = p ∙ k.policy;
        fits = λ h. k.fits (ap is_some (sym (marked_stay answer s.time s.log)) ∙ h);
        passes = λ h. k.passes (ap (λ x. is_some (open_in x)) (sym (marked_said answer s.time s.log)) ∙ h);
      };
}

pub marked_lives : {S : Type 0} {c : LinkCore S} {r : RecordsNow S} (answer : DialNow)
    → r ≡ record (answer_marked answer c.time c.records) { dial = r.dial } → r.dial.policy ≡ c.records.dial.policy
    → ((line : LineWords) → DialStands line c.records → DialStands line r)
    → Lives c → Lives (record c { records = r })
marked_lives answer e p dials l = lives_after (marked_does answer e p dials) l

-- what the dial answers is what the rules say
pub says_is : {S : Type 0} {c : LinkCore S} {answer : DialNow} (kind : CallKind)
    → ((line : LineWords) → DialStands line c.records → answer ≡ says line kind c.time c.records)
    → (s : LinkState) → StandsFor c s → answer ≡ dial_says kind s
says_is {c = c} {answer = answer} kind h s k =
    h c.config.line k.dials
    ∙ ap (λ p. answer_to p (so_far nothing_yet (dialled_in c.config.line c.records.scripts.log.limit c.records.scripts.log.past)) (asked kind c.time (room_of c.records.scripts.log))) k.policy
    ∙ ap (λ (y : LinkState). dial_says kind y) k.is

-- WHERE A SESSION LASTS THE DIAL ANSWERS NOTHING

begun_last : (last : DialNow × ℕ) → stage_of last ≡ stage.Dialling → last ≡ (Begin, last.1)
begun_last (Nothing, at) e = absurd (cc e)
begun_last (Begin, at) e = refl
begun_last (Hold ms, at) e = absurd (cc e)
begun_last (Wait, at) e = absurd (cc e)
begun_last (Finish status, at) e = absurd (cc e)

-- whether a call tells of a session's end
abbrev pub is_end : CallKind → Bool
is_end (call.SessionOver end) = true
is_end _ = false

nothing_while : (kind : CallKind) (policy : DialPolicy) (s : SoFar) (at room : ℕ) → is_end kind ≡ false → s.last ≡ (Begin, s.last.1) → answer_by kind policy s at room ≡ Nothing
nothing_while call.Start policy s at room n e = ap (λ l. answer_by call.Start policy (record s { last = l }) at room) e
nothing_while call.Wake policy s at room n e = ap (λ l. answer_by call.Wake policy (record s { last = l }) at room) e
nothing_while call.Hup policy s at room n e = ap (λ l. answer_by call.Hup policy (record s { last = l }) at room) e
nothing_while call.Tick policy s at room n e = ap (λ l. answer_by call.Tick policy (record s { last = l }) at room) e
nothing_while (call.SessionOver end) policy s at room n e = absurd (let x : true ≡ false = n in cc)
nothing_while call.Stop policy s at room n e = ap (λ l. answer_by call.Stop policy (record s { last = l }) at room) e

not_while : (d : Doing) (answer : DialNow) → (stage_by d ≡ stage.Dialling → answer ≡ Nothing) → is_nothing answer ≡ false → is_session d ≡ false
not_while New answer h f = refl
not_while Dials answer h f = absurd (let x : true ≡ false = ap is_nothing (sym (h refl)) ∙ f in cc)
not_while HasLine answer h f = absurd (let x : true ≡ false = ap is_nothing (sym (h refl)) ∙ f in cc)
not_while IsOver answer h f = absurd (let x : true ≡ false = ap is_nothing (sym (h refl)) ∙ f in cc)
not_while (Holds until) answer h f = refl
not_while Waits answer h f = refl
not_while (HasFinished status) answer h f = refl

pub free_from : (kind : CallKind) (policy : DialPolicy) (sf : SoFar) (time room : ℕ) (d : Doing) (answer : DialNow) → is_end kind ≡ false
    → stage_of sf.last ≡ stage_by d → answer ≡ answer_by kind policy sf time room → is_nothing answer ≡ false → is_session d ≡ false
free_from kind policy sf time room d answer n last e f = not_while d answer (λ g. e ∙ nothing_while kind policy sf time room n (begun_last sf.last (last ∙ g))) f

pub last_is : {S : Type 0} (line : LineWords) (r : RecordsNow S) → DialStands line r → stage_of (so_far nothing_yet (dialled_in line r.scripts.log.limit r.scripts.log.past)).last ≡ r.dial.stage
last_is line r k = sym (ap (λ (d : Dial). d.stage) k.stands.state)

own_kind : (a : DialAsk) → is_end (kind_of a) ≡ false
own_kind ask.Start = refl
own_kind ask.Wake = refl
own_kind ask.Tick = refl

pub free_by : {S : Type 0} {c : LinkCore S} {answer : DialNow} (a : DialAsk) → Lives c
    → c.records.dial.stage ≡ stage_by (told c.records).doing
    → ((line : LineWords) → DialStands line c.records → answer ≡ says line (kind_of a) c.time c.records)
    → is_nothing answer ≡ false → is_session (told c.records).doing ≡ false
free_by {c = c} {answer = answer} a l step h f =
    free_from (kind_of a) c.records.dial.policy (so_far nothing_yet (dialled_in c.config.line c.records.scripts.log.limit c.records.scripts.log.past)) c.time (room_of c.records.scripts.log) (told c.records).doing answer (own_kind a)
    (last_is c.config.line c.records l.stands.dials ∙ step) (h c.config.line l.stands.dials) f

-- A SESSION IS MADE

pub made_does : {S : Type 0} {c : LinkCore S} {t : TalkNow} {d : Deframing} {out : Ring ℕ}
    → is_some c.auth ≡ false
    → ((script : Option ChatScript) (listener : Listener) → Listens script c.talk listener → Listens script t Nobody)
    → d ≡ fresh → out ≡ record c.out { waiting = [] }
    → Does session_made c (record c { dial = Waiting; reading = Absent; writing = Absent; line_ended = false; taken = 0; talk = t; deframer = d; lcp = None; auth = None; out = out })
made_does {c = c} {t = t} {d = d} {out = out} none l e f = record {
  stands = λ s k. record {
    is = at_state c s (λ y. state_of (record c { dial = Waiting; reading = Absent; writing = Absent; line_ended = false; taken = 0; talk = t; deframer = d; lcp = None; auth = None; out = out }) (histories_of (session_made y)) ≡ session_made y) k (rw (e, f) refl);
    id = k.id;
    moment = k.moment;
    asks = k.asks;
    listens = l c.config.script s.listener k.listens;
    negotiates = tt;
    proves = tt;
    dials = k.dials;
    policy = k.policy;
    fits = k.fits;
    passes = λ was. absurd (let z : false ≡ true = sym (none_of c.auth s.auth none k.proves) ∙ k.passes was in cc);
  };
}

pub made_lives : {S : Type 0} {c : LinkCore S} {t : TalkNow} {d : Deframing} {out : Ring ℕ}
    → is_some c.auth ≡ false
    → ((script : Option ChatScript) (listener : Listener) → Listens script c.talk listener → Listens script t Nobody)
    → d ≡ fresh → out ≡ record c.out { waiting = [] }
    → Lives c
    → Lives (record c { dial = Waiting; reading = Absent; writing = Absent; line_ended = false; taken = 0; talk = t; deframer = d; lcp = None; auth = None; out = out })
made_lives none l e f lives = lives_after (made_does none l e f) lives

pub made_sits : {S : Type 0} {c : LinkCore S} {was : Bool} → c.auth ≡ None → Sits was c
made_sits e = record { none = λ _. ap is_some e }

-- WHAT FOLLOWS

pub follows_begin : {S : Type 0} {a b : LinkCore S} {answer : DialNow} → answer ≡ Begin → Does session_made a b → Does (dial_followed answer) a b
follows_begin {b = b} e d = record { stands = λ s k. subst (λ x. StandsFor b (dial_followed x s)) (sym e) (d.stands s k) }

pub follows_nothing : {S : Type 0} {a : LinkCore S} {answer : DialNow} → answer ≡ Nothing → Does (dial_followed answer) a a
follows_nothing {a = a} e = record { stands = λ s k. subst (λ x. StandsFor a (dial_followed x s)) (sym e) k }

pub follows_hold : {S : Type 0} {a : LinkCore S} {answer : DialNow} {ms : ℕ} → answer ≡ Hold ms → Does (dial_followed answer) a a
follows_hold {a = a} e = record { stands = λ s k. subst (λ x. StandsFor a (dial_followed x s)) (sym e) k }

pub follows_wait : {S : Type 0} {a : LinkCore S} {answer : DialNow} → answer ≡ Wait → Does (dial_followed answer) a a
follows_wait {a = a} e = record { stands = λ s k. subst (λ x. StandsFor a (dial_followed x s)) (sym e) k }

pub follows_finish : {S : Type 0} {a : LinkCore S} {answer : DialNow} {status : ℕ} → answer ≡ Finish status → Does (dial_followed answer) a a
follows_finish {a = a} e = record { stands = λ s k. subst (λ x. StandsFor a (dial_followed x s)) (sym e) k }

-- cut at the mark, and joined again
pub answered_is : (answer : DialNow) (s : LinkState) → dial_followed answer (dial_marked answer s) ≡ dial_answered answer s
unfolding attempted
answered_is Nothing s = refl
answered_is Begin s = refl
answered_is (Hold ms) s = refl
answered_is Wait s = refl
answered_is (Finish status) s = refl

pub asked_does : {S : Type 0} {a b c : LinkCore S} (kind : CallKind) (answer : DialNow)
    → ((s : LinkState) → StandsFor a s → answer ≡ dial_says kind s) → Does (dial_marked answer) a b → Does (dial_followed answer) b c → Does (dial_asked kind) a c
asked_does {c = c} kind answer h x y = record {
  stands = λ s k.
      subst (λ z. StandsFor c (dial_answered z s)) (h s k)
      (subst (λ z. StandsFor c z) (answered_is answer s) (y.stands (dial_marked answer s) (x.stands s k)));
}

-- WHERE NO SESSION LASTS THERE IS NO PHASE

not_nine : (n : ℕ) (b : Bool) → (n == 9) ≡ b → is_shut n ≡ true → b ≡ false
not_nine n true e h = absurd (let nine : n ≡ 9 = grind (arith, nat_tests) in let x : is_shut 9 ≡ true = subst (λ m. is_shut m ≡ true) nine h in cc)
not_nine n false e h = refl

shut_by : {S : Type 0} (c : LinkCore S) (o : Option Lcp) (s : LinkState) → c.lcp ≡ o → StandsFor c s → is_shut (lcp_state s) ≡ true → opened o ≡ false
shut_by c None s e k h = refl
shut_by c (Some l) s e k h = ap (λ n. n == 9) (sym (state_some e s k)) ∙ not_nine (lcp_state s) (lcp_state s == 9) refl h

pub still_sits : {S : Type 0} {c : LinkCore S} (s : LinkState) → StandsFor c s → IsStill s → Sits (opened c.lcp) c → is_some c.auth ≡ false
still_sits {c = c} s k h sits = sits.none (shut_by c c.lcp s refl k h.shut)

no_talk : (lasting none absent : Bool) → lasting ≡ false → ((lasting && none) && absent) ≡ false
no_talk false none absent e = refl
no_talk true none absent e = absurd (let x : true ≡ false = e in cc)

pub rests : (s : LinkState) → IsCalm s → is_lasting s ≡ false → IsStill s
rests s c e = c.still (no_talk (is_lasting s) (is_none (control s).cause) (is_absent s.dial) e)

lasting_is : {S : Type 0} {c : LinkCore S} (s : LinkState) → StandsFor c s → is_session (told c.records).doing ≡ is_lasting s
lasting_is {c = c} s k = ap (λ (y : LinkState). is_lasting y) k.is

pub no_phase : {S : Type 0} {b : LinkCore S} (answer : DialNow) (a : LinkCore S) → Calm a → Sits (opened a.lcp) a
    → (is_nothing answer ≡ false → is_session (told a.records).doing ≡ false)
    → b ≡ record a { records = b.records } → is_nothing answer ≡ false → is_some b.auth ≡ false
no_phase {S = S} answer a calm sits free e f =
    let s : LinkState = calm.state in
    ap (λ (x : LinkCore S). is_some x.auth) e ∙ still_sits s calm.stands (rests s calm.calm (sym (lasting_is s calm.stands) ∙ free f)) sits

pub sits_behind : {S : Type 0} {b : LinkCore S} (a : LinkCore S) → b ≡ record a { records = b.records } → Sits (opened a.lcp) a → Sits (opened b.lcp) b
sits_behind {S = S} a e h = record { none = λ g. ap (λ (x : LinkCore S). is_some x.auth) e ∙ h.none (ap (λ (x : LinkCore S). opened x.lcp) (sym e) ∙ g) }

-- AND IT STAYS CALM

few_on : (failed session : ℕ) (dial : Errand) → failed + pending dial ≤ session → failed + 1 ≤ session + 1
few_on failed session Absent h = omega (arith, h)
few_on failed session Waiting h = omega (arith, h)
few_on failed session Out h = omega (arith, h)

pub still_by : (a b : LinkState) → b.wish ≡ a.wish → b.lcp ≡ a.lcp → b.listener ≡ a.listener → IsStill a → IsStill b
still_by a b e f g i = record {
  shut = ap (λ w. is_shut (state_in w b.lcp)) e ∙ ap (λ p. is_shut (state_in a.wish p)) f ∙ i.shut;
  hushed = ap is_chatting g ∙ i.hushed;
}

pub answered_calm : (answer : DialNow) (s : LinkState) → (is_nothing answer ≡ false → is_lasting s ≡ false) → IsCalm s → IsCalm (dial_answered answer s)
unfolding attempted
answered_calm Nothing s h c = c
answered_calm Begin s h c = record { still = λ _. record { shut = refl; hushed = refl }; few = few_on s.failed_dials (control s).session s.dial c.few }
answered_calm (Hold ms) s h c = record { still = λ _. still_by s _ refl refl refl (rests s c (h refl)); few = c.few }
answered_calm Wait s h c = record { still = λ _. still_by s _ refl refl refl (rests s c (h refl)); few = c.few }
answered_calm (Finish status) s h c = record { still = λ _. still_by s _ refl refl refl (rests s c (h refl)); few = c.few }

pub asked_calm : {S : Type 0} {a c : LinkCore S} (kind : CallKind) (answer : DialNow)
    → ((s : LinkState) → StandsFor a s → answer ≡ dial_says kind s)
    → (is_nothing answer ≡ false → is_session (told a.records).doing ≡ false)
    → Does (dial_asked kind) a c → Calm a → Calm c
asked_calm {a = a} {c = c} kind answer h free d calm =
    let s : LinkState = calm.state in
    let e : answer ≡ dial_says kind s = h s calm.stands in
    record {
      state = dial_asked kind s;
      stands = d.stands s calm.stands;
      calm = answered_calm (dial_says kind s) s (λ f. sym (lasting_is s calm.stands) ∙ free (ap is_nothing e ∙ f)) calm.calm;
    }

pub calm_does : {S : Type 0} {a b : LinkCore S} {rule : LinkState → LinkState} → ((s : LinkState) → IsCalm s → IsCalm (rule s)) → Does rule a b → Calm a → Calm b
calm_does {rule = rule} h d calm = record { state = rule calm.state; stands = d.stands calm.state calm.stands; calm = h calm.state calm.calm }
