-- Each rule keeps what is so of a link between two calls.
use Rattle.std.proofs.Common.{◌≡◌, ◌≤◌, ℕ, Bool, true, false, Option, None, Some, List, [], ◌∷◌, ◌++◌, refl, ap, sym, ◌∙◌, arith}
use Rattle.std.specs.Prelude.{◌+◌, ◌&&◌, ◌||◌, if◌then◌else◌, is_none, is_some}
use Rattle.ppp_auth.specs.Outcome.{outcome_in}
use Rattle.ppp_auth.specs.Phase.{told_at}
use Rattle.ppp_auth.specs.Setting.{PhaseAt, PhaseCall}
use Rattle.ppp_auth.specs.declared.out.PhaseOut.{PhaseOut}
use Rattle.ppp_auth.specs.declared.out.PhasePacket.{PhasePacket}
use Rattle.ppp_auth.specs.declared.outcome.AuthNow.{AuthNow}
use Rattle.ppp_auth.specs.declared.outcome.AuthNow.TheVariants.{Going, Passed, PeerFailed, WeFailed}
use Rattle.ppp_base.specs.declared.hook_target.HookTarget.TheVariants.{Link}
use Rattle.ppp_control.specs.Past.{Happened, automaton_after, moved_by}
use Rattle.ppp_control.specs.Rules.{Call, by_itself, closes, comes_up, event_in, goes_down, happened_in, rejects, ticks}
use Rattle.ppp_fsm.proofs.MovingLemmas.{shut_by_close, stays_until_open, within_ten}
use Rattle.ppp_fsm.specs.Fsm.{Automaton}
use Rattle.ppp_fsm.specs.Moving.{is_open_event, is_shut}
use Rattle.ppp_fsm.specs.declared.event.FsmEvent.{FsmEvent}
use Rattle.ppp_fsm.specs.declared.event.FsmEvent.TheVariants as fsm
use Rattle.ppp_fsm.specs.declared.fsm.Limits.{Limits}
use Rattle.ppp_hooks.specs.HookMark.{HookMark, Opened, Closed, Started, Ended}
use Rattle.ppp_hooks.specs.HookRule.{due_after}
use Rattle.ppp_lcp.specs.Session.{LcpCall, rules}
use Rattle.ppp_lcp.specs.declared.out.LcpOut.{LcpOut}
use Rattle.ppp_lcp.specs.declared.wish.LcpWish.{LcpWish}
use Rattle.ppp_mark.specs.Log.{LogState}
use Rattle.ppp_mark.specs.ScriptLog.{closed_mark, log_closed_at, next_opening, opened_mark}
use Rattle.ppp_mark.specs.Scripts.{due_marks, marks_at, said_in}
use Rattle.ppp_mark.specs.declared.kind.TheConstants.{ATTEMPT}
use Rattle.ppp_mark.specs.declared.mark.Mark.{Mark}
use Rattle.ppp_packet.specs.declared.agreed.Agreed.{Agreed}
use Rattle.ppp_packet.specs.declared.packet.Packet.{Packet}
use Rattle.ppp_link_rules.specs.Authentication.{asked_by, asked_if, auth_opened, called_part as phase_part, ended_by_outcome, join_tried, new_phase, opened_for, phase_begun, phase_begun_by, phase_called, phase_told, with_phase}
use Rattle.ppp_link_rules.specs.Ending.{auth_closed, caused, closed_if, closed_marked, closed_part, ended_by, ended_if, first_caused_by, given_up, lcp_closed, lcp_left, left_by, left_if, with_call}
use Rattle.ppp_link_rules.specs.Hearing.{ended_if_many, has_many, looked_after}
use Rattle.ppp_link_rules.specs.LcpAnswer.{lcp_answer}
use Rattle.ppp_link_rules.specs.LcpCalls.{answered, called_part, cause_of, followed, followed_by, lcp_called, lcp_entered, open_marked, protocol_rejected}
use Rattle.ppp_link_rules.specs.LinkState.{AuthPart, Chatting, Framing, LcpPart, LinkState, Listener, Nobody, agreed, control, has_passed, is_absent, is_busy, is_open, lcp_state, outcome_of, state_in}
use Rattle.ppp_link_rules.specs.Marks.{Doing, cause_in, count_in, doing_in, is_session}
use Rattle.ppp_link_rules.specs.Phase.{may_ask, phase_by}
use Rattle.ppp_link_rules.specs.Rings.{has_control}
use Rattle.ppp_link_rules.specs.Sending.{frame_sent, packets_sent, phase_sent}
use Rattle.ppp_link_rules.specs.declared.cause.Cause.{Cause}
use Rattle.ppp_link_rules.specs.declared.errand.Errand.{Errand}
use Rattle.ppp_link_steps.specs.Calm.{IsCalm, IsStill, is_chatting, may_talk, pending}

-- what a rule leaves that has nothing to do with this
pub record Same (a b : LinkState) : Type 0 where
  pub doing : doing_in b.log.past ≡ doing_in a.log.past
  pub cause : cause_in b.log.past ≡ cause_in a.log.past
  pub session : count_in 0 ATTEMPT b.log.past ≡ count_in 0 ATTEMPT a.log.past
  pub dial : b.dial ≡ a.dial
  pub failed : b.failed_dials ≡ a.failed_dials
  pub lcp : b.lcp ≡ a.lcp
  pub wish : b.wish ≡ a.wish
  pub listener : b.listener ≡ a.listener

pub same : (s : LinkState) → Same s s
same s = record { doing = refl; cause = refl; session = refl; dial = refl; failed = refl; lcp = refl; wish = refl; listener = refl }

pub same_then : {a b c : LinkState} → Same a b → Same b c → Same a c
same_then x y = record {
  doing = y.doing ∙ x.doing;
  cause = y.cause ∙ x.cause;
  session = y.session ∙ x.session;
  dial = y.dial ∙ x.dial;
  failed = y.failed ∙ x.failed;
  lcp = y.lcp ∙ x.lcp;
  wish = y.wish ∙ x.wish;
  listener = y.listener ∙ x.listener;
}

-- a rule that keeps it
pub record Keeps (a b : LinkState) : Type 0 where
  pub session : (control b).session ≡ (control a).session
  pub dial : b.dial ≡ a.dial
  pub failed : b.failed_dials ≡ a.failed_dials
  pub hush : is_chatting a.listener ≡ false → is_chatting b.listener ≡ false
  pub still : (may_talk a ≡ false → IsStill a) → may_talk b ≡ false → IsStill b

pub keeps : (s : LinkState) → Keeps s s
keeps s = record { session = refl; dial = refl; failed = refl; hush = λ h. h; still = λ h g. h g }

pub keeps_then : {a b c : LinkState} → Keeps a b → Keeps b c → Keeps a c
keeps_then x y = record {
  session = y.session ∙ x.session;
  dial = y.dial ∙ x.dial;
  failed = y.failed ∙ x.failed;
  hush = λ h. y.hush (x.hush h);
  still = λ h g. y.still (x.still h) g;
}

same_state : {a b : LinkState} → Same a b → lcp_state b ≡ lcp_state a
same_state {a = a} {b = b} x = ap (λ w. state_in w b.lcp) x.wish ∙ ap (λ p. state_in a.wish p) x.lcp

abbrev talk_of : Doing → Option Cause → Errand → Bool
talk_of d c e = (is_session d && is_none c) && is_absent e

same_talk : {a b : LinkState} → Same a b → may_talk b ≡ may_talk a
same_talk {a = a} {b = b} x =
    ap (λ d. talk_of d (cause_in b.log.past) b.dial) x.doing
    ∙ ap (λ c. talk_of (doing_in a.log.past) c b.dial) x.cause
    ∙ ap (λ e. talk_of (doing_in a.log.past) (cause_in a.log.past) e) x.dial

pub keeps_same : {a b : LinkState} → Same a b → Keeps a b
keeps_same {a = a} {b = b} x = record {
  session = x.session;
  dial = x.dial;
  failed = x.failed;
  hush = λ h. ap is_chatting x.listener ∙ h;
  still = λ h g. let i : IsStill a = h (sym (same_talk x) ∙ g) in record { shut = ap is_shut (same_state x) ∙ i.shut; hushed = ap is_chatting x.listener ∙ i.hushed };
}

few_by : (f g : ℕ) (d e : Errand) (m n : ℕ) → g ≡ f → e ≡ d → n ≡ m → f + pending d ≤ m → g + pending e ≤ n
few_by f g d e m n p q r h = rw (p, q, r) h

pub calm_keeps : {a b : LinkState} → Keeps a b → IsCalm a → IsCalm b
calm_keeps {a = a} {b = b} x c = record {
  still = x.still c.still;
  few = few_by a.failed_dials b.failed_dials a.dial b.dial (control a).session (control b).session x.failed x.dial x.session c.few;
}

-- MARKS OF SCRIPTS

no_doing : (time : ℕ) (hooks : List HookMark) (past : List Mark) → doing_in (marks_at time hooks ++ past) ≡ doing_in past
no_doing time [] past = refl
no_doing time (Opened n ∷ hooks) past = no_doing time hooks past
no_doing time (Closed n ∷ hooks) past = no_doing time hooks past
no_doing time (Started true n ∷ hooks) past = no_doing time hooks past
no_doing time (Started false n ∷ hooks) past = no_doing time hooks past
no_doing time (Ended answer job ∷ hooks) past = no_doing time hooks past

no_cause : (time : ℕ) (hooks : List HookMark) (past : List Mark) → cause_in (marks_at time hooks ++ past) ≡ cause_in past
no_cause time [] past = refl
no_cause time (Opened n ∷ hooks) past = no_cause time hooks past
no_cause time (Closed n ∷ hooks) past = no_cause time hooks past
no_cause time (Started true n ∷ hooks) past = no_cause time hooks past
no_cause time (Started false n ∷ hooks) past = no_cause time hooks past
no_cause time (Ended answer job ∷ hooks) past = no_cause time hooks past

no_attempt : (time : ℕ) (hooks : List HookMark) (past : List Mark) → count_in 0 ATTEMPT (marks_at time hooks ++ past) ≡ count_in 0 ATTEMPT past
no_attempt time [] past = refl
no_attempt time (Opened n ∷ hooks) past = no_attempt time hooks past
no_attempt time (Closed n ∷ hooks) past = no_attempt time hooks past
no_attempt time (Started true n ∷ hooks) past = no_attempt time hooks past
no_attempt time (Started false n ∷ hooks) past = no_attempt time hooks past
no_attempt time (Ended answer job ∷ hooks) past = no_attempt time hooks past

pub due_doing : (time : ℕ) (past : List Mark) → doing_in (due_marks time past ++ past) ≡ doing_in past
due_doing time past = no_doing time (due_after (said_in past)) past

pub due_cause : (time : ℕ) (past : List Mark) → cause_in (due_marks time past ++ past) ≡ cause_in past
due_cause time past = no_cause time (due_after (said_in past)) past

pub due_attempt : (time : ℕ) (past : List Mark) → count_in 0 ATTEMPT (due_marks time past ++ past) ≡ count_in 0 ATTEMPT past
due_attempt time past = no_attempt time (due_after (said_in past)) past

closed_doing : (id time : ℕ) (o : Option ℕ) (log : LogState) → doing_in (log_closed_at (Link id) time o log).past ≡ doing_in log.past
closed_doing id time None log = refl
closed_doing id time (Some n) log = due_doing time (closed_mark (Link id) time n ∷ log.past)

closed_cause : (id time : ℕ) (o : Option ℕ) (log : LogState) → cause_in (log_closed_at (Link id) time o log).past ≡ cause_in log.past
closed_cause id time None log = refl
closed_cause id time (Some n) log = due_cause time (closed_mark (Link id) time n ∷ log.past)

closed_attempt : (id time : ℕ) (o : Option ℕ) (log : LogState) → count_in 0 ATTEMPT (log_closed_at (Link id) time o log).past ≡ count_in 0 ATTEMPT log.past
closed_attempt id time None log = refl
closed_attempt id time (Some n) log = due_attempt time (closed_mark (Link id) time n ∷ log.past)

-- SENDING

pub frame_is : (protocol : ℕ) (information : List ℕ) (s : LinkState) → Same s (frame_sent protocol information s)
unfolding frame_sent
frame_is protocol information s = record { doing = refl; cause = refl; session = refl; dial = refl; failed = refl; lcp = refl; wish = refl; listener = refl }

pub packets_are : (packets : List Packet) (s : LinkState) → Same s (packets_sent packets s)
packets_are [] s = same s
packets_are (p ∷ packets) s = same_then (frame_is _ _ s) (packets_are packets _)

pub phase_are : (packets : List PhasePacket) (s : LinkState) → Same s (phase_sent packets s)
phase_are [] s = same s
phase_are (p ∷ packets) s = same_then (frame_is _ _ s) (phase_are packets _)

-- LCP LEAVES OPENED

auth_is : (s : LinkState) → Same s (auth_closed s)
auth_is s = record {
  doing = closed_doing s.id s.time _ s.log;
  cause = closed_cause s.id s.time _ s.log;
  session = closed_attempt s.id s.time _ s.log;
  dial = refl;
  failed = refl;
  lcp = refl;
  wish = refl;
  listener = refl;
}

stay_is : (stay : Option ℕ) (s : LinkState) → Same s (left_by stay s)
stay_is None s = same s
stay_is (Some stay) s = record { doing = refl; cause = refl; session = refl; dial = refl; failed = refl; lcp = refl; wish = refl; listener = refl }

left_is : (s : LinkState) → Same s (lcp_left s)
unfolding lcp_left
left_is s = same_then {b = closed_marked s} (record { doing = refl; cause = refl; session = refl; dial = refl; failed = refl; lcp = refl; wish = refl; listener = refl }) (same_then (auth_is _) (stay_is _ _))

left_if_is : (b : Bool) (s : LinkState) → Same s (left_if b s)
left_if_is true s = left_is s
left_if_is false s = same s

-- THE STATE OF LCP

abbrev pub opens_by : Option FsmEvent → Bool
opens_by None = false
opens_by (Some event) = is_open_event event

-- a call that isn't an Open
pub record IsNoOpen (call : Call (Unit {0})) : Type 0 where
  pub event : (wish : LcpWish) (words : ℕ) (past : List LcpCall) (now : ℕ) → opens_by (event_in (rules wish words) past now call) ≡ false

pub no_open_close : IsNoOpen (by_itself closes)
no_open_close = record { event = λ wish words past now. refl }

pub no_open_down : IsNoOpen (by_itself goes_down)
no_open_down = record { event = λ wish words past now. refl }

pub no_open_up : IsNoOpen (by_itself comes_up)
no_open_up = record { event = λ wish words past now. refl }

pub no_open_reject : (protocol : ℕ) (information : List ℕ) → IsNoOpen (rejects protocol information)
no_open_reject protocol information = record { event = λ wish words past now. refl }

timeout_or : (b : Bool) → opens_by (if b then Some fsm.Timeout else None) ≡ false
timeout_or true = refl
timeout_or false = refl

pub no_open_tick : IsNoOpen ticks
no_open_tick = record { event = λ wish words past now. timeout_or _ }

answer_event : (wish : LcpWish) (words : ℕ) (past : List LcpCall) (call : Call (Unit {0})) (now : ℕ) → (lcp_answer wish words past call now).event ≡ event_in (rules wish words) past now call
unfolding lcp_answer
answer_event wish words past call now = refl

-- the state with one more call
state_with : (call : Call (Unit {0})) (now : ℕ) (part : LcpPart) (s : LinkState)
    → lcp_state (with_call call now (lcp_answer s.wish part.words part.calls call now) part s)
    ≡ (moved_by (event_in (rules s.wish part.words) part.calls now call) (automaton_after s.wish.limits (happened_in part.calls))).state
state_with call now part s = ap (λ e. (moved_by e (automaton_after s.wish.limits (happened_in part.calls))).state) (answer_event s.wish part.words part.calls call now)

moved_few : (e : Option FsmEvent) (a : Automaton) → a.state ≤ 9 → (moved_by e a).state ≤ 9
moved_few None a h = h
moved_few (Some event) a h = within_ten a event h

few_states : (limits : Limits) (past : List Happened) → (automaton_after limits past).state ≤ 9
few_states limits [] = omega arith
few_states limits (h ∷ past) = moved_few h.event (automaton_after limits past) (few_states limits past)

second : (a b : Bool) → a ≡ false → (a || b) ≡ true → b ≡ true
second false b e f = f
second true b e f = absurd (let x : true ≡ false = e in cc)

moved_shut : (e : Option FsmEvent) (a : Automaton) → opens_by e ≡ false → is_shut a.state ≡ true → is_shut (moved_by e a).state ≡ true
moved_shut None a f h = h
moved_shut (Some event) a f h = second (is_open_event event) _ f (stays_until_open a event h)

-- a call of LCP where it isn't an Open, or where LCP is wanted
pub with_call_keeps : (call : Call (Unit {0})) (now : ℕ) (part : LcpPart) (s : LinkState) → s.lcp ≡ Some part → IsNoOpen call
    → Keeps s (with_call call now (lcp_answer s.wish part.words part.calls call now) part s)
with_call_keeps call now part s e n = record {
  session = refl;
  dial = refl;
  failed = refl;
  hush = λ h. h;
  still = λ h g. let i : IsStill s = h g in record {
    shut = ap is_shut (state_with call now part s)
        ∙ moved_shut (event_in (rules s.wish part.words) part.calls now call) (automaton_after s.wish.limits (happened_in part.calls)) (n.event s.wish part.words part.calls now) (ap (λ o. is_shut (state_in s.wish o)) (sym e) ∙ i.shut);
    hushed = i.hushed;
  };
}

pub with_call_wanted : (call : Call (Unit {0})) (now : ℕ) (part : LcpPart) (s : LinkState) → may_talk s ≡ true
    → Keeps s (with_call call now (lcp_answer s.wish part.words part.calls call now) part s)
with_call_wanted call now part s m = record {
  session = refl;
  dial = refl;
  failed = refl;
  hush = λ h. h;
  still = λ h g. absurd (let x : true ≡ false = sym m ∙ g in cc);
}

-- LCP IS CLOSED

closing_is : (was : Bool) (out : LcpOut) (call : Call (Unit {0})) (now : ℕ) (part : LcpPart) (s : LinkState)
    → Same (with_call call now out part s) (left_if was (packets_sent out.packets (with_call call now out part s)))
closing_is was out call now part s = same_then (packets_are out.packets _) (left_if_is was _)

closed_keeps : (s : LinkState) (o : Option LcpPart) → s.lcp ≡ o → Keeps s (closed_part o s)
closed_keeps s None e = keeps s
closed_keeps s (Some part) e =
    keeps_then (with_call_keeps (by_itself closes) s.time part s e no_open_close)
    (keeps_same (closing_is (is_open s) (lcp_answer s.wish part.words part.calls (by_itself closes) s.time) (by_itself closes) s.time part s))

pub lcp_closed_keeps : (s : LinkState) → Keeps s (lcp_closed s)
unfolding lcp_closed
lcp_closed_keeps s = closed_keeps s s.lcp refl

closed_shut : (s : LinkState) (o : Option LcpPart) → s.lcp ≡ o → is_shut (lcp_state (closed_part o s)) ≡ true
closed_shut s None e = ap (λ o. is_shut (state_in s.wish o)) e
closed_shut s (Some part) e =
    ap is_shut (same_state (closing_is (is_open s) (lcp_answer s.wish part.words part.calls (by_itself closes) s.time) (by_itself closes) s.time part s))
    ∙ ap is_shut (state_with (by_itself closes) s.time part s)
    ∙ shut_by_close (automaton_after s.wish.limits (happened_in part.calls)) (few_states s.wish.limits (happened_in part.calls))

lcp_closed_shut : (s : LinkState) → is_shut (lcp_state (lcp_closed s)) ≡ true
unfolding lcp_closed
lcp_closed_shut s = closed_shut s s.lcp refl

-- behind a cause no chat is heard
pub record Hushes (a b : LinkState) : Type 0 where
  pub session : (control b).session ≡ (control a).session
  pub dial : b.dial ≡ a.dial
  pub failed : b.failed_dials ≡ a.failed_dials
  pub hushed : is_chatting b.listener ≡ false

nobody_chats : (l : Listener) → is_chatting (given_up l) ≡ false
nobody_chats Nobody = refl
nobody_chats (Chatting calls) = refl
nobody_chats Framing = refl

pub caused_hushes : (c : Cause) (s : LinkState) → Hushes s (caused c s)
unfolding caused
caused_hushes c s = record { session = refl; dial = refl; failed = refl; hushed = nobody_chats s.listener }

pub hushes_then : {a b c : LinkState} → Hushes a b → Keeps b c → Hushes a c
hushes_then x y = record { session = y.session ∙ x.session; dial = y.dial ∙ x.dial; failed = y.failed ∙ x.failed; hushed = y.hush x.hushed }

-- and its Close leaves LCP unwanted
pub shut_then : {a b : LinkState} → Hushes a b → Keeps a (lcp_closed b)
shut_then {a = a} {b = b} h = record {
  session = (lcp_closed_keeps b).session ∙ h.session;
  dial = (lcp_closed_keeps b).dial ∙ h.dial;
  failed = (lcp_closed_keeps b).failed ∙ h.failed;
  hush = λ _. (lcp_closed_keeps b).hush h.hushed;
  still = λ _ _. record { shut = lcp_closed_shut b; hushed = (lcp_closed_keeps b).hush h.hushed };
}

ended_if_keeps : (busy : Bool) (c : Cause) (s : LinkState) → Keeps s (ended_if busy c s)
ended_if_keeps true c s = shut_then (caused_hushes c s)
ended_if_keeps false c s = keeps s

pub ended_keeps : (c : Cause) (s : LinkState) → Keeps s (ended_by c s)
unfolding ended_by
ended_keeps c s = ended_if_keeps (is_busy s) c s

-- AUTHENTICATION

opened_is : (peer : List ℕ) (s : LinkState) → Same s (auth_opened peer s)
opened_is peer s = record {
  doing = due_doing s.time (opened_mark (Link s.id) s.time (next_opening s.log) ∷ s.log.past);
  cause = due_cause s.time (opened_mark (Link s.id) s.time (next_opening s.log) ∷ s.log.past);
  session = due_attempt s.time (opened_mark (Link s.id) s.time (next_opening s.log) ∷ s.log.past);
  dial = refl;
  failed = refl;
  lcp = refl;
  wish = refl;
  listener = refl;
}

opened_for_is : (peer : Option (List ℕ)) (s : LinkState) → Same s (opened_for peer s)
opened_for_is None s = same s
opened_for_is (Some peer) s = opened_is peer s

outcome_keeps : (now : AuthNow) (s : LinkState) → Keeps s (ended_by_outcome now s)
outcome_keeps Going s = keeps s
outcome_keeps (Passed peer allow) s = keeps s
outcome_keeps PeerFailed s = ended_keeps _ s
outcome_keeps WeFailed s = ended_keeps _ s

told_keeps : (out : PhaseOut) (now : AuthNow) (s : LinkState) → Keeps s (phase_told out now s)
told_keeps out now s = keeps_then (keeps_same (same_then (phase_are out.packets s) (opened_for_is out.peer_passed _))) (outcome_keeps now _)

phase_part_keeps : (call : PhaseCall) (part : Option AuthPart) (s : LinkState) → Keeps s (phase_part call part s)
phase_part_keeps call None s = keeps s
phase_part_keeps call (Some part) s =
    let c : PhaseAt = record { now = s.time; call = call } in
    keeps_then {b = with_phase c part s} (keeps_same (record { doing = refl; cause = refl; session = refl; dial = refl; failed = refl; lcp = refl; wish = refl; listener = refl }))
    (told_keeps (told_at part.setting c part.calls) (outcome_in part.setting (c ∷ part.calls)) (with_phase c part s))

pub phase_keeps : (call : PhaseCall) (s : LinkState) → Keeps s (phase_called call s)
unfolding phase_called
phase_keeps call s = phase_part_keeps call s.auth s

begun_by_keeps : (terms : Option Agreed) (s : LinkState) → Keeps s (phase_begun_by terms s)
begun_by_keeps None s = keeps s
begun_by_keeps (Some terms) s =
    keeps_then {b = new_phase terms s} (keeps_same (record { doing = refl; cause = refl; session = refl; dial = refl; failed = refl; lcp = refl; wish = refl; listener = refl })) (phase_keeps _ _)

begun_keeps : (s : LinkState) → Keeps s (phase_begun s)
unfolding phase_begun
begun_keeps s = begun_by_keeps (agreed s) s

asked_by_is : (now : AuthNow) (terms : Option Agreed) (s : LinkState) → Same s (asked_by now terms s)
asked_by_is Going terms s = same s
asked_by_is (Passed peer allow) None s = same s
asked_by_is (Passed peer allow) (Some terms) s = record { doing = refl; cause = refl; session = refl; dial = refl; failed = refl; lcp = refl; wish = refl; listener = refl }
asked_by_is PeerFailed terms s = same s
asked_by_is WeFailed terms s = same s

asked_if_is : (b : Bool) (s : LinkState) → Same s (asked_if b s)
asked_if_is true s = asked_by_is (outcome_of s.auth) (agreed s) s
asked_if_is false s = same s

tried_is : (s : LinkState) → Same s (join_tried s)
unfolding join_tried
tried_is s = asked_if_is (may_ask (phase_by (is_open s) (has_passed (outcome_of s.auth))) (control s).stay (has_control s.up.waiting)) s

-- WHAT LCP ANSWERS

entered_keeps : (s : LinkState) → Keeps s (lcp_entered s)
unfolding lcp_entered
entered_keeps s = keeps_then {b = open_marked s} (keeps_same (record { doing = refl; cause = refl; session = refl; dial = refl; failed = refl; lcp = refl; wish = refl; listener = refl })) (begun_keeps _)

followed_by_keeps : (was is : Bool) (s : LinkState) → Keeps s (followed_by was is s)
followed_by_keeps false false s = keeps s
followed_by_keeps false true s = entered_keeps s
followed_by_keeps true false s = keeps_same (left_is s)
followed_by_keeps true true s = keeps s

sent_keeps : (was : Bool) (out : LcpOut) (s : LinkState) → Keeps s (followed was (packets_sent out.packets s))
sent_keeps was out s = keeps_then (keeps_same (packets_are out.packets s)) (followed_by_keeps was (is_open (packets_sent out.packets s)) _)

answered_by_keeps : (was busy : Bool) (c : Option Cause) (out : LcpOut) (s : LinkState)
    → Keeps s (closed_if (is_some c && busy) (followed was (packets_sent out.packets (first_caused_by c busy s))))
answered_by_keeps was busy None out s = sent_keeps was out s
answered_by_keeps was true (Some c) out s = shut_then (hushes_then (caused_hushes c s) (sent_keeps was out _))
answered_by_keeps was false (Some c) out s = sent_keeps was out s

pub answered_keeps : (was : Bool) (c : Option Cause) (out : LcpOut) (s : LinkState) → Keeps s (answered was c out s)
unfolding answered
answered_keeps was c out s = answered_by_keeps was (is_busy s) c out s

called_part_keeps : (call : Call (Unit {0})) (now : ℕ) (o : Option LcpPart) (s : LinkState) → s.lcp ≡ o → IsNoOpen call → Keeps s (called_part call now o s)
called_part_keeps call now None s e n = keeps s
called_part_keeps call now (Some part) s e n =
    let out : LcpOut = lcp_answer s.wish part.words part.calls call now in
    keeps_then {b = with_call call now out part s} (with_call_keeps call now part s e n) (answered_keeps (is_open s) (cause_of (lcp_state s) out) out (with_call call now out part s))

wanted_part_keeps : (call : Call (Unit {0})) (now : ℕ) (o : Option LcpPart) (s : LinkState) → may_talk s ≡ true → Keeps s (called_part call now o s)
wanted_part_keeps call now None s m = keeps s
wanted_part_keeps call now (Some part) s m =
    let out : LcpOut = lcp_answer s.wish part.words part.calls call now in
    keeps_then {b = with_call call now out part s} (with_call_wanted call now part s m) (answered_keeps (is_open s) (cause_of (lcp_state s) out) out (with_call call now out part s))

pub lcp_called_keeps : (call : Call (Unit {0})) (s : LinkState) → IsNoOpen call → Keeps s (lcp_called call s)
unfolding lcp_called
lcp_called_keeps call s n = called_part_keeps call s.time s.lcp s refl n

pub lcp_wanted_keeps : (call : Call (Unit {0})) (s : LinkState) → may_talk s ≡ true → Keeps s (lcp_called call s)
unfolding lcp_called
lcp_wanted_keeps call s m = wanted_part_keeps call s.time s.lcp s m

pub rejected_keeps : (protocol : ℕ) (information : List ℕ) (s : LinkState) → Keeps s (protocol_rejected protocol information s)
unfolding protocol_rejected
rejected_keeps protocol information s = called_part_keeps (rejects protocol information) 0 s.lcp s refl (no_open_reject protocol information)

-- BEHIND EACH FRAME

many_keeps : (b : Bool) (s : LinkState) → Keeps s (ended_if_many b s)
many_keeps true s = ended_keeps _ s
many_keeps false s = keeps s

pub looked_keeps : (s : LinkState) → Keeps s (looked_after s)
unfolding looked_after
looked_keeps s = keeps_then (keeps_same (tried_is s)) (many_keeps (has_many (join_tried s)) _)
