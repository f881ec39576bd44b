-- LCP is shut by Close, and stays so until Open.
use Rattle.std.proofs.Common.{◌≡◌, ℕ, ◌≤◌, Bool, true, false, Option, None, Some, List, [], ◌∷◌, length, refl, arith}
use Rattle.std.specs.Prelude.{◌==◌, ◌&&◌, ◌||◌, nat_eq, nat_lt, nat_le, slice_index, if◌then◌else◌}
use Rattle.std.specs.Cmp.Lexicographic.{pointwise}
use Rattle.std.proofs.lemmas.Bool.Decides.{nat_tests}
use Rattle.ppp_timer.specs.Due.{has_come}
use Rattle.ppp_fsm.specs.declared.event.FsmEvent.{FsmEvent}
use Rattle.ppp_fsm.specs.declared.event.FsmEvent.TheVariants.{Rtr, Rta, Ruc, RxjGood, RxjBad, Rxr, Timeout}
use Rattle.ppp_fsm.specs.declared.fsm.Limits.{Limits}
use Rattle.ppp_fsm.specs.Fsm.{Automaton, after}
use Rattle.ppp_fsm.specs.Moving.{is_shut, is_open_event}
use Rattle.ppp_fsm.proofs.MovingLemmas.{within_ten, shut_by_close, stays_until_open}
use Rattle.ppp_packet.specs.declared.packet.Packet.{Packet}
use Rattle.ppp_packet.specs.OptionsOf.{Item, laid}
use Rattle.ppp_packet.specs.OptionList.{read_options}
use Rattle.ppp_control.specs.declared.classes.HeardAs.{HeardAs}
use Rattle.ppp_control.specs.declared.classes.HeardAs.TheVariants.{Request as Asks, Ack, Nak, Reject, Event, Discarded}
use Rattle.ppp_control.specs.declared.judging.Verdict.{Verdict}
use Rattle.ppp_control.specs.declared.judging.Verdict.TheVariants as verdict
use Rattle.ppp_control.specs.declared.parts.Request.{Request}
use Rattle.ppp_control.specs.Class.{ack_heard, asks_of, class_of, code_reject_heard, event_if, heard_as, is_last, is_selection, last_options, nak_heard, nak_of, reject_heard, reject_of}
use Rattle.ppp_control.specs.Verdict.{event_on}
use Rattle.ppp_control.specs.Past.{Happened, automaton_after, last_request, moved_by, restart_after, sent_in}
use Rattle.ppp_control.specs.Rules.{Call, Rules, by_itself, closes, comes_up, event_in, goes_down, happened_in, hears, opens, rejects, ticks, verdict_in}
use Rattle.ppp_lcp.specs.declared.wish.LcpWish.{LcpWish}
use Rattle.ppp_lcp.specs.Session.{LcpCall, called, rules}
use Rattle.ppp_link_rules.specs.LcpAnswer.{lcp_answer}
use Rattle.ppp_link_rules.specs.LinkState.{LcpPart, state_in}

-- THERE ARE TEN STATES

moved_few : (event : Option FsmEvent) (a : Automaton) → a.state ≤ 9 → (moved_by event a).state ≤ 9
moved_few None a h = h
moved_few (Some event) a h = within_ten a event h

pub state_few : (limits : Limits) (past : List Happened) → (automaton_after limits past).state ≤ 9
state_few limits [] = omega arith
state_few limits (h ∷ past) = moved_few h.event (automaton_after limits past) (state_few limits past)

-- CLOSE SHUTS

-- the LCP part with the call answered
abbrev pub with_answered : LcpWish → Call (Unit {0}) → ℕ → LcpPart → LcpPart
with_answered wish call now part = record part { calls = called call now (lcp_answer wish part.words part.calls call now) ∷ part.calls }

pub close_shuts : (wish : LcpWish) (now : ℕ) (part : LcpPart) → is_shut (state_in wish (Some (with_answered wish (by_itself closes) now part))) ≡ true
unfolding lcp_answer
close_shuts wish now part = shut_by_close (automaton_after wish.limits (happened_in part.calls)) (state_few wish.limits (happened_in part.calls))

-- AND OPEN ALONE OPENS

abbrev pub is_opening : Call (Unit {0}) → Bool
is_opening (by_itself opens) = true
is_opening (by_itself closes) = false
is_opening (by_itself comes_up) = false
is_opening (by_itself goes_down) = false
is_opening ticks = false
is_opening (hears packet told) = false
is_opening (rejects protocol information) = false

abbrev opens_by : Option FsmEvent → Bool
opens_by None = false
opens_by (Some event) = is_open_event event

abbrev opens_as : HeardAs → Bool
opens_as (Asks items) = false
opens_as Ack = false
opens_as (Nak items) = false
opens_as (Reject items) = false
opens_as (Event event) = is_open_event event
opens_as Discarded = false

either : (b : Bool) (x y : HeardAs) → opens_as x ≡ false → opens_as y ≡ false → opens_as (if b then x else y) ≡ false
either true x y hx hy = hx
either false x y hx hy = hy

no_asks : (o : Option (List Item)) → opens_as (asks_of o) ≡ false
no_asks None = refl
no_asks (Some items) = refl

no_nak : (o : Option (List Item)) → opens_as (nak_of o) ≡ false
no_nak None = refl
no_nak (Some items) = refl

no_reject : (many : List Item) (o : Option (List Item)) → opens_as (reject_of many o) ≡ false
no_reject many None = refl
no_reject many (Some items) = either (is_selection items many) (Reject items) Discarded refl refl

no_event : (b : Bool) (event : FsmEvent) → is_open_event event ≡ false → opens_as (event_if b event) ≡ false
no_event b event h = either b (Event event) Discarded h refl

no_code : (body : List ℕ) → opens_as (code_reject_heard body) ≡ false
no_code body =
    either (nat_lt (length body) 1) Discarded (if nat_le 1 (slice_index body 0) && nat_le (slice_index body 0) 7 then Event RxjBad else Event RxjGood) refl
    (either (nat_le 1 (slice_index body 0) && nat_le (slice_index body 0) 7) (Event RxjBad) (Event RxjGood) refl refl)

no_open_other : (is_lcp : Bool) (p : Packet) → opens_as (if is_lcp && p.code == 8 then event_if (nat_le 2 (length p.body)) RxjGood
    else if is_lcp && nat_le 9 p.code && nat_le p.code 11 then event_if (nat_le 4 (length p.body)) Rxr else Event Ruc) ≡ false
no_open_other is_lcp p =
    either (is_lcp && p.code == 8) (event_if (nat_le 2 (length p.body)) RxjGood) (if is_lcp && nat_le 9 p.code && nat_le p.code 11 then event_if (nat_le 4 (length p.body)) Rxr else Event Ruc)
    (no_event (nat_le 2 (length p.body)) RxjGood refl)
    (either (is_lcp && nat_le 9 p.code && nat_le p.code 11) (event_if (nat_le 4 (length p.body)) Rxr) (Event Ruc) (no_event (nat_le 4 (length p.body)) Rxr refl) refl)

no_ack : (r : Option Request) (p : Packet) → opens_as (ack_heard r p) ≡ false
no_ack r p = either (is_last r p.id && pointwise nat_eq p.body (laid (last_options r))) Ack Discarded refl refl

no_nak_heard : (r : Option Request) (p : Packet) → opens_as (nak_heard r p) ≡ false
no_nak_heard r p = either (is_last r p.id) (nak_of (read_options p.body)) Discarded (no_nak (read_options p.body)) refl

no_reject_heard : (r : Option Request) (p : Packet) → opens_as (reject_heard r p) ≡ false
no_reject_heard r p = either (is_last r p.id) (reject_of (last_options r) (read_options p.body)) Discarded (no_reject (last_options r) (read_options p.body)) refl

all_codes : (b1 b2 b3 b4 b5 b6 b7 : Bool) (h1 h2 h3 h4 h5 h6 h7 h8 : HeardAs) → opens_as h1 ≡ false → opens_as h2 ≡ false → opens_as h3 ≡ false → opens_as h4 ≡ false
    → opens_as h5 ≡ false → opens_as h6 ≡ false → opens_as h7 ≡ false → opens_as h8 ≡ false
    → opens_as (if b1 then h1 else if b2 then h2 else if b3 then h3 else if b4 then h4 else if b5 then h5 else if b6 then h6 else if b7 then h7 else h8) ≡ false
all_codes true b2 b3 b4 b5 b6 b7 h1 h2 h3 h4 h5 h6 h7 h8 e1 e2 e3 e4 e5 e6 e7 e8 = e1
all_codes false true b3 b4 b5 b6 b7 h1 h2 h3 h4 h5 h6 h7 h8 e1 e2 e3 e4 e5 e6 e7 e8 = e2
all_codes false false true b4 b5 b6 b7 h1 h2 h3 h4 h5 h6 h7 h8 e1 e2 e3 e4 e5 e6 e7 e8 = e3
all_codes false false false true b5 b6 b7 h1 h2 h3 h4 h5 h6 h7 h8 e1 e2 e3 e4 e5 e6 e7 e8 = e4
all_codes false false false false true b6 b7 h1 h2 h3 h4 h5 h6 h7 h8 e1 e2 e3 e4 e5 e6 e7 e8 = e5
all_codes false false false false false true b7 h1 h2 h3 h4 h5 h6 h7 h8 e1 e2 e3 e4 e5 e6 e7 e8 = e6
all_codes false false false false false false true h1 h2 h3 h4 h5 h6 h7 h8 e1 e2 e3 e4 e5 e6 e7 e8 = e7
all_codes false false false false false false false h1 h2 h3 h4 h5 h6 h7 h8 e1 e2 e3 e4 e5 e6 e7 e8 = e8

no_open_heard : (is_lcp : Bool) (r : Option Request) (p : Packet) → opens_as (heard_as is_lcp r p) ≡ false
no_open_heard is_lcp r p =
    all_codes (p.code == 1) (p.code == 2) (p.code == 3) (p.code == 4) (p.code == 5) (p.code == 6) (p.code == 7)
    (asks_of (read_options p.body)) (ack_heard r p) (nak_heard r p) (reject_heard r p) (Event Rtr) (Event Rta) (code_reject_heard p.body)
    (if is_lcp && p.code == 8 then event_if (nat_le 2 (length p.body)) RxjGood else if is_lcp && nat_le 9 p.code && nat_le p.code 11 then event_if (nat_le 4 (length p.body)) Rxr else Event Ruc)
    (no_asks (read_options p.body)) (no_ack r p) (no_nak_heard r p) (no_reject_heard r p) refl refl (no_code p.body) (no_open_other is_lcp p)

no_verdict : (v : Verdict) → is_open_event (event_on v) ≡ false
no_verdict verdict.Ack = refl
no_verdict (verdict.Nak items) = refl
no_verdict (verdict.Reject items) = refl

no_open_class : (answer : List Item → Verdict) (h : HeardAs) → opens_as h ≡ false → opens_by (class_of answer h) ≡ false
no_open_class answer (Asks items) e = no_verdict (answer items)
no_open_class answer Ack e = refl
no_open_class answer (Nak items) e = refl
no_open_class answer (Reject items) e = refl
no_open_class answer (Event event) e = e
no_open_class answer Discarded e = refl

no_open_tick : (b : Bool) → opens_by (if b then Some Timeout else None) ≡ false
no_open_tick true = refl
no_open_tick false = refl

no_open_event : (r : Rules (Unit {0})) (past : List LcpCall) (now : ℕ) (call : Call (Unit {0})) → is_opening call ≡ false → opens_by (event_in r past now call) ≡ false
no_open_event r past now (by_itself opens) e = absurd (let x : true ≡ false = e in cc)
no_open_event r past now (by_itself closes) e = refl
no_open_event r past now (by_itself comes_up) e = refl
no_open_event r past now (by_itself goes_down) e = refl
no_open_event r past now ticks e = no_open_tick (has_come now (restart_after r.limits r.restart_ms (happened_in past)))
no_open_event r past now (hears p told) e =
    no_open_class (verdict_in r past told) (heard_as r.is_lcp (last_request (sent_in (happened_in past))) p) (no_open_heard r.is_lcp (last_request (sent_in (happened_in past))) p)
no_open_event r past now (rejects protocol information) e = refl

or_second : (a b : Bool) → a ≡ false → (a || b) ≡ true → b ≡ true
or_second false b e f = f
or_second true b e f = absurd (let x : true ≡ false = e in cc)

moved_shut : (event : Option FsmEvent) (a : Automaton) → opens_by event ≡ false → is_shut a.state ≡ true → is_shut (moved_by event a).state ≡ true
moved_shut None a e h = h
moved_shut (Some event) a e h = or_second (is_open_event event) (is_shut (after a event).state) e (stays_until_open a event h)

pub stays_shut : (wish : LcpWish) (call : Call (Unit {0})) (now : ℕ) (part : LcpPart) → is_opening call ≡ false → is_shut (state_in wish (Some part)) ≡ true
    → is_shut (state_in wish (Some (with_answered wish call now part))) ≡ true
unfolding lcp_answer
stays_shut wish call now part e h =
    moved_shut (event_in (rules wish part.words) part.calls now call) (automaton_after wish.limits (happened_in part.calls)) (no_open_event (rules wish part.words) part.calls now call e) h

pub shut_not_open : (n : ℕ) → is_shut n ≡ true → (n == 9) ≡ false
shut_not_open n h = grind (arith, nat_tests, h)
