-- Each octet and each event keep what the scripts of a link say.
use Rattle.std.proofs.Common.{◌≡◌, ℕ, ◌+◌, ◌≤◌, Bool, true, false, cond, Option, None, Some, List, [], ◌∷◌, length, refl, arith}
use Rattle.std.specs.Prelude.{◌==◌, ◌&&◌, ◌||◌, not, is_none, is_some, filter, if◌then◌else◌}
use Rattle.ppp_auth.specs.Setting.{waits}
use Rattle.ppp_base.specs.declared.posts.Post.{Post}
use Rattle.ppp_base.specs.declared.posts.Post.TheVariants.{Member, Refused, Close, Send, Reject, Wake}
use Rattle.ppp_base.specs.declared.signal_word.SignalWord.{SignalWord}
use Rattle.ppp_base.specs.declared.signal_word.SignalWord.TheVariants.{Hup, Int, Term, Usr1, Usr2}
use Rattle.ppp_chat.specs.declared.event.Event.{Event as ChatEvent}
use Rattle.ppp_chat.specs.declared.now.ChatNow.{ChatNow}
use Rattle.ppp_chat.specs.declared.now.ChatNow.TheVariants.{Going, Sent, Done, TimedOut, Aborted}
use Rattle.ppp_chat.specs.Event.{octet_at, tick_at}
use Rattle.ppp_chat.specs.Script.{ChatScript}
use Rattle.ppp_control.specs.Rules.{by_itself, comes_up, goes_down, opens, ticks}
use Rattle.ppp_dial.specs.declared.call.CallKind.TheVariants as call
use Rattle.ppp_dial.specs.declared.now.DialNow.{DialNow}
use Rattle.ppp_dial.specs.declared.now.DialNow.TheVariants as now
use Rattle.ppp_dial.specs.LookingBack.{finished_with, is_under_way}
use Rattle.ppp_hdlc.specs.Deframing.{heard_at}
use Rattle.ppp_hdlc.specs.declared.heard.Heard.{Heard}
use Rattle.ppp_hdlc.specs.declared.heard.Heard.TheVariants as heard
use Rattle.ppp_mark.specs.Marks.{refused_mark, signal_mark, signal_number}
use Rattle.ppp_outside.specs.Counts.{raised}
use Rattle.ppp_packet.specs.PacketOf.{packet_in}
use Rattle.ppp_timer.specs.Due.{has_come, moment_of, slots}
use Rattle.ppp_timer.specs.declared.slot.Slot.{Slot}
use Rattle.ppp_timer.specs.declared.slot.Slot.TheVariants as slot
use Rattle.ppp_link_rules.specs.declared.cause.Cause.{Cause}
use Rattle.ppp_link_rules.specs.declared.errand.Errand.TheVariants.{Waiting}
use Rattle.ppp_link_rules.specs.declared.errand.ReadEnd.{ReadEnd}
use Rattle.ppp_link_rules.specs.declared.errand.ReadEnd.TheVariants as read
use Rattle.ppp_link_rules.specs.declared.errand.SentEnd.{SentEnd}
use Rattle.ppp_link_rules.specs.declared.errand.SentEnd.TheVariants as sent
use Rattle.ppp_link_rules.specs.Authentication.{join_tried}
use Rattle.ppp_link_rules.specs.CauseStatus.{chat_aborted, chat_timed_out, closed_by, dial_failed, join_refused, line_ended, read_failed, signalled, too_many_marks, write_failed}
use Rattle.ppp_link_rules.specs.Dialling.{dial_says, dial_so_far, end_by}
use Rattle.ppp_link_rules.specs.Ending.{first_caused, first_caused_by, is_first}
use Rattle.ppp_link_rules.specs.Errands.{is_session as of_session, is_target}
use Rattle.ppp_link_rules.specs.Hearing.{chat_answer, chat_called, chat_ticked_by, chat_told, ended_if_many, frame_taken, has_many, heard_taken, link_opened, looked_after, octet_taken, octet_to, octets_taken, talk_begun_by, treated, with_fed}
use Rattle.ppp_link_rules.specs.LcpCalls.{lcp_called}
use Rattle.ppp_link_rules.specs.LinkEvent.{Event, Begin, Dialled, Bytes, LineOver, Flushed, Tick, Signal, FromTable, HookOver}
use Rattle.ppp_link_rules.specs.LinkPart.{after, after_unless, happened, is_nothing, is_present, reading_back, writing_back}
use Rattle.ppp_link_rules.specs.LinkState.{Chatting, Framing, LinkState, Listener, Nobody, agreed, control, has_passed, is_absent, is_busy, is_lasting, is_open, is_out, outcome_of}
use Rattle.ppp_link_rules.specs.Marks.{cause_in, hold_by, is_session, doing_in, status_by}
use Rattle.ppp_link_rules.specs.Phase.{Discarded, Phase, ToAuth, ToLcp, ToReject, ToTable, Treatment, phase_by}
use Rattle.ppp_link_rules.specs.Posts.{live_if, made_member, member_if, member_marked, post_taken, rejected_in, sent_in}
use Rattle.ppp_link_rules.specs.Sessions.{at_end, attempted, dial_answered, dial_come, is_over, line_come, line_come_if, line_gone, line_gone_if, line_lost, over_if, over_marked, session_over, with_dial_back, with_failure, with_line, with_line_ended}
use Rattle.ppp_link_rules.specs.Signals.{hung_up_by, signal_marked, signal_taken, stopped_by, stopping}
use Rattle.ppp_link_rules.specs.Ticking.{moments_of, slots_treated, ticked, timers_treated, treated as slot_treated, treated_if, with_time}
use Rattle.ppp_link_facts.proofs.Budgets.{Mid}
use Rattle.ppp_link_facts.proofs.EndRules.{caused_now}
use Rattle.ppp_link_facts.proofs.EventRules.{and_one, and_two, cost, costs, end_mid, happened_mid, looked_mid, none_not, and_right, over_mid_marked, out_there, slot_if_mid, slots_mid, timed_mid, line_mid, back_mid}
use Rattle.ppp_link_facts.proofs.HearRules.{chatting, octet_rule}
use Rattle.ppp_link_facts.proofs.LcpRules.{called_loud}
use Rattle.ppp_link_facts.proofs.ScriptVoice.{Says, called_says, closed_if_says, ended_says, first_says, frame_says, heard_says, job_says, join_says, phase_heard_says, phase_says, rejected_says, says_other, voice}
use Rattle.ppp_link_facts.proofs.Sight.{SitsNow, busy_in, sight}

-- THE LOOK AT THE STAY AND THE MARKS

many_says : (b : Bool) (s : LinkState) → Says (voice s) → Says (voice (ended_if_many b s))
many_says true s h = ended_says too_many_marks s h
many_says false s h = h

pub looked_says : (s : LinkState) → Says (voice s) → Says (voice (looked_after s))
unfolding looked_after
looked_says s h = many_says (has_many (join_tried s)) (join_tried s) (join_says s h)

-- FRAMES

treated_says : (t : Treatment) (protocol : ℕ) (information : List ℕ) (s : LinkState) → SitsNow (sight s) → Says (voice s) → Says (voice (treated t protocol information s))
treated_says ToLcp protocol information s sits h = heard_says (packet_in information) s sits h
treated_says ToAuth protocol information s sits h = phase_heard_says protocol (packet_in information) s h
treated_says ToTable protocol information s sits h = h
treated_says ToReject protocol information s sits h = rejected_says protocol information s sits h
treated_says Discarded protocol information s sits h = h

frame_taken_says : (protocol : ℕ) (information : List ℕ) (s : LinkState) → SitsNow (sight s) → Says (voice s) → Says (voice (frame_taken protocol information s))
unfolding frame_taken
frame_taken_says protocol information s sits h = treated_says (Phase (phase_by (is_open s) (has_passed (outcome_of s.auth))) (agreed s) protocol) protocol information s sits h

heard_taken_says : (f : Heard) (s : LinkState) → SitsNow (sight s) → Says (voice s) → Says (voice (heard_taken f s))
heard_taken_says heard.Nothing s sits h = h
heard_taken_says (heard.Frame protocol information) s sits h = looked_says (frame_taken protocol information s) (frame_taken_says protocol information s sits h)
heard_taken_says (heard.Dropped fault) s sits h = looked_says s h

-- THE CHAT

opened_says : (s : LinkState) → SitsNow (sight s) → Says (voice s) → Says (voice (link_opened s))
unfolding link_opened
opened_says s sits h =
    let a : LinkState = record s { listener = Framing } in
    let b : LinkState = lcp_called (by_itself opens) a in
    let at_a : SitsNow (sight a) = record { phase = sits.phase; stay = sits.stay; auth = sits.auth } in
    called_says (by_itself comes_up) b ((called_loud (by_itself opens) a).sits at_a) (called_says (by_itself opens) a at_a h)

told_says : (answer : ChatNow) (s : LinkState) → SitsNow (sight s) → Says (voice s) → Says (voice (chat_told answer s))
told_says Going s sits h = h
told_says (Sent octets) s sits h = h
told_says Done s sits h = opened_says s sits h
told_says TimedOut s sits h = ended_says chat_timed_out s h
told_says (Aborted number) s sits h = ended_says (chat_aborted number) s h

chat_says : (event : ChatEvent) (calls : List ChatEvent) (s : LinkState) → SitsNow (sight s) → Says (voice s) → Says (voice (chat_called event calls s))
unfolding chat_called
chat_says event calls s sits h = told_says (chat_answer s.config.script calls event) (chatting event calls s) (record { phase = sits.phase; stay = sits.stay; auth = sits.auth }) h

-- OCTETS

octet_to_says : (l : Listener) (octet : ℕ) (s : LinkState) → SitsNow (sight s) → Says (voice s) → Says (voice (octet_to l octet s))
octet_to_says Nobody octet s sits h = h
octet_to_says (Chatting calls) octet s sits h = chat_says (octet_at octet s.time) calls s sits h
octet_to_says Framing octet s sits h = heard_taken_says (heard_at octet s.deframer) (with_fed octet s) sits h

pub octet_says : (octet : ℕ) (s : LinkState) → SitsNow (sight s) → Says (voice s) → Says (voice (octet_taken octet s))
unfolding octet_taken
octet_says octet s sits h = octet_to_says s.listener octet s sits h

pub octets_says : (octets : List ℕ) (s : LinkState) → SitsNow (sight s) → Says (voice s) → Says (voice (octets_taken octets s))
octets_says [] s sits h = h
octets_says (octet ∷ octets) s sits h = octets_says octets (octet_taken octet s) ((octet_rule octet s).sits sits) (octet_says octet s sits h)

chat_ticked_says : (l : Listener) (s : LinkState) → SitsNow (sight s) → Says (voice s) → Says (voice (chat_ticked_by l s))
chat_ticked_says Nobody s sits h = h
chat_ticked_says (Chatting calls) s sits h = chat_says (tick_at s.time) calls s sits h
chat_ticked_says Framing s sits h = h

-- THE DIAL: an attempt begins where nothing is open, as what stands behind it tells.

attempted_says : (s : LinkState) → SitsNow (sight (attempted s)) → Says (voice s) → Says (voice (attempted s))
unfolding attempted
attempted_says s sits h =
    let k : Says (record (voice s) { past = (attempted s).log.past }) = says_other _ (voice s) refl h in
    record { stands = k.stands; directions = k.directions; named = sits.auth refl }

pub dialled_says : (answer : DialNow) (s : LinkState) → SitsNow (sight (dial_answered answer s)) → Says (voice s) → Says (voice (dial_answered answer s))
dialled_says now.Nothing s sits h = h
dialled_says now.Begin s sits h = attempted_says s sits h
dialled_says (now.Hold ms) s sits h = says_other _ (voice s) refl h
dialled_says now.Wait s sits h = says_other _ (voice s) refl h
dialled_says (now.Finish status) s sits h = says_other _ (voice s) refl h

-- THE END OF EACH STEP

over_marked_says : (s : LinkState) → SitsNow (sight (over_marked s)) → Says (voice s) → Says (voice (over_marked s))
over_marked_says s sits h =
    let k : Says (record (voice s) { past = (over_marked s).log.past }) = says_other _ (voice s) refl h in
    record { stands = k.stands; directions = k.directions; named = sits.auth refl }

over_if_says : (b : Bool) (s : LinkState) → is_over s ≡ b → Mid 900 960 (sight s) → Mid 900 960 (sight (over_if b s)) → Says (voice s) → Says (voice (over_if b s))
over_if_says false s e m n h = h
over_if_says true s e m n h =
    let lasts : is_lasting s ≡ true = and_one (is_lasting s) _ e in
    let some : is_some (cause_in s.log.past) ≡ true = and_one (is_some (cause_in s.log.past)) _ (and_two (is_lasting s) _ e) in
    let over : busy_in (sight s) ≡ false = and_right (is_session (doing_in s.log.past)) (is_none (cause_in s.log.past)) (none_not (cause_in s.log.past) some) in
    dialled_says (dial_says (call.SessionOver (end_by s.config.line (control s).was_live (control s).cause)) (over_marked s)) (over_marked s) n.sits (over_marked_says s (over_mid_marked s m lasts over).sits h)

over_says : (s : LinkState) → Mid 900 960 (sight s) → Mid 900 960 (sight (session_over s)) → Says (voice s) → Says (voice (session_over s))
unfolding session_over
over_says s m n h = over_if_says (is_over s) s refl m n h

pub end_says : (s : LinkState) → Mid 946 960 (sight s) → Says (voice s) → Says (voice (at_end s))
end_says s m h =
    let m1 : Mid 900 960 (sight (looked_after s)) = looked_mid s m (omega arith) in
    over_says (looked_after s) m1 (end_mid s m (omega arith)) (looked_says s h)

-- THE LINE

line_says : (s : LinkState) → SitsNow (sight (with_line s)) → Says (voice s) → Says (voice (line_come s))
unfolding line_come
line_says s sits h = talk_says s.config.script (with_line s) sits (says_other _ (voice s) refl h)
  where
    talk_says : (o : Option ChatScript) (t : LinkState) → SitsNow (sight t) → Says (voice t) → Says (voice (talk_begun_by o t))
    talk_says None t sits1 h1 = opened_says t sits1 h1
    talk_says (Some script) t sits1 h1 = chat_says (tick_at t.time) [] t sits1 h1

line_if_says : (b : Bool) (s : LinkState) → is_busy s ≡ b → Mid 900 960 (sight s) → is_some s.lcp ≡ false → is_absent s.dial ≡ true → Says (voice s) → Says (voice (line_come_if b s))
line_if_says false s e m none back h = h
line_if_says true s e m none back h = line_says s (line_mid s m e none back).sits h

come_says : (came : Bool) (s : LinkState) → Mid 900 960 (sight s) → is_absent s.dial ≡ false → Says (voice s) → Says (voice (dial_come came s))
come_says true s m there h = line_if_says (is_busy s) (with_dial_back s) refl (back_mid (sight s) m) (m.dial there) refl h
come_says false s m there h = ended_says dial_failed (with_failure s) h

gone_says : (c : Cause) (s : LinkState) → SitsNow (sight s) → Says (voice s) → Says (voice (line_gone c s))
gone_says c s sits h =
    let t : LinkState = with_line_ended s in
    let a : LinkState = first_caused (Some c) t in
    let at_t : SitsNow (sight t) = record { phase = sits.phase; stay = sits.stay; auth = sits.auth } in
    closed_if_says (is_first (Some c) s) (lcp_called (by_itself goes_down) a) (called_says (by_itself goes_down) a (first_sits (is_busy t) c t at_t) (first_says (Some c) (is_busy t) t h))
  where
    first_sits : (b : Bool) (c1 : Cause) (t : LinkState) → SitsNow (sight t) → SitsNow (sight (first_caused_by (Some c1) b t))
    first_sits true c1 t k = caused_now c1 t k
    first_sits false c1 t k = k

gone_if_says : (b : Bool) (c : Cause) (s : LinkState) → SitsNow (sight s) → Says (voice s) → Says (voice (line_gone_if b c s))
gone_if_says true c s sits h = gone_says c s sits h
gone_if_says false c s sits h = h

lost_says : (c : Cause) (s : LinkState) → SitsNow (sight s) → Says (voice s) → Says (voice (line_lost c s))
unfolding line_lost
lost_says c s sits h = gone_if_says (is_lasting s && not s.line_ended) c s sits h

read_says : (how : ReadEnd) (s : LinkState) → SitsNow (sight s) → Says (voice s) → Says (voice (reading_back how s))
read_says read.End s sits h = lost_says line_ended s sits h
read_says read.Failed s sits h = lost_says read_failed s sits h
read_says read.Left s sits h = h

sent_says : (how : SentEnd) (s : LinkState) → SitsNow (sight s) → Says (voice s) → Says (voice (writing_back how s))
sent_says sent.All s sits h = h
sent_says (sent.Failed count) s sits h = lost_says write_failed s sits h

-- TICKS

slot_says : {m : ℕ} (which : Slot) (s : LinkState) → Mid m 960 (sight s) → SitsNow (sight (slot_treated which s)) → Says (voice s) → Says (voice (slot_treated which s))
slot_says slot.LcpRestart s m n h = called_says ticks s m.sits h
slot_says slot.AuthRestart s m n h = phase_says waits s h
slot_says slot.AuthEnd s m n h = h
slot_says slot.Echo s m n h = h
slot_says slot.Hold s m n h = dialled_says (dial_says call.Tick s) s n h
slot_says slot.IpcpRestart s m n h = h
slot_says slot.Idle s m n h = h
slot_says slot.Connect s m n h = h

slot_if_says : {m : ℕ} (b : Bool) (which : Slot) (s : LinkState) → Mid m 960 (sight s) → SitsNow (sight (treated_if b which s)) → Says (voice s) → Says (voice (treated_if b which s))
slot_if_says true which s m n h = slot_says which s m n h
slot_if_says false which s m n h = h

slots_says_by : (b : Bool) (one : Slot) (due : List Slot) (rest m : ℕ) (s : LinkState) → 2 ≤ m → Mid m 960 (sight s) → m + (cost one + rest) ≤ 952 → Says (voice s)
    → ((n : ℕ) (t : LinkState) → 2 ≤ n → Mid n 960 (sight t) → n + rest ≤ 952 → Says (voice t) → Says (voice (slots_treated due t))) → Says (voice (slots_treated (cond b (one ∷ due) due) s))
slots_says_by false one due rest m s two k le h f = f m s two k (omega (arith, le)) h
slots_says_by true one due rest m s two k le h f =
    let b : Bool = is_some (moment_of (moments_of s) one) in
    let k1 : Mid (m + cost one) 960 (sight (treated_if b one s)) = slot_if_mid b one s two k (omega (arith, le)) in
    f (m + cost one) (treated_if b one s) (omega (arith, two)) k1 (omega (arith, le)) (slot_if_says b one s k k1.sits h)

slots_says : (due : Slot → Bool) (all : List Slot) (m : ℕ) (s : LinkState) → 2 ≤ m → Mid m 960 (sight s) → m + costs all ≤ 952 → Says (voice s) → Says (voice (slots_treated (filter due all) s))
slots_says due [] m s two k le h = h
slots_says due (one ∷ all) m s two k le h = slots_says_by (due one) one (filter due all) (costs all) m s two k le h (λ n t two1 k1 le1 h1. slots_says due all n t two1 k1 le1 h1)

tick_says : (moment : ℕ) (s : LinkState) → Mid 900 960 (sight s) → Says (voice s) → Says (voice (ticked moment s))
unfolding ticked
tick_says moment s k h =
    let t : LinkState = with_time moment s in
    let kt : Mid 900 960 (sight t) = timed_mid (sight s) t.time k in
    let due : Slot → Bool = λ which. has_come t.time (moment_of (moments_of t) which) in
    let k1 : Mid 920 960 (sight (timers_treated t)) = slots_mid due slots 900 t (omega arith) kt (omega arith) in
    chat_ticked_says (timers_treated t).listener (timers_treated t) k1.sits (slots_says due slots 900 t (omega arith) kt (omega arith) h)

-- SIGNALS

signal_says : (word : SignalWord) (s : LinkState) → Says (voice s) → Says (voice (signal_marked word s))
signal_says word s h = says_other (signal_mark s.time word) (voice s) refl h

hup_says : (busy holds : Bool) (s : LinkState) → SitsNow (sight (hung_up_by busy holds s)) → Says (voice s) → Says (voice (hung_up_by busy holds s))
hup_says true holds s n h = ended_says (signalled 1) (signal_marked Hup s) (signal_says Hup s h)
hup_says false true s n h = dialled_says (dial_says call.Hup (signal_marked Hup s)) (signal_marked Hup s) n (signal_says Hup s h)
hup_says false false s n h = h

stop_says : (b : Bool) (s : LinkState) → Says (voice s) → Says (voice (dial_answered (if b then now.Nothing else now.Finish 5) s))
stop_says true s h = h
stop_says false s h = says_other _ (voice s) refl h

stopping_says : (word : SignalWord) (s : LinkState) → Says (voice s) → Says (voice (stopping word s))
stopping_says word s h =
    ended_says (signalled (signal_number word)) (dial_answered (dial_says call.Stop s) s) (stop_says (is_under_way (dial_so_far s) || is_some (finished_with (dial_so_far s))) s h)

stopped_says : (b : Bool) (word : SignalWord) (s : LinkState) → Says (voice s) → Says (voice (stopped_by b word s))
stopped_says true word s h = h
stopped_says false word s h = stopping_says word (signal_marked word s) (signal_says word s h)

signalled_says : (word : SignalWord) (s : LinkState) → SitsNow (sight (signal_taken word s)) → Says (voice s) → Says (voice (signal_taken word s))
unfolding signal_taken
signalled_says Hup s n h = hup_says (is_busy s) (is_some (hold_by (control s).doing)) s n h
signalled_says Int s n h = stopped_says ((control s).stopped || is_some (status_by (control s).doing)) Int s h
signalled_says Term s n h = stopped_says ((control s).stopped || is_some (status_by (control s).doing)) Term s h
signalled_says Usr1 s n h = h
signalled_says Usr2 s n h = h

-- POSTS

member_says : (b : Bool) (unit stay : ℕ) (s : LinkState) → Says (voice s) → Says (voice (member_if b unit stay s))
member_says true unit stay s h = says_other _ (voice s) refl h
member_says false unit stay s h = h

live_says : (b : Bool) (unit stay : ℕ) (s : LinkState) → Says (voice s) → Says (voice (live_if b unit stay s))
live_says true unit stay s h = says_other _ (voice s) refl h
live_says false unit stay s h = h

made_says : (stay unit : ℕ) (live : Bool) (s : LinkState) → Says (voice s) → Says (voice (made_member stay unit live s))
made_says stay unit live s h =
    let t : LinkState = member_marked unit stay s in
    live_says (live && not (control t).live) unit stay t (member_says (is_none (control s).unit) unit stay s h)

sent_in_says : (o : Option ℕ) (protocol : ℕ) (information : List ℕ) (s : LinkState) → Says (voice s) → Says (voice (sent_in o protocol information s))
sent_in_says None protocol information s h = h
sent_in_says (Some stay) protocol information s h = frame_says protocol information s h

rejected_in_says : (o : Option ℕ) (protocol : ℕ) (information : List ℕ) (s : LinkState) → SitsNow (sight s) → Says (voice s) → Says (voice (rejected_in o protocol information s))
rejected_in_says None protocol information s sits h = h
rejected_in_says (Some stay) protocol information s sits h = rejected_says protocol information s sits h

posted_says : (post : Post) (s : LinkState) → SitsNow (sight s) → SitsNow (sight (post_taken post s)) → Says (voice s) → Says (voice (post_taken post s))
unfolding post_taken
posted_says (Member stay unit live) s sits n h = made_says stay unit live s h
posted_says (Refused stay reason) s sits n h = ended_says (join_refused reason) _ (says_other (refused_mark s.time reason stay) (voice s) refl h)
posted_says (Close stay unit why elapsed live) s sits n h = ended_says (closed_by why) (made_member stay unit live s) (made_says stay unit live s h)
posted_says (Send protocol information) s sits n h = sent_in_says (control s).stay protocol information s h
posted_says (Reject protocol information) s sits n h = rejected_in_says (control s).stay protocol information s sits h
posted_says Wake s sits n h = dialled_says (dial_says call.Wake s) s n h

-- EVENTS

happened_says : (event : Event) (s : LinkState) → is_present event s ≡ true → Mid 900 960 (sight s) → SitsNow (sight (happened event s)) → Says (voice s) → Says (voice (happened event s))
happened_says Begin s is k n h = dialled_says (dial_says call.Start s) s n h
happened_says (Dialled link session failed came) s is k n h = come_says came s k (out_there s.dial (and_one (is_out s.dial) (of_session link session s && (failed == s.failed_dials)) is)) h
happened_says (Bytes link session offset octets) s is k n h = octets_says octets (record s { taken = raised s.taken (length octets) }) k.sits h
happened_says (LineOver link session how) s is k n h = read_says how (record s { reading = Waiting }) (record { phase = k.sits.phase; stay = k.sits.stay; auth = k.sits.auth }) h
happened_says (Flushed link session how) s is k n h = sent_says how (record s { writing = Waiting }) (record { phase = k.sits.phase; stay = k.sits.stay; auth = k.sits.auth }) h
happened_says (Tick moment) s is k n h = tick_says moment s k h
happened_says (Signal word) s is k n h = signalled_says word s n h
happened_says (FromTable post) s is k n h = posted_says post s k.sits n h
happened_says (HookOver target job not_started answer) s is k n h =
    job_says answer s h (k.job (and_one s.job_out (is_target target s.id && ((job == s.scripts.starts) && (not_started == s.scripts.not_started))) is)) k.ends

unless_says : (b : Bool) (event : Event) (s : LinkState) → is_nothing event s ≡ b → is_present event s ≡ true → Mid 900 960 (sight s) → Says (voice s) → Says (voice (after_unless b event s))
unless_says true event s e is k h = h
unless_says false event s e is k h =
    let k1 : Mid 946 960 (sight (happened event s)) = happened_mid event s is e k in
    end_says (happened event s) k1 (happened_says event s is k k1.sits h)

pub after_says : (event : Event) (s : LinkState) → is_present event s ≡ true → Mid 900 960 (sight s) → Says (voice s) → Says (voice (after event s))
unfolding after
after_says event s is k h = unless_says (is_nothing event s) event s refl is k h
