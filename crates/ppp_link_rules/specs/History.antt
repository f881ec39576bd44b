-- What a session heard and did, by looking back over all that happened since its attempt, the newest first. Nothing here says in which order the rules of a link
-- do their work: only what a frame asks, what each call answers, what is due, and which reason each end of a session has.
-- Open: that every step of `LinkPart` goes on like this (`GoesOn`). So far it is shown of worked sessions (`laws::sessions_look_back`).
use Rattle.std.specs.Prelude.{ℕ, ◌≡◌, ◌+◌, ◌-◌, ◌*◌, ◌==◌, ◌&&◌, ◌||◌, not, nat_le, nat_lt, Bool, true, false, if◌then◌else◌, Option, None, Some, is_some, is_none, List, [], ◌∷◌, ◌++◌, ⊤, length, map, filter}
use Rattle.ppp_base.specs.RandomWords.{branch_of, challenge_of, state_after}
use Rattle.ppp_base.specs.declared.posts.Post.TheVariants.{Member, Refused, Close, Send, Reject, Wake}
use Rattle.ppp_base.specs.declared.protocol.TheConstants.{LCP}
use Rattle.ppp_base.specs.declared.send_settings.SendSettings.{SendSettings}
use Rattle.ppp_base.specs.declared.signal_word.SignalWord.TheVariants.{Hup, Int, Term, Usr1, Usr2}
use Rattle.ppp_chat.specs.ChatOf.{ChatOf}
use Rattle.ppp_chat.specs.Script.{ChatScript}
use Rattle.ppp_chat.specs.declared.event.Event.{Event as ChatEvent}
use Rattle.ppp_chat.specs.declared.now.ChatEnd.{ChatEnd}
use Rattle.ppp_chat.specs.declared.now.ChatEnd.TheVariants as end
use Rattle.ppp_chat.specs.declared.now.ChatNow.{ChatNow}
use Rattle.ppp_chat.specs.declared.now.ChatNow.TheVariants.{Going, Sent, Done, TimedOut, Aborted}
use Rattle.ppp_control.specs.Past.{automaton_after}
use Rattle.ppp_control.specs.Rules.{opens, closes, comes_up, goes_down, AllLawful, Call, by_itself, ticks, hears, rejects, happened_in}
use Rattle.ppp_fsm.specs.Fsm.{Automaton}
use Rattle.ppp_fsm.specs.declared.event.FsmEvent.{FsmEvent}
use Rattle.ppp_fsm.specs.declared.event.FsmEvent.TheVariants.{RxjBad, Rtr, Timeout}
use Rattle.ppp_hdlc.specs.Deframing.{StandsFor as Deframes}
use Rattle.ppp_hdlc.specs.Encoding.{encoding}
use Rattle.ppp_hdlc.specs.Frames.{Received, Frames}
use Rattle.ppp_hdlc.specs.Octets.{is_flag}
use Rattle.ppp_hdlc.specs.declared.heard.Heard.{Heard}
use Rattle.ppp_hdlc.specs.declared.heard.Heard.TheVariants.{Nothing, Frame, Dropped}
use Rattle.ppp_packet.specs.PacketOf.{laid_packet, packet_in}
use Rattle.ppp_packet.specs.declared.agreed.Agreed.{Agreed}
use Rattle.ppp_packet.specs.declared.packet.Packet.{Packet}
use Rattle.ppp_lcp.specs.Session.{LcpCall, agreed_after, auth_refused_at, deadline_after, finds_lost, in_a_row, is_open_in, network_refused_at, own_requests, rules}
use Rattle.ppp_lcp.specs.declared.wish.LcpWish.{LcpWish}
use Rattle.ppp_auth.specs.Outcome.{outcome_in}
use Rattle.ppp_auth.specs.Phase.{told_at}
use Rattle.ppp_auth.specs.Setting.{PhaseAt, PhaseCall, Setting, starts, takes, waits}
use Rattle.ppp_auth.specs.declared.out.PhasePacket.{PhasePacket}
use Rattle.ppp_auth.specs.declared.outcome.AuthNow.{AuthNow}
use Rattle.ppp_auth.specs.declared.outcome.AuthNow.TheVariants as stands
use Rattle.ppp_secrets.specs.declared.secrets.SecretsPair.{SecretsPair}
use Rattle.ppp_outside.specs.Counts.{raised}
use Rattle.ppp_timer.specs.Due.{has_come}
use Rattle.ppp_mark.specs.declared.mark.Mark.{Mark}
use Rattle.ppp_mark.specs.declared.kind.TheConstants.{ATTEMPT, CAUSE}
use Rattle.ppp_option_words.specs.LinkValues.{LinkValues}
use Rattle.ppp_link_rules.specs.declared.cause.Cause.{Cause}
use Rattle.ppp_link_rules.specs.declared.counts.FrameCounts.{FrameCounts}
use Rattle.ppp_link_rules.specs.declared.errand.ReadEnd.TheVariants as read
use Rattle.ppp_link_rules.specs.declared.errand.SentEnd.TheVariants as sent
use Rattle.ppp_link_rules.specs.declared.limits.TheConstants.{MOST_MARKS}
use Rattle.ppp_link_rules.specs.CauseStatus.{cause, chat_aborted, chat_timed_out, closed_by, dial_failed, gave_up, join_refused, line_ended, peer_ended, peer_failed, read_failed, refused, signalled, too_many_marks, we_failed, write_failed}
use Rattle.ppp_link_rules.specs.FrameCounts.{counts_from}
use Rattle.ppp_link_rules.specs.Hearing.{chat_answer}
use Rattle.ppp_link_rules.specs.Kept.{time_after}
use Rattle.ppp_link_rules.specs.LinkEvent.{Event, Begin, Dialled, Bytes, LineOver, Flushed, Tick, Signal, FromTable, HookOver}
use Rattle.ppp_link_rules.specs.LinkState.{AuthPart, LcpPart, LinkState, Listener, Nobody, Chatting, Framing, control, has_passed}
use Rattle.ppp_link_rules.specs.Marks.{since_in}
use Rattle.ppp_link_rules.specs.Phase.{LinkPhase, Phase, Treatment, ToLcp, ToAuth, ToTable, ToReject, Discarded, phase_by}
use Rattle.ppp_base.specs.RingAfter.{Ring}
use Rattle.ppp_link_rules.specs.Rings.{put_frame, put_out}
use Rattle.ppp_link_rules.specs.Sending.{map_by, settings_by}
use Rattle.ppp_link_rules.specs.Sessions.{session_over}
use Rattle.ppp_link_rules.specs.UpValue.{UpValue, Asks, Hands, Leaves}
use Rattle.ppp_link_rules.specs.Wishes.{auth_config}

-- An event comes, in a stay or in none. The chat is called. An octet is heard by the deframer. LCP, or the phase of authentication, is called. A frame is
-- posted to the table. The session has its cause, behind so many marks.
pub data Moment : Type 0 where
  Comes : (event : Event) → (stay : Option ℕ) → Moment
  Talks : (call : ChatEvent) → Moment
  Hears : (octet : ℕ) → Moment
  Negotiates : (call : LcpCall) → Moment
  Proves : (call : PhaseAt) → Moment
  Posts : (protocol : ℕ) → (information : List ℕ) → Moment
  Ends : (cause : Cause) → (marks : ℕ) → Moment

-- what stays in a session: the link's number and its own, its options, what they ask of LCP, and the secrets; as its attempt begins, the time, the state of the link's generator, and what
-- had been counted
pub record Terms : Type 0 where
  pub link : ℕ
  pub session : ℕ
  pub config : LinkValues
  pub wish : LcpWish
  pub secrets : SecretsPair
  pub began : ℕ
  pub words : ℕ
  pub counts : FrameCounts

-- of a session whose attempt begins now
abbrev pub terms_of : LinkState → Terms
terms_of s = record { link = s.id; session = (control s).session; config = s.config; wish = s.wish; secrets = s.secrets; began = s.time; words = s.words; counts = s.counts }

-- WHAT LOOKING BACK GIVES

abbrev pub time_in : Terms → List Moment → ℕ
time_in terms [] = terms.began
time_in terms (Comes event stay ∷ past) = time_after event (time_in terms past)
time_in terms (_ ∷ past) = time_in terms past

abbrev pub is_tick : Event → Bool
is_tick (Tick now) = true
is_tick _ = false

abbrev pub is_piece : Event → Bool
is_piece (Bytes link session offset octets) = true
is_piece _ = false

abbrev pub ends_line : Event → Bool
ends_line (LineOver link session read.End) = true
ends_line (LineOver link session read.Failed) = true
ends_line (LineOver link session read.Left) = false
ends_line (Flushed link session sent.All) = false
ends_line (Flushed link session (sent.Failed count)) = true
ends_line _ = false

abbrev pub is_now : (Event → Bool) → List Moment → Bool
is_now is_it [] = false
is_now is_it (Comes event stay ∷ past) = is_it event
is_now is_it (_ ∷ past) = is_now is_it past

-- the cause of the session, and how many marks it had as that came: by looking back, and by the log
abbrev pub ended_in : List Moment → Option Cause
ended_in [] = None
ended_in (Ends cause marks ∷ past) = Some cause
ended_in (_ ∷ past) = ended_in past

abbrev pub marks_then : List Moment → Option ℕ
marks_then [] = None
marks_then (Ends cause marks ∷ past) = Some marks
marks_then (_ ∷ past) = marks_then past

abbrev pub since_then : List Mark → Option ℕ
since_then [] = None
since_then (m ∷ past) = if m.kind == CAUSE then Some (since_in past) else if m.kind == ATTEMPT then None else since_then past

-- The line has come, while nothing had ended the session; and it has ended.
abbrev pub comes_with_line : Event → Bool
comes_with_line (Dialled link session failed came) = came
comes_with_line _ = false

abbrev pub has_line : List Moment → Bool
has_line [] = false
has_line (Comes event stay ∷ past) = has_line past || (comes_with_line event && is_none (ended_in past))
has_line (_ ∷ past) = has_line past

abbrev pub has_ended : List Moment → Bool
has_ended [] = false
has_ended (Comes event stay ∷ past) = ends_line event || has_ended past
has_ended (_ ∷ past) = has_ended past

-- whether the bundle was live: a Member or Close post said so
abbrev pub makes_live : Event → Bool
makes_live (FromTable (Member stay unit live)) = live
makes_live (FromTable (Close stay unit why elapsed live)) = live
makes_live _ = false

abbrev pub was_live_at : List Moment → Bool
was_live_at [] = false
was_live_at (Comes event stay ∷ past) = makes_live event || was_live_at past
was_live_at (_ ∷ past) = was_live_at past

-- how many octets came
abbrev pub octets_of : Event → List ℕ
octets_of (Bytes link session offset octets) = octets
octets_of _ = []

abbrev pub came_in : List Moment → ℕ
came_in [] = 0
came_in (Comes event stay ∷ past) = raised (came_in past) (length (octets_of event))
came_in (_ ∷ past) = came_in past

-- the calls of the chat, the oldest first
abbrev pub talks_in : List Moment → List ChatEvent
talks_in [] = []
talks_in (Talks call ∷ past) = talks_in past ++ call ∷ []
talks_in (_ ∷ past) = talks_in past

abbrev pub is_done_by : Option ChatEnd → Bool
is_done_by None = false
is_done_by (Some end.Done) = true
is_done_by (Some end.TimedOut) = false
is_done_by (Some (end.Aborted number)) = false

abbrev pub is_script_over : Option ChatScript → List ChatEvent → Bool
is_script_over None talks = true
is_script_over (Some script) talks = is_done_by (ChatOf script talks).outcome

-- Who hears the octets: nobody without a line; the script until it is done, unless the session has a cause; then the deframer.
abbrev pub listener_in : Terms → List Moment → Listener
listener_in terms past =
    if has_ended past || not (has_line past) then Nobody
    else if is_script_over terms.config.script (talks_in past) then Framing
    else if is_some (ended_in past) then Nobody
    else Chatting (talks_in past)

abbrev pub is_nobody : Listener → Bool
is_nobody Nobody = true
is_nobody (Chatting calls) = false
is_nobody Framing = false

abbrev pub is_chatting : Listener → Bool
is_chatting Nobody = false
is_chatting (Chatting calls) = true
is_chatting Framing = false

abbrev pub is_framing : Listener → Bool
is_framing Nobody = false
is_framing (Chatting calls) = false
is_framing Framing = true

-- the calls of LCP
abbrev pub calls_in : List Moment → List LcpCall
calls_in [] = []
calls_in (Negotiates call ∷ past) = call ∷ calls_in past
calls_in (_ ∷ past) = calls_in past

-- The receiving map in force: in Opened what was agreed on as that was entered, else the default.
abbrev pub map_in : LcpWish → List LcpCall → ℕ
map_in wish [] = map_by None
map_in wish (call ∷ calls) =
    if is_open_in wish (call ∷ calls)
    then (if is_open_in wish calls then map_in wish calls else map_by (agreed_after wish (call ∷ calls)))
    else map_by None

-- the octets that are heard, in their order, each with the map in force at it
abbrev pub stream_in : Terms → List Moment → List Received
stream_in terms [] = []
stream_in terms (Hears octet ∷ past) = stream_in terms past ++ (octet, map_in terms.wish (calls_in past)) ∷ []
stream_in terms (_ ∷ past) = stream_in terms past

-- how often LCP has entered Opened
abbrev pub is_entering : LcpWish → LcpCall → List LcpCall → Bool
is_entering wish call calls = is_open_in wish (call ∷ calls) && not (is_open_in wish calls)

abbrev pub entered_in : LcpWish → List LcpCall → ℕ
entered_in wish [] = 0
entered_in wish (call ∷ calls) = if is_entering wish call calls then entered_in wish calls + 1 else entered_in wish calls

-- the calls of the present phase of authentication: those since LCP entered Opened, and none while it isn't there
abbrev pub proofs_in : LcpWish → List Moment → List PhaseAt
proofs_in wish [] = []
proofs_in wish (Proves call ∷ past) = call ∷ proofs_in wish past
proofs_in wish (Negotiates call ∷ past) =
    if is_open_in wish (call ∷ calls_in past) && is_open_in wish (calls_in past) then proofs_in wish past else []
proofs_in wish (_ ∷ past) = proofs_in wish past

-- What the phase is about. The link's generator gives LCP's two words as the line comes, and four for the challenge of each opening.
abbrev pub setting_by : Terms → ℕ → Agreed → Setting
setting_by terms entered agreed = record {
  peer_proves = agreed.peer_proves;
  we_prove = agreed.we_prove;
  config = auth_config terms.config;
  challenge = challenge_of (state_after (2 + 4 * (entered - 1)) terms.words);
}

abbrev pub proving_by : Terms → Option Agreed → ℕ → List PhaseAt → Option AuthPart
proving_by terms None entered calls = None
proving_by terms (Some agreed) entered calls = Some (record { setting = setting_by terms entered agreed; calls = calls })

abbrev pub agreed_at : Terms → List Moment → Option Agreed
agreed_at terms past = agreed_after terms.wish (calls_in past)

-- the phase of authentication, in Opened alone
abbrev pub proving_in : Terms → List Moment → Option AuthPart
proving_in terms past = proving_by terms (agreed_at terms past) (entered_in terms.wish (calls_in past)) (proofs_in terms.wish past)

abbrev pub outcome_by : Option AuthPart → AuthNow
outcome_by None = stands.Going
outcome_by (Some part) = outcome_in part.setting part.calls

abbrev pub outcome_at : Terms → List Moment → AuthNow
outcome_at terms past = outcome_by (proving_in terms past)

abbrev pub phase_at : Terms → List Moment → LinkPhase
phase_at terms past = phase_by (is_open_in terms.wish (calls_in past)) (has_passed (outcome_at terms past))

-- WHAT IS ASKED

-- Of LCP, or of authentication, that a packet is heard; that a frame is posted, or its protocol rejected; that a phase of authentication begins; or nothing.
pub data Asked : Type 0 where
  Nothing_asked : Asked
  To_hear : (packet : Packet) → Asked
  To_prove : (protocol : ℕ) → (packet : Packet) → Asked
  To_post : (protocol : ℕ) → (information : List ℕ) → Asked
  To_reject : (protocol : ℕ) → (information : List ℕ) → Asked
  To_begin : Asked

abbrev pub is_asked : Asked → Bool
is_asked Nothing_asked = false
is_asked _ = true

abbrev pub hear : Option Packet → Asked
hear None = Nothing_asked
hear (Some packet) = To_hear packet

abbrev pub prove : ℕ → Option Packet → Asked
prove protocol None = Nothing_asked
prove protocol (Some packet) = To_prove protocol packet

abbrev pub asked_as : Treatment → ℕ → List ℕ → Asked
asked_as ToLcp protocol information = hear (packet_in information)
asked_as ToAuth protocol information = prove protocol (packet_in information)
asked_as ToTable protocol information = To_post protocol information
asked_as ToReject protocol information = To_reject protocol information
asked_as Discarded protocol information = Nothing_asked

abbrev pub asked_by : LinkPhase → Option Agreed → Heard → Asked
asked_by phase agreed Nothing = Nothing_asked
asked_by phase agreed (Dropped fault) = Nothing_asked
asked_by phase agreed (Frame protocol information) = asked_as (Phase phase agreed protocol) protocol information

abbrev pub last_of : List Heard → Heard
last_of [] = Nothing
last_of (heard ∷ []) = heard
last_of (heard ∷ next ∷ rest) = last_of (next ∷ rest)

-- a post of the table that is to be rejected, in a stay
abbrev pub asked_by_event : Event → Option ℕ → Asked
asked_by_event (FromTable (Reject protocol information)) (Some stay) = To_reject protocol information
asked_by_event _ _ = Nothing_asked

-- What the newest moment asks: an octet, by the frame that it ends; an event; a call of LCP that enters Opened.
abbrev pub asked_in : Terms → List Moment → Asked
asked_in terms [] = Nothing_asked
asked_in terms (Comes event stay ∷ past) = asked_by_event event stay
asked_in terms (Hears octet ∷ past) =
    if is_flag octet
    then asked_by (phase_at terms past) (agreed_at terms past) (last_of (Frames (stream_in terms (Hears octet ∷ past))))
    else Nothing_asked
asked_in terms (Negotiates call ∷ past) = if is_entering terms.wish call (calls_in past) then To_begin else Nothing_asked
asked_in terms (_ ∷ past) = Nothing_asked

-- WHY A SESSION ENDS

abbrev pub is_cause : Option Cause → Cause → Bool
is_cause None c = false
is_cause (Some other) c = other.number == c.number && other.detail == c.detail

-- An event: a dial that failed, the line's end or a fault, a signal, a post of the table.
abbrev pub reason_of_event : Event → Option Cause
reason_of_event Begin = None
reason_of_event (Dialled link session failed came) = if came then None else Some dial_failed
reason_of_event (Bytes link session offset octets) = None
reason_of_event (LineOver link session read.End) = Some line_ended
reason_of_event (LineOver link session read.Failed) = Some read_failed
reason_of_event (LineOver link session read.Left) = None
reason_of_event (Flushed link session sent.All) = None
reason_of_event (Flushed link session (sent.Failed count)) = Some write_failed
reason_of_event (Tick now) = None
reason_of_event (Signal Hup) = Some (signalled 1)
reason_of_event (Signal Int) = Some (signalled 2)
reason_of_event (Signal Term) = Some (signalled 3)
reason_of_event (Signal Usr1) = None
reason_of_event (Signal Usr2) = None
reason_of_event (FromTable (Refused stay reason)) = Some (join_refused reason)
reason_of_event (FromTable (Close stay unit why elapsed live)) = Some (closed_by why)
reason_of_event (FromTable (Member stay unit live)) = None
reason_of_event (FromTable (Send protocol information)) = None
reason_of_event (FromTable (Reject protocol information)) = None
reason_of_event (FromTable Wake) = None
reason_of_event (HookOver target job not_started answer) = None

-- How the chat ended.
abbrev pub cause_by_chat : ChatNow → Option Cause
cause_by_chat Going = None
cause_by_chat (Sent octets) = None
cause_by_chat Done = None
cause_by_chat TimedOut = Some chat_timed_out
cause_by_chat (Aborted number) = Some (chat_aborted number)

-- How authentication ended.
abbrev pub cause_by_outcome : AuthNow → Option Cause
cause_by_outcome stands.Going = None
cause_by_outcome (stands.Passed peer allow) = None
cause_by_outcome stands.PeerFailed = Some peer_failed
cause_by_outcome stands.WeFailed = Some we_failed

-- What a call of LCP was, by the automaton before it: the last timeout of a request; a rejection of what it can't do without; the peer's end of an open link.
abbrev pub cause_by_fsm : Automaton → Option FsmEvent → Option Cause
cause_by_fsm before None = None
cause_by_fsm before (Some Timeout) = if nat_le 6 before.state && (nat_le before.state 8 && before.counter == 0) then Some gave_up else None
cause_by_fsm before (Some RxjBad) = if nat_le 2 before.state then Some refused else None
cause_by_fsm before (Some Rtr) = if before.state == 9 then Some peer_ended else None
cause_by_fsm before (Some _) = None

abbrev pub is_ticks : Call (Unit {0}) → Bool
is_ticks (by_itself own) = false
is_ticks ticks = true
is_ticks (hears packet a) = false
is_ticks (rejects protocol information) = false

-- What it found: a protocol without which the link is of no use was refused; ten requests in a row had our own magic number; the peer refused to prove itself; as many
-- echoes as may be had gone unanswered.
abbrev pub cause_found : Terms → LcpCall → List LcpCall → Option Cause
cause_found terms call calls =
    if is_some (network_refused_at call.call terms.wish calls) then Some refused
    else if nat_le 10 (in_a_row (own_requests terms.wish (branch_of terms.words) (call ∷ calls))) then Some (cause 5 10)
    else if auth_refused_at call.call calls then Some peer_failed
    else if is_ticks call.call && (is_none call.happened.event && finds_lost terms.wish (branch_of terms.words) calls call.happened.now) then Some (cause 9 terms.wish.echo_failure)
    else None

abbrev pub first_of : Option Cause → Option Cause → Option Cause
first_of None other = other
first_of (Some c) other = Some c

abbrev pub cause_by_lcp : Terms → LcpCall → List LcpCall → Option Cause
cause_by_lcp terms call calls =
    first_of (cause_by_fsm (automaton_after terms.wish.limits (happened_in calls)) call.happened.event) (cause_found terms call calls)

-- The reason that the newest moment is.
abbrev pub reason_in : Terms → List Moment → Option Cause
reason_in terms [] = None
reason_in terms (Comes event stay ∷ past) = reason_of_event event
reason_in terms (Talks call ∷ past) = cause_by_chat (chat_answer terms.config.script (talks_in past) call)
reason_in terms (Hears octet ∷ past) = None
reason_in terms (Negotiates call ∷ past) = cause_by_lcp terms call (calls_in past)
reason_in terms (Proves call ∷ past) = cause_by_outcome (outcome_at terms (Proves call ∷ past))
reason_in terms (Posts protocol information ∷ past) = None
reason_in terms (Ends cause marks ∷ past) = None

-- WHAT IS DUE

abbrev pub has_reason : Terms → List Moment → Bool
has_reason terms past = is_some (reason_in terms past) && is_none (ended_in past)

abbrev pub is_close : Call (Unit {0}) → Bool
is_close (by_itself closes) = true
is_close _ = false

abbrev pub is_down : Call (Unit {0}) → Bool
is_down (by_itself goes_down) = true
is_down _ = false

-- A Close: the session has its cause, and no Close has come since.
abbrev pub no_close_since : List Moment → Bool
no_close_since [] = false
no_close_since (Ends cause marks ∷ past) = true
no_close_since (Negotiates call ∷ past) = if is_close call.call then false else no_close_since past
no_close_since (_ ∷ past) = no_close_since past

abbrev pub close_due : List Moment → Bool
close_due past = has_line past && no_close_since past

-- A Down: the line has ended with the newest event and not before, and no Down has come since.
abbrev pub down_due : List Moment → Bool
down_due [] = false
down_due (Comes event stay ∷ past) = ends_line event && not (has_ended past)
down_due (Negotiates call ∷ past) = if is_down call.call then false else down_due past
down_due (_ ∷ past) = down_due past

-- Open, and then Up: frames are heard, and LCP has had no call but Open.
abbrev pub is_none_of : {A : Type 0} → List A → Bool
is_none_of [] = true
is_none_of (x ∷ xs) = false

abbrev pub is_before_up : List LcpCall → Bool
is_before_up [] = true
is_before_up (call ∷ calls) = is_none_of calls

abbrev pub opening_due : Terms → List Moment → Bool
opening_due terms past = is_framing (listener_in terms past) && is_before_up (calls_in past)

-- LCP's timer has come with the newest event, a tick, and LCP wasn't called since.
abbrev pub tick_due : Terms → List Moment → Bool
tick_due terms [] = false
tick_due terms (Comes event stay ∷ past) = is_tick event && has_come (time_in terms (Comes event stay ∷ past)) (deadline_after terms.wish (calls_in past))
tick_due terms (Negotiates call ∷ past) = false
tick_due terms (_ ∷ past) = tick_due terms past

-- The phase looks at the time once at each tick, where there is one.
abbrev pub has_proved : List Moment → Bool
has_proved [] = false
has_proved (Comes event stay ∷ past) = false
has_proved (Proves call ∷ past) = true
has_proved (_ ∷ past) = has_proved past

abbrev pub wait_due : Terms → List Moment → Bool
wait_due terms past = is_now is_tick past && (is_some (agreed_at terms past) && not (has_proved past))

-- The script is called without an octet as it begins, and once at each tick.
abbrev pub has_talked : List Moment → Bool
has_talked [] = false
has_talked (Comes event stay ∷ past) = false
has_talked (Talks call ∷ past) = true
has_talked (_ ∷ past) = has_talked past

abbrev pub talk_due : Terms → List Moment → Bool
talk_due terms past = is_chatting (listener_in terms past) && (not (has_talked past) && (is_none_of (talks_in past) || is_now is_tick past))

-- Nothing is asked, no reason waits for its cause, and no Close is due; and nothing else is due either.
abbrev pub is_free : Terms → List Moment → Bool
is_free terms past = not (is_asked (asked_in terms past)) && (not (has_reason terms past) && not (close_due past))

abbrev pub is_done : Terms → List Moment → Bool
is_done terms past =
    is_free terms past
    && (not (down_due past) && (not (opening_due terms past) && (not (tick_due terms past) && (not (wait_due terms past) && not (talk_due terms past)))))

-- IN WHICH ORDER

-- A call of LCP that nothing asks is one that is due. A line that ends gives it Down before the cause closes it.
abbrev pub IsDue : Terms → Call (Unit {0}) → List Moment → Type 0
IsDue terms (by_itself opens) past = (opening_due terms past ≡ true) × (is_none_of (calls_in past) ≡ true)
IsDue terms (by_itself comes_up) past = (opening_due terms past ≡ true) × (is_none_of (calls_in past) ≡ false)
IsDue terms (by_itself goes_down) past = down_due past ≡ true
IsDue terms (by_itself closes) past = (close_due past ≡ true) × (down_due past ≡ false)
IsDue terms ticks past = tick_due terms past ≡ true
IsDue terms (hears packet a) past = ⊥
IsDue terms (rejects protocol information) past = ⊥

abbrev pub LcpAnswers : Terms → Asked → Call (Unit {0}) → List Moment → Type 0
LcpAnswers terms Nothing_asked call past = IsDue terms call past
LcpAnswers terms (To_hear packet) call past = call ≡ hears packet tt
LcpAnswers terms (To_prove protocol packet) call past = ⊥
LcpAnswers terms (To_post protocol information) call past = ⊥
LcpAnswers terms (To_reject protocol information) call past = call ≡ rejects protocol information
LcpAnswers terms To_begin call past = ⊥

-- Each call has the link's time, but that a rejection has none.
abbrev pub time_of : Call (Unit {0}) → ℕ → ℕ
time_of (by_itself own) now = now
time_of ticks now = now
time_of (hears packet a) now = now
time_of (rejects protocol information) now = 0

abbrev pub PhaseAnswers : Terms → Asked → PhaseCall → List Moment → Type 0
PhaseAnswers terms Nothing_asked call past = (call ≡ waits) × (wait_due terms past ≡ true) × (tick_due terms past ≡ false)
PhaseAnswers terms (To_hear packet) call past = ⊥
PhaseAnswers terms (To_prove protocol packet) call past = call ≡ takes protocol packet terms.secrets
PhaseAnswers terms (To_post protocol information) call past = ⊥
PhaseAnswers terms (To_reject protocol information) call past = ⊥
PhaseAnswers terms To_begin call past = call ≡ starts terms.secrets

-- The script's octets are those of a piece; without one it is called where that is due.
abbrev pub MayTalk : Terms → Option ℕ → List Moment → Type 0
MayTalk terms None past = (is_free terms past ≡ true) × (talk_due terms past ≡ true)
MayTalk terms (Some octet) past = (is_done terms past ≡ true) × (is_chatting (listener_in terms past) ≡ true) × (is_now is_piece past ≡ true)

-- A session's cause has its reason in the moment just before it; or the session has nine hundred marks, and nothing is left to do.
abbrev pub has_many : Terms → Cause → ℕ → List Moment → Bool
has_many terms c marks past = is_cause (Some too_many_marks) c && (nat_le MOST_MARKS marks && is_done terms past)

abbrev pub HasReason : Terms → Cause → ℕ → List Moment → Type 0
HasReason terms c marks past = (is_none (ended_in past) && (is_cause (reason_in terms past) c || has_many terms c marks past)) ≡ true

-- An event is of this link and session; a piece stands behind the octets that came; a reading is left where the session has its cause; and a post that names a stay names
-- the present one.
abbrev pub IsOf : Terms → Event → Option ℕ → List Moment → Type 0
IsOf terms Begin stay past = ⊤
IsOf terms (Dialled link session failed came) stay past = (link ≡ terms.link) × (session ≡ terms.session)
IsOf terms (Bytes link session offset octets) stay past = (link ≡ terms.link) × (session ≡ terms.session) × (offset ≡ came_in past)
IsOf terms (LineOver link session read.End) stay past = (link ≡ terms.link) × (session ≡ terms.session)
IsOf terms (LineOver link session read.Failed) stay past = (link ≡ terms.link) × (session ≡ terms.session)
IsOf terms (LineOver link session read.Left) stay past = (link ≡ terms.link) × (session ≡ terms.session) × (is_some (ended_in past) ≡ true)
IsOf terms (Flushed link session how) stay past = (link ≡ terms.link) × (session ≡ terms.session)
IsOf terms (Tick now) stay past = ⊤
IsOf terms (Signal word) stay past = ⊤
IsOf terms (FromTable (Member n unit live)) stay past = stay ≡ Some n
IsOf terms (FromTable (Refused n reason)) stay past = stay ≡ Some n
IsOf terms (FromTable (Close n unit why elapsed live)) stay past = stay ≡ Some n
IsOf terms (FromTable (Send protocol information)) stay past = ⊤
IsOf terms (FromTable (Reject protocol information)) stay past = ⊤
IsOf terms (FromTable Wake) stay past = ⊤
IsOf terms (HookOver target job not_started answer) stay past = ⊤

-- Each moment may come where it does: what is asked and due is done before an event or an octet comes.
abbrev pub MayCome : Terms → Moment → List Moment → Type 0
MayCome terms (Comes event stay) past = (is_done terms past ≡ true) × IsOf terms event stay past
MayCome terms (Talks call) past = MayTalk terms call.octet past × (call.at ≡ time_in terms past)
MayCome terms (Hears octet) past = (is_done terms past ≡ true) × (is_framing (listener_in terms past) ≡ true) × (is_now is_piece past ≡ true)
MayCome terms (Negotiates call) past =
    (has_reason terms past ≡ false) × LcpAnswers terms (asked_in terms past) call.call past × (call.happened.now ≡ time_of call.call (time_in terms past))
MayCome terms (Proves call) past =
    (has_reason terms past ≡ false) × (close_due past ≡ false) × PhaseAnswers terms (asked_in terms past) call.call past × (call.now ≡ time_in terms past)
MayCome terms (Posts protocol information) past = (asked_in terms past ≡ To_post protocol information) × (close_due past ≡ false)
MayCome terms (Ends cause marks) past = HasReason terms cause marks past

abbrev pub InOrder : Terms → List Moment → Type 0
InOrder terms [] = ⊤
InOrder terms (moment ∷ past) = MayCome terms moment past × InOrder terms past

-- WHAT A LINK HAS COME TO

abbrev pub lcp_by : Terms → Bool → List LcpCall → Option LcpPart
lcp_by terms false calls = None
lcp_by terms true calls = Some (record { words = branch_of terms.words; calls = calls })

abbrev pub words_by : Bool → ℕ
words_by false = 0
words_by true = 2

-- The link has come to this by what happened since its attempt: its time, generator, listener, deframer, map, LCP, phase, counts and cause are what looking back gives,
-- and each call of LCP is lawful by the calls before it (RFC 1661, sections 4.3 to 4.6).
pub record Reached (terms : Terms) (s : LinkState) (past : List Moment) : Type 0 where
  pub link : s.id ≡ terms.link
  pub session : (control s).session ≡ terms.session
  pub config : s.config ≡ terms.config
  pub wish : s.wish ≡ terms.wish
  pub secrets : s.secrets ≡ terms.secrets
  pub time : s.time ≡ time_in terms past
  pub words : s.words ≡ state_after (words_by (has_line past) + 4 * entered_in terms.wish (calls_in past)) terms.words
  pub listener : s.listener ≡ listener_in terms past
  pub deframer : Deframes s.deframer (stream_in terms past)
  pub map : s.deframer.map ≡ map_in terms.wish (calls_in past)
  pub lcp : s.lcp ≡ lcp_by terms (has_line past) (calls_in past)
  pub lawful : AllLawful (rules terms.wish (branch_of terms.words)) (calls_in past)
  pub auth : s.auth ≡ proving_in terms past
  pub counts : s.counts ≡ counts_from terms.counts (Frames (stream_in terms past))
  pub cause : (control s).cause ≡ ended_in past
  pub marks : since_then s.log.past ≡ marks_then past
  pub live : (control s).was_live ≡ was_live_at past
  pub taken : s.taken ≡ came_in past
  pub order : InOrder terms past

-- And nothing stands undone; a session that nothing has ended has few marks.
pub record HearsAll (terms : Terms) (s : LinkState) (past : List Moment) : Type 0 where
  pub reached : Reached terms s past
  pub done : is_done terms past ≡ true
  pub few : is_none (ended_in past) ≡ true → nat_lt (control s).since MOST_MARKS ≡ true

-- WHAT IS POSTED AND SENT

abbrev pub is_hands : UpValue → Bool
is_hands (Asks join) = false
is_hands (Hands protocol information) = true
is_hands (Leaves stay) = false

-- the frames that wait for the table, without Joins and Leaves, which take no room from them
abbrev pub frames_only : Ring UpValue → Ring UpValue
frames_only ring = record ring { waiting = filter is_hands ring.waiting }

abbrev pub posted_in : Ring UpValue → List Moment → Ring UpValue
posted_in ring [] = ring
posted_in ring (Posts protocol information ∷ since) = put_frame protocol information (posted_in ring since)
posted_in ring (_ ∷ since) = posted_in ring since

-- What a moment sends on the line, each thing whole: a post that is to be sent in a stay, what the script sends, the packets of LCP and of authentication. Frames
-- are written by what is agreed on behind the moment.
abbrev pub sent_by_event : SendSettings → Event → Option ℕ → List (List ℕ)
sent_by_event settings (FromTable (Send protocol information)) (Some stay) = encoding settings protocol information ∷ []
sent_by_event settings _ _ = []

abbrev pub sent_by_chat : ChatNow → List (List ℕ)
sent_by_chat Going = []
sent_by_chat (Sent octets) = octets ∷ []
sent_by_chat Done = []
sent_by_chat TimedOut = []
sent_by_chat (Aborted number) = []

abbrev pub packets_told : Option AuthPart → PhaseAt → List PhasePacket
packets_told None call = []
packets_told (Some part) call = (told_at part.setting call part.calls).packets

abbrev pub sent_at : Terms → Moment → List Moment → List (List ℕ)
sent_at terms (Comes event stay) past = sent_by_event (settings_by (agreed_at terms past)) event stay
sent_at terms (Talks call) past = sent_by_chat (chat_answer terms.config.script (talks_in past) call)
sent_at terms (Hears octet) past = []
sent_at terms (Negotiates call) past = map (λ packet. encoding (settings_by (agreed_at terms (Negotiates call ∷ past))) LCP (laid_packet packet)) call.happened.packets
sent_at terms (Proves call) past = map (λ p. encoding (settings_by (agreed_at terms past)) p.protocol (laid_packet p.packet)) (packets_told (proving_in terms past) call)
sent_at terms (Posts protocol information) past = []
sent_at terms (Ends cause marks) past = []

abbrev pub put_all : List (List ℕ) → Ring ℕ → Ring ℕ
put_all [] ring = ring
put_all (octets ∷ more) ring = put_all more (put_out octets ring)

abbrev pub out_after : Terms → Ring ℕ → List Moment → List Moment → Ring ℕ
out_after terms ring [] past = ring
out_after terms ring (moment ∷ since) past = put_all (sent_at terms moment (since ++ past)) (out_after terms ring since past)

-- HOW A SESSION GOES ON

-- of what was added, the events with their stays, and the octets in their order
pub record Came : Type 0 where
  pub event : Event
  pub stay : Option ℕ

abbrev pub events_in : List Moment → List Came
events_in [] = []
events_in (Comes event stay ∷ past) = events_in past ++ record { event = event; stay = stay } ∷ []
events_in (_ ∷ past) = events_in past

abbrev pub one_or_none : Option ℕ → List ℕ
one_or_none None = []
one_or_none (Some octet) = octet ∷ []

abbrev pub octets_in : List Moment → List ℕ
octets_in [] = []
octets_in (Hears octet ∷ past) = octets_in past ++ octet ∷ []
octets_in (Talks call ∷ past) = octets_in past ++ one_or_none call.octet
octets_in (_ ∷ past) = octets_in past

-- By one event the session goes on: this event comes, and of the octets of a piece all that come while somebody hears them. What is behind it is over, if it is, by the rules of
-- a session's end alone.
pub record GoesOn (terms : Terms) (old : LinkState) (past : List Moment) (event : Event) (new : LinkState) : Type 0 where
  pub reached : LinkState
  pub since : List Moment
  pub hears : HearsAll terms reached (since ++ past)
  pub events_are : events_in since ≡ record { event = event; stay = (control old).stay } ∷ []
  pub unheard : List ℕ
  pub octets_are : octets_in since ++ unheard ≡ octets_of event
  pub all : is_nobody (listener_in terms (since ++ past)) ≡ false → unheard ≡ []
  pub ups : frames_only reached.up ≡ posted_in (frames_only old.up) since
  pub outs : reached.out ≡ out_after terms old.out since past
  pub new_is : new ≡ session_over reached
