-- A relation that each small change of what a link hears and sends keeps is kept by the rules that are made of them.
use Rattle.std.proofs.Common.{ℕ, ◌+◌, Bool, true, false, Option, None, Some, List, [], ◌∷◌, ◌++◌, is_none, ◌&&◌, not}
use Rattle.ppp_packet.specs.declared.packet.Packet.{Packet}
use Rattle.ppp_packet.specs.declared.agreed.Agreed.{Agreed}
use Rattle.ppp_chat.specs.declared.event.Event.{Event as ChatEvent}
use Rattle.ppp_chat.specs.declared.now.ChatNow.{ChatNow}
use Rattle.ppp_chat.specs.declared.now.ChatNow.TheVariants.{Going as going, Sent as sends, Done as done, TimedOut as timed_out, Aborted as aborted}
use Rattle.ppp_chat.specs.Script.{ChatScript}
use Rattle.ppp_control.specs.Rules.{Call, by_itself, closes}
use Rattle.ppp_auth.specs.Outcome.{outcome_in}
use Rattle.ppp_auth.specs.Phase.{told_at}
use Rattle.ppp_dial.specs.declared.call.CallKind.TheVariants as call
use Rattle.ppp_hdlc.specs.Deframing.{heard_at}
use Rattle.ppp_link_rules.specs.Rings.{has_control}
use Rattle.ppp_packet.specs.PacketOf.{packet_in}
use Rattle.ppp_hdlc.specs.declared.heard.Heard.{Heard}
use Rattle.ppp_hdlc.specs.declared.heard.Heard.TheVariants as heard
use Rattle.ppp_lcp.specs.declared.out.LcpOut.{LcpOut}
use Rattle.ppp_auth.specs.declared.out.PhaseOut.{PhaseOut}
use Rattle.ppp_auth.specs.declared.out.PhasePacket.{PhasePacket}
use Rattle.ppp_auth.specs.declared.outcome.AuthNow.{AuthNow}
use Rattle.ppp_auth.specs.declared.outcome.AuthNow.TheVariants.{Going, Passed, PeerFailed, WeFailed}
use Rattle.ppp_auth.specs.Setting.{PhaseAt, PhaseCall}
use Rattle.ppp_timer.specs.declared.slot.Slot.TheVariants as slot
use Rattle.ppp_link_rules.specs.declared.cause.Cause.{Cause}
use Rattle.ppp_link_rules.specs.Authentication.{asked_by, asked_if, auth_opened, called_part as phase_part, ended_by_outcome, join_tried, new_phase, opened_for, phase_begun, phase_begun_by, phase_called, phase_heard, phase_told, with_phase}
use Rattle.ppp_link_rules.specs.Ending.{auth_closed, caused, first_caused, is_first, closed_marked, closed_if, closed_part, closing, ended_by, ended_if, first_caused_by, lcp_closed, lcp_left, left_by, left_if, with_call}
use Rattle.ppp_link_rules.specs.Hearing.{chat_answer, has_many, chat_called, chat_told, chat_ticked_by, ended_if_many, frame_taken, heard_taken, link_opened, looked_after, octet_taken, octet_to, octets_taken, talk_begun_by, treated, with_fed}
use Rattle.ppp_link_rules.specs.LcpAnswer.{lcp_answer}
use Rattle.ppp_link_rules.specs.LcpCalls.{answered, cause_of, followed, open_marked, called_part, followed_by, lcp_called, lcp_entered, lcp_heard, protocol_rejected}
use Rattle.ppp_link_rules.specs.LinkState.{LinkState, agreed, control, has_passed, is_busy, is_open, lcp_state, outcome_of, AuthPart, LcpPart, Listener, Nobody, Chatting, Framing}
use Rattle.ppp_mark.specs.Marks.{asked_mark, cause_mark, lcp_closed_mark, lcp_open_mark, left_mark, live_mark, member_mark}
use Rattle.ppp_link_rules.specs.Marking.{marked}
use Rattle.ppp_link_rules.specs.Phase.{Phase, may_ask, phase_by, Treatment, ToLcp, ToAuth, ToTable, ToReject, Discarded}
use Rattle.ppp_link_rules.specs.Posts.{live_if, made_member, member_marked, member_if, rejected_in, sent_in}
use Rattle.ppp_link_rules.specs.Sending.{frame_sent, packets_sent, phase_sent}
use Rattle.ppp_base.specs.RingAfter.{Ring}
use Rattle.ppp_hdlc.specs.Deframing.{Deframing}
use Rattle.ppp_link_rules.specs.declared.counts.FrameCounts.{FrameCounts}
use Rattle.ppp_link_rules.specs.UpValue.{UpValue}

-- It holds of no change and of one change behind another, of each field that these rules write, of each of their marks, and as authentication opens and closes.
pub record Kept (R : LinkState → LinkState → Type 0) : Type 0 where
  pub same : (s : LinkState) → R s s
  pub then : {a b c : LinkState} → R a b → R b c → R a c
  pub out : (s : LinkState) (ring : Ring ℕ) → R s (record s { out = ring })
  pub up : (s : LinkState) (ring : Ring UpValue) → R s (record s { up = ring })
  pub deframer : (s : LinkState) (now : Deframing) → R s (record s { deframer = now })
  pub counts : (s : LinkState) (now : FrameCounts) → R s (record s { counts = now })
  pub listener : (s : LinkState) (who : Listener) → R s (record s { listener = who })
  pub lcp : (s : LinkState) (part : Option LcpPart) → R s (record s { lcp = part })
  pub auth : (s : LinkState) (part : Option AuthPart) → R s (record s { auth = part })
  pub words : (s : LinkState) (now : ℕ) → R s (record s { words = now })
  pub cause : (c : Cause) (s : LinkState) → R s (marked (λ time. cause_mark time c.number c.detail (control s).session) s)
  pub opened : (s : LinkState) → R s (marked (λ time. lcp_open_mark time ((control s).openings + 1)) s)
  pub closed : (s : LinkState) → R s (marked (λ time. lcp_closed_mark time (control s).openings) s)
  pub asked : (s : LinkState) → R s (marked (λ time. asked_mark time ((control s).stays + 1)) s)
  pub left : (stay : ℕ) (s : LinkState) → R s (marked (λ time. left_mark time stay) s)
  pub member : (unit stay : ℕ) (s : LinkState) → R s (marked (λ time. member_mark time unit stay) s)
  pub live : (unit stay : ℕ) (s : LinkState) → R s (marked (λ time. live_mark time unit stay) s)
  pub auth_closed : (s : LinkState) → R s (auth_closed s)
  pub auth_opened : (peer : List ℕ) (s : LinkState) → R s (auth_opened peer s)

module _ {R : LinkState → LinkState → Type 0} (k : Kept R) where
  -- SENDING

  pub frame-sent : (protocol : ℕ) (information : List ℕ) (s : LinkState) → R s (frame_sent protocol information s)
  unfolding frame_sent
  frame-sent protocol information s = k.out s _

  pub packets-sent : (packets : List Packet) (s : LinkState) → R s (packets_sent packets s)
  packets-sent [] s = k.same s
  packets-sent (p ∷ packets) s = k.then (frame-sent _ _ s) (packets-sent packets _)

  pub phase-sent : (packets : List PhasePacket) (s : LinkState) → R s (phase_sent packets s)
  phase-sent [] s = k.same s
  phase-sent (p ∷ packets) s = k.then (frame-sent _ _ s) (phase-sent packets _)

  -- ENDING

  pub is-caused : (c : Cause) (s : LinkState) → R s (caused c s)
  unfolding caused
  is-caused c s = k.then (k.cause c s) (k.listener _ _)

  pub first-caused : (c : Option Cause) (first : Bool) (s : LinkState) → R s (first_caused_by c first s)
  first-caused None first s = k.same s
  first-caused (Some c) true s = is-caused c s
  first-caused (Some c) false s = k.same s

  pub left-by : (stay : Option ℕ) (s : LinkState) → R s (left_by stay s)
  left-by None s = k.same s
  left-by (Some stay) s = k.then (k.left stay s) (k.up _ _)

  pub lcp-left : (s : LinkState) → R s (lcp_left s)
  unfolding lcp_left
  lcp-left s = k.then {b = closed_marked s} (k.then (k.closed s) (k.deframer _ _)) (k.then (k.auth_closed _) (left-by _ _))

  pub left-if : (b : Bool) (s : LinkState) → R s (left_if b s)
  left-if true s = lcp-left s
  left-if false s = k.same s

  pub is-closing : (was_open : Bool) (out : LcpOut) (part : LcpPart) (s : LinkState) → R s (closing was_open out part s)
  is-closing was_open out part s = k.then (k.then {b = with_call (by_itself closes) s.time out part s} (k.lcp s _) (packets-sent out.packets _)) (left-if was_open _)

  pub closed-part : (part : Option LcpPart) (s : LinkState) → R s (closed_part part s)
  closed-part None s = k.same s
  closed-part (Some part) s = is-closing (is_open s) (lcp_answer s.wish part.words part.calls (by_itself closes) s.time) part s

  pub lcp-closed : (s : LinkState) → R s (lcp_closed s)
  unfolding lcp_closed
  lcp-closed s = closed-part s.lcp s

  pub closed-if : (b : Bool) (s : LinkState) → R s (closed_if b s)
  closed-if true s = lcp-closed s
  closed-if false s = k.same s

  pub ended-if : (b : Bool) (c : Cause) (s : LinkState) → R s (ended_if b c s)
  ended-if true c s = k.then (is-caused c s) (lcp-closed _)
  ended-if false c s = k.same s

  pub ended-by : (c : Cause) (s : LinkState) → R s (ended_by c s)
  unfolding ended_by
  ended-by c s = ended-if (is_busy s) c s

  -- AUTHENTICATION

  pub opened-for : (peer : Option (List ℕ)) (s : LinkState) → R s (opened_for peer s)
  opened-for None s = k.same s
  opened-for (Some peer) s = k.auth_opened peer s

  pub ended-by-outcome : (now : AuthNow) (s : LinkState) → R s (ended_by_outcome now s)
  ended-by-outcome Going s = k.same s
  ended-by-outcome (Passed peer allow) s = k.same s
  ended-by-outcome PeerFailed s = ended-by _ s
  ended-by-outcome WeFailed s = ended-by _ s

  pub phase-told : (out : PhaseOut) (now : AuthNow) (s : LinkState) → R s (phase_told out now s)
  phase-told out now s = k.then (phase-sent out.packets s) (k.then (opened-for out.peer_passed _) (ended-by-outcome now _))

  pub phase-part : (call : PhaseCall) (part : Option AuthPart) (s : LinkState) → R s (phase_part call part s)
  phase-part call None s = k.same s
  phase-part call (Some part) s =
      let c : PhaseAt = record { now = s.time; call = call } in
      k.then {b = with_phase c part s} (k.auth s _)
      (phase-told (told_at part.setting c part.calls) (outcome_in part.setting (c ∷ part.calls)) (with_phase c part s))

  pub phase-called : (call : PhaseCall) (s : LinkState) → R s (phase_called call s)
  unfolding phase_called
  phase-called call s = phase-part call s.auth s

  pub phase-begun-by : (terms : Option Agreed) (s : LinkState) → R s (phase_begun_by terms s)
  phase-begun-by None s = k.same s
  phase-begun-by (Some terms) s = k.then {b = new_phase terms s} (k.then (k.auth s _) (k.words _ _)) (phase-called _ _)

  pub phase-begun : (s : LinkState) → R s (phase_begun s)
  unfolding phase_begun
  phase-begun s = phase-begun-by (agreed s) s

  pub phase-heard : (protocol : ℕ) (packet : Option Packet) (s : LinkState) → R s (phase_heard protocol packet s)
  phase-heard protocol None s = k.same s
  phase-heard protocol (Some packet) s = phase-called _ s

  pub asked-by : (now : AuthNow) (terms : Option Agreed) (s : LinkState) → R s (asked_by now terms s)
  asked-by Going terms s = k.same s
  asked-by (Passed peer allow) None s = k.same s
  asked-by (Passed peer allow) (Some terms) s = k.then (k.asked s) (k.up _ _)
  asked-by PeerFailed terms s = k.same s
  asked-by WeFailed terms s = k.same s

  pub asked-if : (b : Bool) (s : LinkState) → R s (asked_if b s)
  asked-if true s = asked-by (outcome_of s.auth) (agreed s) s
  asked-if false s = k.same s

  pub join-tried : (s : LinkState) → R s (join_tried s)
  unfolding join_tried
  join-tried s = asked-if (may_ask (phase_by (is_open s) (has_passed (outcome_of s.auth))) (control s).stay (has_control s.up.waiting)) s

  -- LCP

  pub lcp-entered : (s : LinkState) → R s (lcp_entered s)
  unfolding lcp_entered
  lcp-entered s = k.then {b = open_marked s} (k.then (k.opened s) (k.deframer _ _)) (phase-begun _)

  pub followed-by : (was is : Bool) (s : LinkState) → R s (followed_by was is s)
  followed-by false false s = k.same s
  followed-by false true s = lcp-entered s
  followed-by true false s = lcp-left s
  followed-by true true s = k.same s

  pub is-answered : (was_open : Bool) (c : Option Cause) (out : LcpOut) (s : LinkState) → R s (answered was_open c out s)
  unfolding answered
  is-answered was_open c out s =
      let a : LinkState = first_caused c s in
      let b : LinkState = packets_sent out.packets a in
      let d : LinkState = followed was_open b in
      k.then {b = a} (first-caused c (is_busy s) s) (k.then {b = b} (packets-sent out.packets a) (k.then {b = d} (followed-by was_open (is_open b) b) (closed-if (is_first c s) d)))

  pub lcp-part : (call : Call (Unit {0})) (now : ℕ) (part : Option LcpPart) (s : LinkState) → R s (called_part call now part s)
  lcp-part call now None s = k.same s
  lcp-part call now (Some part) s = k.then {b = with_call call now (lcp_answer s.wish part.words part.calls call now) part s} (k.lcp s _) (is-answered (is_open s) (cause_of (lcp_state s) (lcp_answer s.wish part.words part.calls call now)) (lcp_answer s.wish part.words part.calls call now) (with_call call now (lcp_answer s.wish part.words part.calls call now) part s))

  pub lcp-called : (call : Call (Unit {0})) (s : LinkState) → R s (lcp_called call s)
  unfolding lcp_called
  lcp-called call s = lcp-part call s.time s.lcp s

  pub protocol-rejected : (protocol : ℕ) (information : List ℕ) (s : LinkState) → R s (protocol_rejected protocol information s)
  unfolding protocol_rejected
  protocol-rejected protocol information s = lcp-part _ 0 s.lcp s

  pub lcp-heard : (packet : Option Packet) (s : LinkState) → R s (lcp_heard packet s)
  lcp-heard None s = k.same s
  lcp-heard (Some packet) s = lcp-called _ s

  -- HEARING

  pub is-treated : (t : Treatment) (protocol : ℕ) (information : List ℕ) (s : LinkState) → R s (treated t protocol information s)
  is-treated ToLcp protocol information s = lcp-heard (packet_in information) s
  is-treated ToAuth protocol information s = phase-heard protocol (packet_in information) s
  is-treated ToTable protocol information s = k.up s _
  is-treated ToReject protocol information s = protocol-rejected protocol information s
  is-treated Discarded protocol information s = k.same s

  pub frame-taken : (protocol : ℕ) (information : List ℕ) (s : LinkState) → R s (frame_taken protocol information s)
  unfolding frame_taken
  frame-taken protocol information s = is-treated (Phase (phase_by (is_open s) (has_passed (outcome_of s.auth))) (agreed s) protocol) protocol information s

  pub ended-if-many : (b : Bool) (s : LinkState) → R s (ended_if_many b s)
  ended-if-many true s = ended-by _ s
  ended-if-many false s = k.same s

  pub looked-after : (s : LinkState) → R s (looked_after s)
  unfolding looked_after
  looked-after s = k.then {b = join_tried s} (join-tried s) (ended-if-many (has_many (join_tried s)) (join_tried s))

  pub heard-taken : (h : Heard) (s : LinkState) → R s (heard_taken h s)
  heard-taken heard.Nothing s = k.same s
  heard-taken (heard.Frame protocol information) s = k.then (frame-taken protocol information s) (looked-after _)
  heard-taken (heard.Dropped fault) s = looked-after s

  pub link-opened : (s : LinkState) → R s (link_opened s)
  unfolding link_opened
  link-opened s = k.then {b = record s { listener = Framing }} (k.listener s _) (k.then (lcp-called _ _) (lcp-called _ _))

  pub chat-told : (now : ChatNow) (s : LinkState) → R s (chat_told now s)
  chat-told going s = k.same s
  chat-told (sends octets) s = k.out s _
  chat-told done s = link-opened s
  chat-told timed_out s = ended-by _ s
  chat-told (aborted number) s = ended-by _ s

  pub chat-called : (event : ChatEvent) (calls : List ChatEvent) (s : LinkState) → R s (chat_called event calls s)
  unfolding chat_called
  chat-called event calls s = k.then {b = record s { listener = Chatting (calls ++ event ∷ []) }} (k.listener s _) (chat-told (chat_answer s.config.script calls event) (record s { listener = Chatting (calls ++ event ∷ []) }))

  pub talk-begun : (script : Option ChatScript) (s : LinkState) → R s (talk_begun_by script s)
  talk-begun None s = link-opened s
  talk-begun (Some script) s = chat-called _ _ s

  pub octet-to : (l : Listener) (octet : ℕ) (s : LinkState) → R s (octet_to l octet s)
  octet-to Nobody octet s = k.same s
  octet-to (Chatting calls) octet s = chat-called _ calls s
  octet-to Framing octet s = k.then {b = with_fed octet s} (k.then (k.deframer s _) (k.counts _ _)) (heard-taken (heard_at octet s.deframer) (with_fed octet s))

  pub octets-taken : (octets : List ℕ) (s : LinkState) → R s (octets_taken octets s)
  unfolding octet_taken
  octets-taken [] s = k.same s
  octets-taken (octet ∷ octets) s = k.then {b = octet_taken octet s} (octet-to s.listener octet s) (octets-taken octets (octet_taken octet s))

  pub chat-ticked : (l : Listener) (s : LinkState) → R s (chat_ticked_by l s)
  chat-ticked Nobody s = k.same s
  chat-ticked (Chatting calls) s = chat-called _ calls s
  chat-ticked Framing s = k.same s

  -- POSTS

  pub member-if : (b : Bool) (unit stay : ℕ) (s : LinkState) → R s (member_if b unit stay s)
  member-if true unit stay s = k.member unit stay s
  member-if false unit stay s = k.same s

  pub live-if : (b : Bool) (unit stay : ℕ) (s : LinkState) → R s (live_if b unit stay s)
  live-if true unit stay s = k.live unit stay s
  live-if false unit stay s = k.same s

  pub made-member : (stay unit : ℕ) (live : Bool) (s : LinkState) → R s (made_member stay unit live s)
  made-member stay unit live s = k.then {b = member_marked unit stay s} (member-if (is_none (control s).unit) unit stay s)
      (live-if (live && not (control (member_marked unit stay s)).live) unit stay (member_marked unit stay s))

  pub sent-in : (stay : Option ℕ) (protocol : ℕ) (information : List ℕ) (s : LinkState) → R s (sent_in stay protocol information s)
  sent-in None protocol information s = k.same s
  sent-in (Some stay) protocol information s = frame-sent protocol information s

  pub rejected-in : (stay : Option ℕ) (protocol : ℕ) (information : List ℕ) (s : LinkState) → R s (rejected_in stay protocol information s)
  rejected-in None protocol information s = k.same s
  rejected-in (Some stay) protocol information s = protocol-rejected protocol information s
