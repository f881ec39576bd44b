-- What the octets of the line lead to: first they are the chat script's, and once it is done they are frames.
use Rattle.std.specs.Prelude.{ℕ, ◌&&◌, nat_le, Bool, true, false, Option, None, Some, List, [], ◌∷◌, ◌++◌}
use Rattle.ppp_chat.specs.declared.event.Event.{Event}
use Rattle.ppp_chat.specs.declared.now.ChatNow.{ChatNow}
use Rattle.ppp_chat.specs.declared.now.ChatNow.TheVariants.{Going, Sent, Done, TimedOut, Aborted}
use Rattle.ppp_chat.specs.ChatOf.{ChatOf}
use Rattle.ppp_chat.specs.Event.{octet_at, tick_at}
use Rattle.ppp_chat.specs.Script.{ChatScript}
use Rattle.ppp_chat.specs.Talk.{answer_after}
use Rattle.ppp_control.specs.Rules.{by_itself, comes_up, opens}
use Rattle.ppp_hdlc.specs.Deframing.{fed, heard_at}
use Rattle.ppp_hdlc.specs.declared.heard.Heard.{Heard}
use Rattle.ppp_hdlc.specs.declared.heard.Heard.TheVariants.{Nothing, Frame, Dropped}
use Rattle.ppp_packet.specs.PacketOf.{packet_in}
use Rattle.ppp_link_rules.specs.declared.limits.TheConstants.{MOST_MARKS}
use Rattle.ppp_link_rules.specs.Authentication.{join_tried, phase_heard}
use Rattle.ppp_link_rules.specs.CauseStatus.{chat_aborted, chat_timed_out, too_many_marks}
use Rattle.ppp_link_rules.specs.Ending.{ended_by}
use Rattle.ppp_link_rules.specs.FrameCounts.{counted}
use Rattle.ppp_link_rules.specs.LcpCalls.{lcp_called, lcp_heard, protocol_rejected}
use Rattle.ppp_link_rules.specs.LinkState.{LinkState, Nobody, Chatting, Framing, Listener, agreed, control, has_passed, is_lasting, is_open, outcome_of}
use Rattle.ppp_link_rules.specs.Phase.{Phase, Treatment, ToLcp, ToAuth, ToTable, ToReject, Discarded, phase_by}
use Rattle.ppp_link_rules.specs.Rings.{put_frame}
use Rattle.ppp_link_rules.specs.Sending.{octets_sent}

-- FRAMES

-- a frame, as what it is looked at
abbrev pub treated : Treatment → ℕ → List ℕ → LinkState → LinkState
treated ToLcp protocol information s = lcp_heard (packet_in information) s
treated ToAuth protocol information s = phase_heard protocol (packet_in information) s
treated ToTable protocol information s = record s { up = put_frame protocol information s.up }
treated ToReject protocol information s = protocol_rejected protocol information s
treated Discarded protocol information s = s

unfoldable pub frame_taken : ℕ → List ℕ → LinkState → LinkState
frame_taken protocol information s =
    treated (Phase (phase_by (is_open s) (has_passed (outcome_of s.auth))) (agreed s) protocol) protocol information s

-- Nine hundred marks of a session end it.
abbrev pub has_many : LinkState → Bool
has_many s = is_lasting s && nat_le MOST_MARKS (control s).since

abbrev pub ended_if_many : Bool → LinkState → LinkState
ended_if_many true s = ended_by too_many_marks s
ended_if_many false s = s

abbrev pub checked : LinkState → LinkState
checked s = ended_if_many (has_many s) s

-- what stands behind each frame, and at the end of each step
unfoldable pub looked_after : LinkState → LinkState
looked_after s = checked (join_tried s)

-- what the answer of the deframer leads to
abbrev pub heard_taken : Heard → LinkState → LinkState
heard_taken Nothing s = s
heard_taken (Frame protocol information) s = looked_after (frame_taken protocol information s)
heard_taken (Dropped fault) s = looked_after s

abbrev pub with_fed : ℕ → LinkState → LinkState
with_fed octet s = record s { deframer = fed octet s.deframer; counts = counted (heard_at octet s.deframer) s.counts }

-- THE CHAT (chat(8))

-- The script is done: LCP gets Open and Up, and from the next octet on frames are heard.
unfoldable pub link_opened : LinkState → LinkState
link_opened s = lcp_called (by_itself comes_up) (lcp_called (by_itself opens) (record s { listener = Framing }))

abbrev pub chat_told : ChatNow → LinkState → LinkState
chat_told Going s = s
chat_told (Sent octets) s = octets_sent octets s
chat_told Done s = link_opened s
chat_told TimedOut s = ended_by chat_timed_out s
chat_told (Aborted number) s = ended_by (chat_aborted number) s

-- the script with one more call
abbrev pub chat_answer : Option ChatScript → List Event → Event → ChatNow
chat_answer None calls event = Done
chat_answer (Some script) calls event = answer_after (ChatOf script) calls event

unfoldable pub chat_called : Event → List Event → LinkState → LinkState
chat_called event calls s = chat_told (chat_answer s.config.script calls event) (record s { listener = Chatting (calls ++ event ∷ []) })

-- A session talks first by its script, if it has one.
abbrev pub talk_begun_by : Option ChatScript → LinkState → LinkState
talk_begun_by None s = link_opened s
talk_begun_by (Some script) s = chat_called (tick_at s.time) [] s

abbrev pub talk_begun : LinkState → LinkState
talk_begun s = talk_begun_by s.config.script s

-- OCTETS

abbrev pub octet_to : Listener → ℕ → LinkState → LinkState
octet_to Nobody octet s = s
octet_to (Chatting calls) octet s = chat_called (octet_at octet s.time) calls s
octet_to Framing octet s = heard_taken (heard_at octet s.deframer) (with_fed octet s)

unfoldable pub octet_taken : ℕ → LinkState → LinkState
octet_taken octet s = octet_to s.listener octet s

-- in order
abbrev pub octets_taken : List ℕ → LinkState → LinkState
octets_taken [] s = s
octets_taken (octet ∷ octets) s = octets_taken octets (octet_taken octet s)

-- the chat looks at the time
abbrev pub chat_ticked_by : Listener → LinkState → LinkState
chat_ticked_by Nobody s = s
chat_ticked_by (Chatting calls) s = chat_called (tick_at s.time) calls s
chat_ticked_by Framing s = s

abbrev pub chat_ticked : LinkState → LinkState
chat_ticked s = chat_ticked_by s.listener s
