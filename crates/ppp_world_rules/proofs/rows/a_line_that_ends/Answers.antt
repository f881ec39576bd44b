-- Each computes.
use Rattle.std.proofs.Common.{refl}
use Rattle.ppp_secrets.specs.Lookup.{line_for}
use Rattle.ppp_fsm.specs.Fsm.{acts_of, after}
use Rattle.ppp_packet.specs.OptionList.{items_of, read_options}
use Rattle.ppp_packet.specs.PacketOf.{packet_in}
use Rattle.ppp_control.specs.Answers.{answer_to}
use Rattle.ppp_lcp.specs.Ours.{Asked, word_of, skipped}
use Rattle.ppp_hdlc.specs.Encoding.{body, fcs_octets, with_fcs, escaped, flagged, enclosed}
use Rattle.ppp_hdlc.specs.Residue.{bits, number, plus, zeros, divisor, bring_down, remainder, with_first_complemented, Residue}
use Rattle.ppp_hdlc.specs.Deframing.{fed, heard_at}
use Rattle.ppp_link_rules.specs.LinkPart.{after as after_event}
use Rattle.ppp_link_rules.specs.Hearing.{looked_after, frame_taken, link_opened, chat_called, octet_taken}
use Rattle.ppp_link_rules.specs.Authentication.{phase_called, phase_begun, join_tried}
use Rattle.ppp_link_rules.specs.Ending.{caused, lcp_left, lcp_closed, ended_by}
use Rattle.ppp_link_rules.specs.LcpAnswer.{lcp_answer}
use Rattle.ppp_link_rules.specs.LcpCalls.{lcp_entered, answered, lcp_called, protocol_rejected}
use Rattle.ppp_link_rules.specs.Sessions.{attempted, line_come, line_lost, session_over}
use Rattle.ppp_link_rules.specs.Ticking.{ticked}
use Rattle.ppp_link_rules.specs.Signals.{signal_taken}
use Rattle.ppp_link_rules.specs.Posts.{post_taken}
use Rattle.ppp_link_rules.specs.Sending.{frame_sent}
use Rattle.ppp_world_rules.proofs.rows.a_line_that_ends.Goals as goal

pub returns-clause-comes : goal.returns-clause-comes
unfolding line_for acts_of after items_of read_options packet_in answer_to Asked word_of skipped body fcs_octets with_fcs escaped flagged enclosed bits number plus zeros divisor bring_down remainder with_first_complemented Residue fed heard_at after_event looked_after frame_taken link_opened chat_called octet_taken phase_called phase_begun join_tried caused lcp_left lcp_closed ended_by lcp_answer lcp_entered answered lcp_called protocol_rejected attempted line_come line_lost session_over ticked signal_taken post_taken frame_sent
returns-clause-comes c limits = refl

pub returns-clause-sent : goal.returns-clause-sent
unfolding line_for acts_of after items_of read_options packet_in answer_to Asked word_of skipped body fcs_octets with_fcs escaped flagged enclosed bits number plus zeros divisor bring_down remainder with_first_complemented Residue fed heard_at after_event looked_after frame_taken link_opened chat_called octet_taken phase_called phase_begun join_tried caused lcp_left lcp_closed ended_by lcp_answer lcp_entered answered lcp_called protocol_rejected attempted line_come line_lost session_over ticked signal_taken post_taken frame_sent
returns-clause-sent c limits = refl

pub returns-clause-lost : goal.returns-clause-lost
unfolding line_for acts_of after items_of read_options packet_in answer_to Asked word_of skipped body fcs_octets with_fcs escaped flagged enclosed bits number plus zeros divisor bring_down remainder with_first_complemented Residue fed heard_at after_event looked_after frame_taken link_opened chat_called octet_taken phase_called phase_begun join_tried caused lcp_left lcp_closed ended_by lcp_answer lcp_entered answered lcp_called protocol_rejected attempted line_come line_lost session_over ticked signal_taken post_taken frame_sent
returns-clause-lost c limits = refl

pub returns-clause-ended : goal.returns-clause-ended
unfolding line_for acts_of after items_of read_options packet_in answer_to Asked word_of skipped body fcs_octets with_fcs escaped flagged enclosed bits number plus zeros divisor bring_down remainder with_first_complemented Residue fed heard_at after_event looked_after frame_taken link_opened chat_called octet_taken phase_called phase_begun join_tried caused lcp_left lcp_closed ended_by lcp_answer lcp_entered answered lcp_called protocol_rejected attempted line_come line_lost session_over ticked signal_taken post_taken frame_sent
returns-clause-ended c limits = refl
