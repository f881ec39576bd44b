use Rattle.std.proofs.Common.{refl}
use Rattle.std.proofs.lemmas.Bool.{false≢true}
use Rattle.ppp_link_rules.proofs.SoundLemmas.{no_marks_law, no_marks_settled, new_not_over, dials_not_new, new_not_waits}
use Rattle.ppp_secrets.specs.Lookup.{line_for}
use Rattle.ppp_fsm.specs.Fsm.{acts_of, after}
use Rattle.ppp_packet.specs.OptionList.{items_of, read_options}
use Rattle.ppp_packet.specs.PacketOf.{packet_in}
use Rattle.ppp_control.specs.Answers.{answer_to}
use Rattle.ppp_lcp.specs.Ours.{Asked, word_of, skipped}
use Rattle.ppp_hdlc.specs.Encoding.{body, fcs_octets, with_fcs, escaped, flagged, enclosed}
use Rattle.ppp_hdlc.specs.Residue.{bits, number, plus, zeros, divisor, bring_down, remainder, with_first_complemented, Residue}
use Rattle.ppp_hdlc.specs.Deframing.{fed, heard_at}
use Rattle.ppp_link_rules.specs.LinkPart.{after as after_event}
use Rattle.ppp_link_rules.specs.Hearing.{looked_after, frame_taken, link_opened, chat_called, octet_taken}
use Rattle.ppp_link_rules.specs.Authentication.{phase_called, phase_begun, join_tried}
use Rattle.ppp_link_rules.specs.Ending.{caused, lcp_left, lcp_closed, ended_by}
use Rattle.ppp_link_rules.specs.LcpAnswer.{lcp_answer}
use Rattle.ppp_link_rules.specs.LcpCalls.{lcp_entered, answered, lcp_called, protocol_rejected}
use Rattle.ppp_link_rules.specs.Sessions.{attempted, line_come, line_lost, session_over}
use Rattle.ppp_link_rules.specs.Ticking.{ticked}
use Rattle.ppp_link_rules.specs.Signals.{signal_taken}
use Rattle.ppp_link_rules.specs.Posts.{post_taken}
use Rattle.ppp_link_rules.specs.Sending.{frame_sent}
use Rattle.ppp_link_rules.proofs.laws.links_are_sound.Goals as goal

pub returns-clause-new : goal.returns-clause-new
returns-clause-new c id seed limit config wish secrets is = record {
  scripts = record { law = record { directions = tt; law = no_marks_law }; settled = no_marks_settled };
  tells = record { lcp = refl; auth = refl; scripts = record { now_open = refl; last = refl; greatest = refl; starts = refl; ends = refl; not_started = refl; lawful = tt }; job = λ out. absurd (false≢true out); dial = refl; reading = refl; writing = refl; part = refl; stay = λ some. absurd (false≢true some); failures = refl; stopped = refl; wish = is };
  goes = record { on = refl; not_over = new_not_over; hold = refl; shut = λ lasts. absurd (false≢true lasts); few = λ busy. absurd (false≢true busy); room = λ lasts. absurd (false≢true lasts) };
  stay = record { controls = tt; joins = tt; args = tt };
  dials = record { law = tt };
}

pub returns-clause-begins : goal.returns-clause-begins
unfolding line_for acts_of after items_of read_options packet_in answer_to Asked word_of skipped body fcs_octets with_fcs escaped flagged enclosed bits number plus zeros divisor bring_down remainder with_first_complemented Residue fed heard_at after_event looked_after frame_taken link_opened chat_called octet_taken phase_called phase_begun join_tried caused lcp_left lcp_closed ended_by lcp_answer lcp_entered answered lcp_called protocol_rejected attempted line_come line_lost session_over ticked signal_taken post_taken frame_sent
returns-clause-begins c limits = record { from_new = λ was is. refl; from_wait = λ was is. absurd (new_not_waits was); begins = λ was is. dials_not_new; wakes = λ was is. absurd (new_not_waits was); hangs = λ is holds. absurd (false≢true holds); stops = λ is. absurd (false≢true is); finishes = λ is none. absurd (false≢true is); asked = λ first is none. absurd (false≢true is) }
