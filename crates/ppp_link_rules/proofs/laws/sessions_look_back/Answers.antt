-- Each session computes.
use Rattle.std.proofs.Common.{refl, [], true}
use Rattle.std.proofs.lemmas.Bool.{false≢true}
use Rattle.ppp_link_rules.specs.WorkedHistory.{begun}
use Rattle.ppp_link_rules.specs.LinkEvent.{Begin, Dialled}
use Rattle.ppp_link_rules.specs.LinkPart.{happened}
use Rattle.ppp_link_rules.specs.Rows.{link_of, nomagic, step}
use Rattle.ppp_secrets.specs.Lookup.{line_for}
use Rattle.ppp_fsm.specs.Fsm.{acts_of, after}
use Rattle.ppp_packet.specs.OptionList.{items_of, read_options}
use Rattle.ppp_packet.specs.PacketOf.{packet_in}
use Rattle.ppp_control.specs.Answers.{answer_to}
use Rattle.ppp_lcp.specs.Ours.{Asked, word_of, skipped}
use Rattle.ppp_hdlc.specs.Encoding.{body, fcs_octets, with_fcs, escaped, flagged, enclosed}
use Rattle.ppp_hdlc.specs.Residue.{bits, number, plus, zeros, divisor, bring_down, remainder, with_first_complemented, Residue}
use Rattle.ppp_hdlc.specs.Deframing.{fed, heard_at}
use Rattle.ppp_link_rules.specs.LinkPart.{after as after_event}
use Rattle.ppp_link_rules.specs.Hearing.{looked_after, frame_taken, link_opened, chat_called, octet_taken}
use Rattle.ppp_link_rules.specs.Authentication.{phase_called, phase_begun, join_tried}
use Rattle.ppp_link_rules.specs.Ending.{caused, lcp_left, lcp_closed, ended_by}
use Rattle.ppp_link_rules.specs.LcpAnswer.{lcp_answer}
use Rattle.ppp_link_rules.specs.LcpCalls.{lcp_entered, answered, lcp_called, protocol_rejected}
use Rattle.ppp_link_rules.specs.Sessions.{attempted, line_come, line_lost, session_over}
use Rattle.ppp_link_rules.specs.Ticking.{ticked}
use Rattle.ppp_link_rules.specs.Signals.{signal_taken}
use Rattle.ppp_link_rules.specs.Posts.{post_taken}
use Rattle.ppp_link_rules.specs.Sending.{frame_sent}
use Rattle.ppp_hdlc.specs.Frames.{unescaped, ends_escaping, answer, Frames}
use Rattle.ppp_link_rules.proofs.laws.sessions_look_back.Goals as goal

pub returns-clause-dials : goal.returns-clause-dials
unfolding line_for acts_of after items_of read_options packet_in answer_to Asked word_of skipped body fcs_octets with_fcs escaped flagged enclosed bits number plus zeros divisor bring_down remainder with_first_complemented Residue fed heard_at after_event looked_after frame_taken link_opened chat_called octet_taken phase_called phase_begun join_tried caused lcp_left lcp_closed ended_by lcp_answer lcp_entered answered lcp_called protocol_rejected attempted line_come line_lost session_over ticked signal_taken post_taken frame_sent unescaped ends_escaping answer Frames
returns-clause-dials c limits = record {
  done = refl;
  few = λ first. refl;
  reached = record {
    link = refl;
    session = refl;
    config = refl;
    wish = refl;
    secrets = refl;
    time = refl;
    words = refl;
    listener = refl;
    deframer = record { octets_are = refl; over_is = refl; escaping_is = refl };
    map = refl;
    lcp = refl;
    lawful = tt;
    auth = refl;
    counts = refl;
    cause = refl;
    marks = refl;
    live = refl;
    taken = refl;
    order = tt;
  };
}

pub returns-clause-goes_on : goal.returns-clause-goes_on
unfolding line_for acts_of after items_of read_options packet_in answer_to Asked word_of skipped body fcs_octets with_fcs escaped flagged enclosed bits number plus zeros divisor bring_down remainder with_first_complemented Residue fed heard_at after_event looked_after frame_taken link_opened chat_called octet_taken phase_called phase_begun join_tried caused lcp_left lcp_closed ended_by lcp_answer lcp_entered answered lcp_called protocol_rejected attempted line_come line_lost session_over ticked signal_taken post_taken frame_sent unescaped ends_escaping answer Frames
returns-clause-goes_on c limits = record {
  reached = looked_after (happened (Dialled 1 1 0 true) (step Begin (link_of limits nomagic)));
  since = begun;
  hears = record {
    done = refl;
    few = λ first. refl;
    reached = record {
      link = refl;
      session = refl;
      config = refl;
      wish = refl;
      secrets = refl;
      time = refl;
      words = refl;
      listener = refl;
      deframer = record { octets_are = refl; over_is = refl; escaping_is = refl };
      map = refl;
      lcp = refl;
      lawful = (record { event = refl; acts = refl; packets = refl }, (record { event = refl; acts = refl; packets = refl }, tt));
      auth = refl;
      counts = refl;
      cause = refl;
      marks = refl;
      live = refl;
      taken = refl;
      order = ((refl, (refl, refl), refl), ((refl, (refl, refl), refl), ((refl, (refl, refl)), tt)));
    };
  };
  events_are = refl;
  unheard = [];
  octets_are = refl;
  all = λ heard. refl;
  ups = refl;
  outs = refl;
  new_is = refl;
}

pub returns-clause-begun : goal.returns-clause-begun
unfolding line_for acts_of after items_of read_options packet_in answer_to Asked word_of skipped body fcs_octets with_fcs escaped flagged enclosed bits number plus zeros divisor bring_down remainder with_first_complemented Residue fed heard_at after_event looked_after frame_taken link_opened chat_called octet_taken phase_called phase_begun join_tried caused lcp_left lcp_closed ended_by lcp_answer lcp_entered answered lcp_called protocol_rejected attempted line_come line_lost session_over ticked signal_taken post_taken frame_sent unescaped ends_escaping answer Frames
returns-clause-begun c limits = record {
  done = refl;
  few = λ first. refl;
  reached = record {
    link = refl;
    session = refl;
    config = refl;
    wish = refl;
    secrets = refl;
    time = refl;
    words = refl;
    listener = refl;
    deframer = record { octets_are = refl; over_is = refl; escaping_is = refl };
    map = refl;
    lcp = refl;
    lawful = (record { event = refl; acts = refl; packets = refl }, (record { event = refl; acts = refl; packets = refl }, tt));
    auth = refl;
    counts = refl;
    cause = refl;
    marks = refl;
    live = refl;
    taken = refl;
    order = ((refl, (refl, refl), refl), ((refl, (refl, refl), refl), ((refl, (refl, refl)), tt)));
  };
}

pub returns-clause-stopped : goal.returns-clause-stopped
unfolding line_for acts_of after items_of read_options packet_in answer_to Asked word_of skipped body fcs_octets with_fcs escaped flagged enclosed bits number plus zeros divisor bring_down remainder with_first_complemented Residue fed heard_at after_event looked_after frame_taken link_opened chat_called octet_taken phase_called phase_begun join_tried caused lcp_left lcp_closed ended_by lcp_answer lcp_entered answered lcp_called protocol_rejected attempted line_come line_lost session_over ticked signal_taken post_taken frame_sent unescaped ends_escaping answer Frames
returns-clause-stopped c limits = record {
  done = refl;
  few = λ first. absurd (false≢true first);
  reached = record {
    link = refl;
    session = refl;
    config = refl;
    wish = refl;
    secrets = refl;
    time = refl;
    words = refl;
    listener = refl;
    deframer = record { octets_are = refl; over_is = refl; escaping_is = refl };
    map = refl;
    lcp = refl;
    lawful = (record { event = refl; acts = refl; packets = refl }, (record { event = refl; acts = refl; packets = refl }, (record { event = refl; acts = refl; packets = refl }, tt)));
    auth = refl;
    counts = refl;
    cause = refl;
    marks = refl;
    live = refl;
    taken = refl;
    order = ((refl, (refl, refl), refl), (refl, ((refl, tt), ((refl, (refl, refl), refl), ((refl, (refl, refl), refl), ((refl, (refl, refl)), tt))))));
  };
}

pub returns-clause-asked : goal.returns-clause-asked
unfolding line_for acts_of after items_of read_options packet_in answer_to Asked word_of skipped body fcs_octets with_fcs escaped flagged enclosed bits number plus zeros divisor bring_down remainder with_first_complemented Residue fed heard_at after_event looked_after frame_taken link_opened chat_called octet_taken phase_called phase_begun join_tried caused lcp_left lcp_closed ended_by lcp_answer lcp_entered answered lcp_called protocol_rejected attempted line_come line_lost session_over ticked signal_taken post_taken frame_sent unescaped ends_escaping answer Frames
returns-clause-asked c limits = record {
  done = refl;
  few = λ first. refl;
  reached = record {
    link = refl;
    session = refl;
    config = refl;
    wish = refl;
    secrets = refl;
    time = refl;
    words = refl;
    listener = refl;
    deframer = record { octets_are = refl; over_is = refl; escaping_is = refl };
    map = refl;
    lcp = refl;
    lawful = (record { event = refl; acts = refl; packets = refl }, (record { event = refl; acts = refl; packets = refl }, (record { event = refl; acts = refl; packets = refl }, tt)));
    auth = refl;
    counts = refl;
    cause = refl;
    marks = refl;
    live = refl;
    taken = refl;
    order = ((refl, refl, refl), ((refl, refl, refl), ((refl, refl, refl), ((refl, refl, refl), ((refl, refl, refl), ((refl, refl, refl), ((refl, refl, refl), ((refl, refl, refl), ((refl, refl, refl), ((refl, refl, refl), ((refl, refl, refl), ((refl, refl, refl), ((refl, refl, refl), ((refl, refl, refl), ((refl, refl, refl), ((refl, refl, refl), ((refl, refl, refl), ((refl, refl, refl), ((refl, (refl, refl, refl)), ((refl, (refl, refl), refl), ((refl, (refl, refl), refl), ((refl, (refl, refl)), tt))))))))))))))))))))));
  };
}
