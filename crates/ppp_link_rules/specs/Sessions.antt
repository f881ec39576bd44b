-- How a session begins, gets its line, loses it and is over, and what follows (pppd(8), "persist", "holdoff" and "maxfail").
use Rattle.std.specs.Prelude.{◌+◌, ◌&&◌, not, Bool, true, false, Option, None, Some, is_some, []}
use Rattle.ppp_base.specs.RandomWords.{branch_of, state_after}
use Rattle.ppp_control.specs.Rules.{by_itself, goes_down}
use Rattle.ppp_dial.specs.declared.call.CallKind.TheVariants.{SessionOver}
use Rattle.ppp_dial.specs.declared.now.DialNow.{DialNow}
use Rattle.ppp_dial.specs.declared.now.DialNow.TheVariants.{Nothing, Begin, Hold, Wait, Finish}
use Rattle.ppp_hdlc.specs.Deframing.{fresh}
use Rattle.ppp_mark.specs.Marks.{attempt_mark, finished_mark, hold_mark, line_mark, over_mark, wait_mark}
use Rattle.ppp_link_rules.specs.declared.cause.Cause.{Cause}
use Rattle.ppp_link_rules.specs.declared.errand.Errand.TheVariants.{Absent, Waiting}
use Rattle.ppp_link_rules.specs.CauseStatus.{dial_failed}
use Rattle.ppp_link_rules.specs.Dialling.{dial_says, end_by}
use Rattle.ppp_link_rules.specs.Ending.{closed_if, ended_by, first_caused, is_first}
use Rattle.ppp_link_rules.specs.Hearing.{looked_after, talk_begun}
use Rattle.ppp_link_rules.specs.LcpCalls.{lcp_called}
use Rattle.ppp_link_rules.specs.LinkState.{LinkState, Nobody, control, is_absent, is_busy, is_lasting, is_out, wants_line}
use Rattle.ppp_link_rules.specs.Marking.{marked}

-- WHAT THE DIAL SAYS

-- An attempt takes the next number and a dial errand. It has no line yet, and nothing waits for one.
unfoldable pub attempted : LinkState → LinkState
attempted s = record (marked (λ time. attempt_mark time ((control s).session + 1)) s) {
  dial = Waiting;
  reading = Absent;
  writing = Absent;
  line_ended = false;
  taken = 0;
  listener = Nobody;
  deframer = fresh;
  lcp = None;
  auth = None;
  out = record s.out { waiting = [] };
}

abbrev pub dial_answered : DialNow → LinkState → LinkState
dial_answered Nothing s = s
dial_answered Begin s = attempted s
dial_answered (Hold milliseconds) s = marked (λ time. hold_mark time milliseconds) s
dial_answered Wait s = marked wait_mark s
dial_answered (Finish status) s = marked (λ time. finished_mark time status) s

-- THE LINE

-- A fresh LCP part is made, whose generator begins with the next two words.
abbrev pub with_line : LinkState → LinkState
with_line s = record (marked (λ time. line_mark time (control s).session) s) {
  reading = Waiting;
  writing = Waiting;
  lcp = Some (record { words = branch_of s.words; calls = [] });
  words = state_after 2 s.words;
}

unfoldable pub line_come : LinkState → LinkState
line_come s = talk_begun (with_line s)

-- A line that comes in a session that has a cause is dropped at once.
abbrev pub line_come_if : Bool → LinkState → LinkState
line_come_if true s = line_come s
line_come_if false s = s

-- The dial has come back, with a line or without one.
abbrev pub with_dial_back : LinkState → LinkState
with_dial_back s = record s { dial = Absent }

abbrev pub with_failure : LinkState → LinkState
with_failure s = record s { dial = Absent; failed_dials = s.failed_dials + 1 }

abbrev pub dial_come : Bool → LinkState → LinkState
dial_come true s = line_come_if (is_busy s) (with_dial_back s)
dial_come false s = ended_by dial_failed (with_failure s)

-- A line that ends gives LCP Down, behind the mark of the cause; then the cause closes LCP.
abbrev pub with_line_ended : LinkState → LinkState
with_line_ended s = record s { line_ended = true; listener = Nobody }

abbrev pub line_gone : Cause → LinkState → LinkState
line_gone c s = closed_if (is_first (Some c) s) (lcp_called (by_itself goes_down) (first_caused (Some c) (with_line_ended s)))

abbrev pub line_gone_if : Bool → Cause → LinkState → LinkState
line_gone_if true c s = line_gone c s
line_gone_if false c s = s

-- The session's line has ended, where it hadn't.
unfoldable pub line_lost : Cause → LinkState → LinkState
line_lost c s = line_gone_if (is_lasting s && not s.line_ended) c s

-- THE END

-- The session is over when it has a cause, no line is wanted, and its errands are back. A dial that still waits to be taken isn't back.
abbrev pub is_over : LinkState → Bool
is_over s =
    is_lasting s && (is_some (control s).cause && (not (wants_line s) && (is_absent s.dial && (not (is_out s.reading) && not (is_out s.writing)))))

abbrev pub over_marked : LinkState → LinkState
over_marked s = record (marked (λ time. over_mark time (control s).was_live (control s).session) s) {
  reading = Absent;
  writing = Absent;
  listener = Nobody;
  lcp = None;
  auth = None;
}

-- what the dial says to the end of a session that was live or not and had this cause
abbrev pub dial_told_over : Bool → Option Cause → LinkState → LinkState
dial_told_over live c s = dial_answered (dial_says (SessionOver (end_by s.config.line live c)) s) s

abbrev pub over_if : Bool → LinkState → LinkState
over_if true s = dial_told_over (control s).was_live (control s).cause (over_marked s)
over_if false s = s

unfoldable pub session_over : LinkState → LinkState
session_over s = over_if (is_over s) s

-- the end of each step
abbrev pub at_end : LinkState → LinkState
at_end s = session_over (looked_after s)
