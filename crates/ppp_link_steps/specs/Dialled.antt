-- What the dial answers, cut at its mark: the log has the mark, and an attempt makes the session's fields anew.
use Rattle.std.specs.Prelude.{false, None, []}
use Rattle.ppp_base.specs.declared.signal_word.SignalWord.{SignalWord}
use Rattle.ppp_base.specs.declared.signal_word.SignalWord.TheVariants.{Hup}
use Rattle.ppp_dial.specs.declared.call.CallKind.{CallKind}
use Rattle.ppp_dial.specs.declared.call.CallKind.TheVariants as call
use Rattle.ppp_dial.specs.declared.now.DialNow.{DialNow}
use Rattle.ppp_dial.specs.declared.now.DialNow.TheVariants.{Nothing, Begin, Hold, Wait, Finish}
use Rattle.ppp_hdlc.specs.Deframing.{fresh}
use Rattle.ppp_link_parts.specs.Records.{log_answered}
use Rattle.ppp_link_rules.specs.declared.errand.Errand.TheVariants.{Absent, Waiting}
use Rattle.ppp_link_rules.specs.CauseStatus.{signalled}
use Rattle.ppp_link_rules.specs.Dialling.{dial_says}
use Rattle.ppp_link_rules.specs.Ending.{ended_by}
use Rattle.ppp_link_rules.specs.LinkState.{LinkState, Nobody, control}
use Rattle.ppp_link_rules.specs.Sessions.{dial_answered, dial_told_over, over_marked}
use Rattle.ppp_link_rules.specs.Signals.{signal_marked, stopping}
use Rattle.ppp_link_steps.specs.declared.dialling.DialAsk.{DialAsk}
use Rattle.ppp_link_steps.specs.declared.dialling.DialAsk.TheVariants as ask

-- the mark of the answer
abbrev pub dial_marked : DialNow → LinkState → LinkState
dial_marked answer s = record s { log = log_answered answer s.time s.log }

-- the fields of a session that has just begun
abbrev pub session_made : LinkState → LinkState
session_made s = record s {
  dial = Waiting;
  reading = Absent;
  writing = Absent;
  line_ended = false;
  taken = 0;
  listener = Nobody;
  deframer = fresh;
  lcp = None;
  auth = None;
  out = record s.out { waiting = [] };
}

-- what follows the mark
abbrev pub dial_followed : DialNow → LinkState → LinkState
dial_followed Nothing s = s
dial_followed Begin s = session_made s
dial_followed (Hold milliseconds) s = s
dial_followed Wait s = s
dial_followed (Finish status) s = s

-- a session's end with the mark of what the dial answers to it
abbrev pub over_told : DialNow → LinkState → LinkState
over_told answer s = dial_marked answer (over_marked s)

-- a signal with its mark and that of what the dial answers to it
abbrev pub signal_told : SignalWord → DialNow → LinkState → LinkState
signal_told word answer s = dial_marked answer (signal_marked word s)

-- which call an asking of the dial is, and what its answer leads to
abbrev pub kind_of : DialAsk → CallKind
kind_of ask.Start = call.Start
kind_of ask.Wake = call.Wake
kind_of ask.Tick = call.Tick

abbrev pub dial_asked : CallKind → LinkState → LinkState
dial_asked kind s = dial_answered (dial_says kind s) s

-- a hang-up in a session, and in a hold; INT or TERM where the link hasn't finished
abbrev pub session_hup : LinkState → LinkState
session_hup s = ended_by (signalled 1) (signal_marked Hup s)

abbrev pub held_up : LinkState → LinkState
held_up s = dial_asked call.Hup (signal_marked Hup s)

abbrev pub stopped_now : SignalWord → LinkState → LinkState
stopped_now word s = stopping word (signal_marked word s)

-- a session's end, and what the dial makes of it
abbrev pub ended_now : LinkState → LinkState
ended_now s = dial_told_over (control s).was_live (control s).cause (over_marked s)
