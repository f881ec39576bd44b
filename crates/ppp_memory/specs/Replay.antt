-- What the objects in memory that keep no record tell: their counts.
use Rattle.std.specs.Prelude.{None}
use Rattle.ppp_outside.specs.Dialer.{DialerState}
use Rattle.ppp_outside.specs.Line.{LineState}
use Rattle.ppp_outside.specs.Sink.{SinkState}
use Rattle.ppp_memory.specs.declared.replay_line.ReplayLine.{ReplayLine}
use Rattle.ppp_memory.specs.declared.replay_sink.ReplaySink.{ReplaySink}
use Rattle.ppp_memory.specs.declared.replay_dialer.ReplayDialer.{ReplayDialer}

abbrev pub line_state_of : ReplayLine → LineState
line_state_of s = record { left = None; taken = s.taken; faults = s.faults; quiets = s.quiets; ends = s.ends; answers = None }

abbrev pub sink_state_of : ReplaySink → SinkState
sink_state_of s = record { written = None; faults = s.faults }

abbrev pub dialer_state_of : ReplayDialer → DialerState
dialer_state_of s = record { tries = s.tries; faults = s.faults; asked = None }
