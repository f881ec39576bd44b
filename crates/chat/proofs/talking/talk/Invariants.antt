use Rattle.chat.specs.Talking.{Talking}
use Rattle.chat.proofs.talking.talk.Given as goal

-- The answer at hand is that of the last call, and what the script sends before it was written.
abbrev pub invariant-talking : goal.invariant-talking
invariant-talking g l =
    Talking g.I.LineIn.state g.I.LineIn.coming g.C.Clock.state l.fn.script l.chat l.answer l.fn.input l.input l.fn.clock l.clock (g.O.Sink.state l.fn.output) (g.O.Sink.state l.output)
