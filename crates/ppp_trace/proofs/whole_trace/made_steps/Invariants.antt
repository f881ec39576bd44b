use Rattle.std.proofs.Common.{◌≡◌, length}
use Rattle.ppp_trace.specs.MadeTrace.{before_all, turns}
use Rattle.ppp_trace.proofs.whole_trace.made_steps.Given as goal

abbrev pub invariant-loop-turn : goal.invariant-loop-turn
invariant-loop-turn l = record {
  made : l.turns ≡ turns l.links l._turn (before_all l.seed l.steps);
  sixteen : length l.turns.done ≡ 16;
}
