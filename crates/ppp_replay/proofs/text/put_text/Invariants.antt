use Rattle.std.proofs.Common.{◌≡◌, ℕ, ◌+◌, ◌*◌, ◌≤◌, List, ◌++◌, drop}
use Rattle.ppp_outside.specs.Writing.{Puts, fresh}
use Rattle.ppp_replay.specs.BareRun.{run_start}
use Rattle.ppp_replay.specs.BareText.{lines_from}
use Rattle.ppp_replay.proofs.text.put_text.Given as goal

-- A front of the text was put, and the lines of the steps that are left are the rest.
abbrev pub invariant-loop-step : goal.invariant-loop-step
invariant-loop-step g l =
    let state = g.O.Sink.state in
    record {
      counted : l.number ≡ l.step-index;
      few : l.player.marks ≤ 3 * l.step-index;
      put : (front : List ℕ)
          × Puts fresh l.writer (state l.fn.output) (state l.output) front
          × (front ++ lines_from (l.number + 1) l.player.run (drop l.step-index l.steps) ≡ lines_from 1 run_start l.steps);
    }
