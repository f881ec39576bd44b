use Rattle.std.proofs.Common.{◌≡◌, ℕ, List, ◌++◌, drop}
use Rattle.std.specs.List.{flat_map}
use Rattle.ppp_outside.specs.Writing.{Puts}
use Rattle.ppp_replay.specs.BareText.{acts_text, next_act}
use Rattle.ppp_replay.proofs.text.put_acts.Given as goal

-- A front of the text was put, and the acts that are left are the rest.
abbrev pub invariant-loop-act : goal.invariant-loop-act
invariant-loop-act g l =
    let state = g.O.Sink.state in
    (front : List ℕ)
    × Puts l.fn.writer l.writer (state l.fn.output) (state l.output) front
    × (front ++ flat_map next_act (drop l.act-index l.others) ≡ acts_text l.fn.acts)
