use Rattle.std.proofs.Common.{◌≡◌, ◌-◌, ◌≤◌, length, take, IfSome}
use Rattle.ppp_outside.specs.Writing.{Writes}
use Rattle.ppp_outside.proofs.TakenLemmas.{TakenAsSet}
use Rattle.ppp_link.proofs.writing.write_out.Given as goal

-- The front of the octets up to this place was written. Where the sink's first answer was set, that is nothing, or all of them.
abbrev pub invariant-writing : goal.invariant-writing
invariant-writing g l =
    let state = g.O.Sink.state in
    record {
      within : l.at ≤ length l.octets;
      front : Writes (state l.initial.output) (state l.output) (take l.at l.octets);
      untouched : l.at ≡ 0 → g.O.Sink.coming l.output ≡ g.O.Sink.coming l.initial.output;
      as_told : IfSome (g.O.Sink.coming l.initial.output) (λ set. TakenAsSet set l.at (length l.octets));
    }

abbrev pub decreases-writing : goal.decreases-writing
decreases-writing g l = length l.octets - l.at
