use Rattle.std.proofs.Common.{◌+◌, ◌-◌, ◌≤◌, vec_len}
use Rattle.ppp_outside.specs.Reading.{Gives}
use Rattle.ppp_outside.proofs.reading.read_whole.Given as goal

-- The source gave the octets so far, and didn't fail.
abbrev pub invariant-reading : goal.invariant-reading
invariant-reading g l =
    let state = g.I.Source.state in
    record {
      within : vec_len l.octets ≤ l.most + 1;
      given : Gives (state l.initial.input) (state l.input) l.octets.items;
      bounded : (state l.input).taken ≤ (state l.initial.input).taken + vec_len l.octets;
    }

abbrev pub decreases-reading : goal.decreases-reading
decreases-reading g l = l.most + 1 - vec_len l.octets
