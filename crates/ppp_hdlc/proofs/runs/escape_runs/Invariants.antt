use Rattle.std.proofs.Common.{◌≡◌, ◌≤◌, ◌-◌, ◌*◌, length, take}
use Rattle.ppp_hdlc.specs.Encoding.{escaped}
use Rattle.ppp_hdlc.proofs.runs.escape_runs.Given as goal

abbrev pub invariant-loop-at : goal.invariant-loop-at
invariant-loop-at l = record {
  few : l.n ≤ 2 * l.at;
  long : length l.out ≡ 1508;
  within : l.at ≤ length l.octets;
  written : take l.n l.out ≡ escaped l.map (take l.at l.octets);
}

abbrev pub decreases-loop-at : goal.decreases-loop-at
decreases-loop-at l = length l.octets - l.at
