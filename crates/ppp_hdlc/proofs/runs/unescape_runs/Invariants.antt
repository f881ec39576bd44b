use Rattle.std.proofs.Common.{◌≡◌, ◌≤◌, ◌-◌, Bool, length, take}
use Rattle.ppp_hdlc.specs.Deframing.{whole_part}
use Rattle.ppp_hdlc.specs.Spans.{Takes}
use Rattle.ppp_hdlc.proofs.runs.unescape_runs.Given as goal

abbrev pub invariant-loop-at : goal.invariant-loop-at
invariant-loop-at l = record {
  count : l.n ≤ 1508;
  long : length l.out ≡ 1508;
  within : l.at ≤ length l.octets;
  takes : (is_over : Bool) → Takes l.octets l.from l.at (whole_part l.map (take l.count l.initial.out) is_over) (whole_part l.map (take l.n l.out) is_over);
}

abbrev pub decreases-loop-at : goal.decreases-loop-at
decreases-loop-at l = length l.octets - l.at
