use Rattle.std.proofs.Common.{◌≡◌}
use Rattle.ppp_trace.specs.MadeTrace.{first_lines, with_options}
use Rattle.ppp_trace.proofs.whole_trace.made_head.Given as goal

abbrev pub invariant-loop-link : goal.invariant-loop-link
invariant-loop-link l = l.text.items ≡ with_options (first_lines l.seed l.links) l.link
