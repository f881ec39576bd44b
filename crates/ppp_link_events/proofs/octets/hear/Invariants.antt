use Rattle.std.proofs.Common.{length, ◌-◌, ◌≤◌, take}
use Rattle.ppp_link_core.specs.Standing.{Does, Sits, opened}
use Rattle.ppp_link_rules.specs.Hearing.{octets_taken}
use Rattle.ppp_link_steps.specs.Calm.{Calm}
use Rattle.ppp_link_events.proofs.octets.hear.Given as goal
use Rattle.ppp_link_events.specs.Hearing.{Hears}

-- The octets up to this place were heard.
abbrev pub invariant-hearing : goal.invariant-hearing
invariant-hearing g l = record {
  within : l.at ≤ length l.octets;
  gone : Does (octets_taken (take l.at l.octets)) l.initial.core l.core;
  hears : Hears l.core;
  sits : Sits (opened l.core.lcp) l.core;
  calm : Calm l.core;
}

abbrev pub decreases-hearing : goal.decreases-hearing
decreases-hearing g l = length l.octets - l.at
