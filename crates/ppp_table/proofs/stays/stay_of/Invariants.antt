use Rattle.std.proofs.Common.{◌≡◌, drop}
use Rattle.ppp_unit_parts.specs.Member.{stay_of}
use Rattle.ppp_table.proofs.stays.stay_of.Given as goal

abbrev pub invariant-looking : goal.invariant-looking
invariant-looking l = stay_of l.link (drop l.member-index l.members) ≡ stay_of l.link l.members
