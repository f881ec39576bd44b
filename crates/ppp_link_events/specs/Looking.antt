-- Whether a reading may come back so, by whether the line is wanted.
use Rattle.std.specs.Prelude.{Bool, true, not}
use Rattle.ppp_link_rules.specs.declared.errand.ReadEnd.{ReadEnd}
use Rattle.ppp_link_rules.specs.declared.errand.ReadEnd.TheVariants as read

abbrev pub may_come_by : ReadEnd → Bool → Bool
may_come_by read.End wanted = true
may_come_by read.Failed wanted = true
may_come_by read.Left wanted = not wanted
