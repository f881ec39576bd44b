-- The errands of a link between two steps: the log tells which of them there are, and no session is left that should be over.
use Rattle.std.specs.Prelude.{◌≡◌, ◌≢◌, not, false, is_some}
use Rattle.ppp_link_rules.specs.Facts.{is_dialling, is_with_line}
use Rattle.ppp_link_rules.specs.LinkState.{LinkState, control, is_absent}
use Rattle.ppp_link_rules.specs.Marks.{IsOver}
use Rattle.ppp_link_rules.specs.Sessions.{is_over}

pub record ErrandsStand (s : LinkState) : Type 0 where
  pub dial : is_dialling (control s).doing ≡ not (is_absent s.dial)
  pub reading : is_with_line (control s).doing ≡ not (is_absent s.reading)
  pub writing : is_with_line (control s).doing ≡ not (is_absent s.writing)
  pub part : is_with_line (control s).doing ≡ is_some s.lcp
  pub on : is_over s ≡ false
  pub not_over : (control s).doing ≢ IsOver
