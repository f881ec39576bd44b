-- The dial comes back without a line, which ends the session.
use Rattle.ppp_link_rules.specs.CauseStatus.{dial_failed}
use Rattle.ppp_link_rules.specs.Ending.{ended_by}
use Rattle.ppp_link_rules.specs.LinkState.{LinkState}
use Rattle.ppp_link_rules.specs.Sessions.{with_failure}

abbrev pub no_line_back : LinkState → LinkState
no_line_back s = ended_by dial_failed (with_failure s)
