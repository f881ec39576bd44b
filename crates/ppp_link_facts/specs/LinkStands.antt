-- All that is proved of a link between two steps, in one.
use Rattle.ppp_link_rules.specs.Facts.{GoesRight}
use Rattle.ppp_link_rules.specs.LinkState.{LinkState}
use Rattle.ppp_link_facts.specs.Budget.{BetweenSteps}
use Rattle.ppp_link_facts.specs.Errands.{ErrandsStand}
use Rattle.ppp_link_facts.specs.Scripts.{ScriptsStand}

pub record LinkStands (s : LinkState) : Type 0 where
  pub steps : BetweenSteps s
  pub scripts : ScriptsStand s
  pub errands : ErrandsStand s
  pub right : GoesRight s
