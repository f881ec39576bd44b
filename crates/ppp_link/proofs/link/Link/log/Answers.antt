use Rattle.ppp_link.proofs.LinkFacts.{follows, log_law}
use Rattle.ppp_link.proofs.link.Link.log.Goals as goal

pub returns-clause-scripts : goal.returns-clause-scripts
returns-clause-scripts g c s k = follows s k

pub returns-clause-law : goal.returns-clause-law
returns-clause-law g c = log_law c.log.ensures c.self.invariant.goes
