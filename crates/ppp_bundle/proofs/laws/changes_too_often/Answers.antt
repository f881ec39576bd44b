use Rattle.ppp_bundle.proofs.LawFacts.{closes_at, stays_at}
use Rattle.ppp_bundle.proofs.laws.changes_too_often.Goals as goal

pub returns-clause-closes : goal.returns-clause-closes
returns-clause-closes c = closes_at

pub returns-clause-stays : goal.returns-clause-stays
returns-clause-stays c = stays_at
