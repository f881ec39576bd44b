use Rattle.std.proofs.Common.{unwrap_or, ap, ◌∙◌}
use Rattle.ppp_mp.specs.Delivered.{lowest, mark}
use Rattle.ppp_mp.proofs.Taking.{bound_is}
use Rattle.ppp_mp.proofs.facts.GatherFacts.settle_now.Goals as goal

pub returns-clause-settled : goal.returns-clause-settled
returns-clause-settled c = λ before s holds. c.settle.ensures.settled before s (mark s) holds (c.bound-bound.ensures ∙ ap (λ os. unwrap_or (lowest os) 0) holds.keeps.overs ∙ bound_is s)
