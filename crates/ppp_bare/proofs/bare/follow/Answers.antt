use Rattle.std.proofs.Common.{refl}
use Rattle.ppp_bare.specs.Acts.{after_acts, log_acts}
use Rattle.ppp_bare.proofs.ActLemmas.{said_closed}
use Rattle.ppp_mark.specs.Scripts.{said_in}
use Rattle.ppp_bare.proofs.bare.follow.Goals as goal

pub returns-in-false-false-clause-log : goal.returns-in-false-false-clause-log
unfolding log_acts
returns-in-false-false-clause-log g c = rw (c.in-false-false.is-0, c.in-false-false.is-1) refl

pub returns-in-false-false-clause-said : goal.returns-in-false-false-clause-said
unfolding after_acts
returns-in-false-false-clause-said g c = rw (c.in-false-false.is-0, c.in-false-false.is-1) refl

pub returns-in-true-true-clause-log : goal.returns-in-true-true-clause-log
unfolding log_acts
returns-in-true-true-clause-log g c = rw (c.in-true-true.is-0, c.in-true-true.is-1) refl

pub returns-in-true-true-clause-said : goal.returns-in-true-true-clause-said
unfolding after_acts
returns-in-true-true-clause-said g c = rw (c.in-true-true.is-0, c.in-true-true.is-1) refl

pub returns-in-false-true-clause-log : goal.returns-in-false-true-clause-log
unfolding log_acts
returns-in-false-true-clause-log g c = rw (c.in-false-true.is-0, c.in-false-true.is-1) (rw c.requires.bare.unit at c.opens.ensures.log)

pub returns-in-false-true-clause-said : goal.returns-in-false-true-clause-said
unfolding after_acts
returns-in-false-true-clause-said g c = rw (c.in-false-true.is-0, c.in-false-true.is-1) c.opens.ensures.said

pub returns-in-true-false-clause-log : goal.returns-in-true-false-clause-log
unfolding log_acts
returns-in-true-false-clause-log g c = rw (c.in-true-false.is-0, c.in-true-false.is-1) (rw c.requires.bare.unit at c.closes.ensures.log)

pub returns-in-true-false-clause-said : goal.returns-in-true-false-clause-said
unfolding after_acts
returns-in-true-false-clause-said g c =
    rw (c.in-true-false.is-0, c.in-true-false.is-1)
    (said_closed (said_in c.args.scripts.now.log.past) _ (rw c.in-true-false.is-0 at c.requires.bare.opened) c.closes.ensures.said)
