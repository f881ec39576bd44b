use Rattle.ppp_hdlc.proofs.Quotient.{only_rest, empty_rest}
use Rattle.ppp_hdlc.proofs.laws.remainder_is_the_only_rest.Goals as goal

pub returns-clause-only : goal.returns-clause-only
returns-clause-only c = only_rest

pub returns-clause-empty : goal.returns-clause-empty
returns-clause-empty c = empty_rest
