-- refusals
-- Each row computes.
use Rattle.std.proofs.Common.{refl}
use Rattle.ppp_fsm.specs.Fsm.{acts_of, after}
use Rattle.ppp_packet.specs.OptionList.{items_of, read_options}
use Rattle.ppp_lcp.proofs.laws.refusals.Goals as goal

pub returns-clause-ipcp : goal.returns-clause-ipcp
unfolding acts_of after read_options items_of
returns-clause-ipcp c limits = refl

pub returns-clause-multilink : goal.returns-clause-multilink
unfolding acts_of after read_options items_of
returns-clause-multilink c limits = refl

pub returns-clause-other : goal.returns-clause-other
unfolding acts_of after read_options items_of
returns-clause-other c limits = refl

pub returns-clause-unagreed : goal.returns-clause-unagreed
unfolding acts_of after read_options items_of
returns-clause-unagreed c limits = refl

pub returns-clause-method : goal.returns-clause-method
unfolding acts_of after read_options items_of
returns-clause-method c = refl

pub returns-clause-another : goal.returns-clause-another
unfolding acts_of after read_options items_of
returns-clause-another c = refl
