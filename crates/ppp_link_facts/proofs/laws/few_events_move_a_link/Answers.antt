use Rattle.ppp_link_facts.proofs.MoveFacts.{after_does, from_new, from_wait}
use Rattle.ppp_link_facts.proofs.laws.few_events_move_a_link.Goals as goal

pub returns-clause-still : goal.returns-clause-still
returns-clause-still c event s is k none still = after_does event s is k none still

pub returns-clause-from_new : goal.returns-clause-from_new
returns-clause-from_new c event s is k at moved = from_new event s is k at moved

pub returns-clause-from_wait : goal.returns-clause-from_wait
returns-clause-from_wait c event s is k at moved = from_wait event s is k at moved
