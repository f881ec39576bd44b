use Rattle.ppp_link_steps.proofs.DialFacts.{free_by, marked_lives}
use Rattle.ppp_link_steps.proofs.dialling.mark_answer.Goals as goal

pub returns-clause-free : goal.returns-clause-free
returns-clause-free g c = free_by {c = c.args.core.now} c.args.ask c.requires.lives c.dial_is_in_step.ensures c.tell.ensures.answer

pub returns-clause-lives : goal.returns-clause-lives
returns-clause-lives g c = marked_lives {c = c.args.core.now} c.tell.result c.tell.ensures.new c.tell.ensures.policy c.tell.ensures.dials c.requires.lives
