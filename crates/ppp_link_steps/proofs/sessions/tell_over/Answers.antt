use Rattle.ppp_link_steps.proofs.OverFacts.{told_does, told_lives}
use Rattle.ppp_link_steps.proofs.sessions.tell_over.Goals as goal

pub returns-clause-does : goal.returns-clause-does
returns-clause-does g c = told_does {c = c.args.core.now} c.mark_over-answer.result c.requires.none c.mark_over-answer.ensures.new c.mark_over-answer.ensures.policy c.mark_over-answer.ensures.dials c.end.ensures

pub returns-clause-lives : goal.returns-clause-lives
returns-clause-lives g c = told_lives {c = c.args.core.now} c.mark_over-answer.result c.requires.none c.mark_over-answer.ensures.new c.mark_over-answer.ensures.policy c.mark_over-answer.ensures.dials c.end.ensures c.requires.lives
