use Rattle.ppp_link_core.proofs.JoinFacts.{asked_does, asked_lives}
use Rattle.ppp_link_core.proofs.link_core.LinkCore.post_join.Goals as goal

pub returns-clause-does : goal.returns-clause-does
returns-clause-does g c = asked_does c.args.terms c.args.peer c.args.allow c.requires.free c.mark_asked-stay.ensures.new c.mark_asked-stay.ensures.stay c.mark_asked-stay.ensures.dials c.put_join.ensures.value

pub returns-clause-lives : goal.returns-clause-lives
returns-clause-lives g c = asked_lives c.args.terms c.args.peer c.args.allow c.requires.free c.mark_asked-stay.ensures.new c.mark_asked-stay.ensures.stay c.mark_asked-stay.ensures.dials c.put_join.ensures.value c.requires.lives
