use Rattle.ppp_link_steps.proofs.TickFacts.{auth_calm, auth_does}
use Rattle.ppp_link_steps.proofs.ticking.tick_auth.Goals as goal

pub returns-clause-does : goal.returns-clause-does
returns-clause-does g c = auth_does c.args.due c.is_some-there.ensures c.is_left-treat.ensures c.treat_auth.ensures.does

pub returns-clause-calm : goal.returns-clause-calm
returns-clause-calm g c = auth_calm c.args.due (auth_does c.args.due c.is_some-there.ensures c.is_left-treat.ensures c.treat_auth.ensures.does) c.requires.calm
