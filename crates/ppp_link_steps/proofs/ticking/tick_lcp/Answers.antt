use Rattle.std.proofs.Common.{ap, ◌∙◌}
use Rattle.std.specs.Prelude.{◌&&◌}
use Rattle.ppp_link_steps.proofs.TickFacts.{lcp_calm, lcp_does}
use Rattle.ppp_link_steps.proofs.ticking.tick_lcp.Goals as goal

pub returns-clause-calm : goal.returns-clause-calm
returns-clause-calm g c = lcp_calm c.args.due (lcp_does c.args.due c.lcp_moment-moment.ensures.stands (c.is_left-treat.ensures ∙ ap (λ x. c.args.due && x) c.is_some.ensures) c.treat_lcp.ensures.does) c.requires.calm
