use Rattle.std.proofs.Common.{refl}
use Rattle.ppp_link_steps.proofs.TickFacts.{timers_does}
use Rattle.ppp_link_steps.proofs.ticking.treat_slots.Goals as goal

pub returns-clause-does : goal.returns-clause-does
returns-clause-does g c = timers_does refl c.lcp_moment-moment.ensures.stands c.has_come-lcp_due.ensures c.is_some-auth_due.ensures c.holds_until-until.ensures c.has_come-hold_due.ensures c.tick_lcp.ensures.does c.tick_auth.ensures.does c.tick_hold.ensures.does
