use Rattle.ppp_link_core.proofs.AuthFacts.{begun_some, sits_opened}
use Rattle.ppp_link_core.proofs.link_core.LinkCore.begin_by.Goals as goal

pub follow_phase-requires-clause-sits : goal.follow_phase-requires-clause-sits
follow_phase-requires-clause-sits g c = sits_opened c.args.self.now c.make_phase.ensures.rest c.ask_start-out.ensures.rest c.requires.now

pub returns-clause-does : goal.returns-clause-does
returns-clause-does g c = begun_some c.args.terms.now c.make_phase.ensures.does c.ask_start-out.ensures.does c.ask_start-out.ensures.answer c.follow_phase.ensures.does
