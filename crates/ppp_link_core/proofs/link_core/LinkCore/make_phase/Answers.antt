use Rattle.std.proofs.Common.{◌∙◌}
use Rattle.ppp_link_core.proofs.AuthFacts.{new_does, new_lives}
use Rattle.ppp_link_core.proofs.link_core.LinkCore.make_phase.Goals as goal

pub returns-clause-does : goal.returns-clause-does
returns-clause-does g c = new_does c.args.terms.now c.requires.none c.new-words.ensures c.challenge-challenge.ensures.octets (c.state-self.ensures ∙ c.challenge-challenge.ensures.state) c.auth_config.ensures c.new.ensures.methods c.new.ensures.config c.new.ensures.stands

pub returns-clause-lives : goal.returns-clause-lives
returns-clause-lives g c = new_lives c.args.terms.now c.requires.none c.new-words.ensures c.challenge-challenge.ensures.octets (c.state-self.ensures ∙ c.challenge-challenge.ensures.state) c.auth_config.ensures c.new.ensures.methods c.new.ensures.config c.new.ensures.stands c.requires.lives
