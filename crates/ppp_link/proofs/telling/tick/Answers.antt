use Rattle.std.proofs.Common.{refl}
use Rattle.ppp_link_rules.specs.LinkEvent.{Tick}
use Rattle.ppp_link.proofs.KeepFacts.{takes_by, whole_told}
use Rattle.ppp_link.proofs.telling.tick.Goals as goal

pub returns-clause-takes : goal.returns-clause-takes
returns-clause-takes g c = takes_by {l = c.args.body.now} (Tick c.args.now) c.keep_halves.ensures (λ s k. refl) c.tick.ensures.takes

pub returns-clause-whole : goal.returns-clause-whole
returns-clause-whole g c = whole_told {l = c.args.body.now} (Tick c.args.now) c.keep_halves.ensures refl (λ s k. refl) c.tick.ensures.takes c.tick.ensures.goes c.requires.whole
