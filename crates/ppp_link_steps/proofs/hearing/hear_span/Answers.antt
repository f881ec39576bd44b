use Rattle.std.specs.Prelude.{take}
use Rattle.ppp_link_steps.proofs.HearFacts.{octets_stay_calm}
use Rattle.ppp_link_steps.proofs.hearing.hear_span.Goals as goal

pub returns-clause-calm : goal.returns-clause-calm
returns-clause-calm g c = octets_stay_calm (take c.take_span.result c.args.octets.now) c.take_span.ensures.does c.requires.calm
