use Rattle.ppp_replay.proofs.RunLemmas.{either_way}
use Rattle.ppp_replay.proofs.run.name_bad.Goals as goal

pub returns-clause-line : goal.returns-clause-line
returns-clause-line g c = either_way c.put_bad.result _ _ c.put_bad.ensures.whole c.put_bad.ensures.part
