use Rattle.chat.proofs.RunLemmas.{either_way}
use Rattle.chat.proofs.run.put.Goals as goal

pub returns : goal.returns
returns g c = either_way c.write_whole.result _ _ c.write_whole.ensures.whole c.write_whole.ensures.part
