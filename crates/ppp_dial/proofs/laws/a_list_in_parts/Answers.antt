use Rattle.ppp_dial.proofs.LookingBackLemmas.{seen-parts}
use Rattle.ppp_dial.proofs.PlaceLemmas.{law-join, law-split}
use Rattle.ppp_dial.proofs.laws.a_list_in_parts.Goals as goal

pub returns-clause-seen : goal.returns-clause-seen
returns-clause-seen c = seen-parts

pub returns-clause-law : goal.returns-clause-law
returns-clause-law c policy before later earlier =
    (law-split policy before later earlier, λ both. law-join policy before later earlier both.0 both.1)
