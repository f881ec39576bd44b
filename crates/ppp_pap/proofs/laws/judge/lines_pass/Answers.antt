use Rattle.ppp_pap.proofs.JudgeLemmas.{told_passes, passes_told}
use Rattle.ppp_pap.proofs.laws.judge.lines_pass.Goals as goal

pub returns : goal.returns
returns c = λ a name password number. (told_passes a name password number, passes_told a name password number)
