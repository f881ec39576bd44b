use Rattle.ppp_chap.proofs.PassesLemmas.{told_passes, passes_told, passes_sixteen}
use Rattle.ppp_chap.proofs.laws.judge.lines_pass.Goals as goal

pub returns-clause-told : goal.returns-clause-told
returns-clause-told c = λ a challenge name value number. (told_passes a challenge name value number, passes_told a challenge name value number)

pub returns-clause-sixteen : goal.returns-clause-sixteen
returns-clause-sixteen c = passes_sixteen
