use Rattle.chat.proofs.AskedLemmas.{no_memory}
use Rattle.chat.proofs.asking.read_plan.Goals as goal

pub returns-in-Err : goal.returns-in-Err
returns-in-Err g c = no_memory _ _
