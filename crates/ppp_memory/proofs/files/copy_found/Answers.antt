use Rattle.std.proofs.Common.{refl}
use Rattle.ppp_memory.proofs.files.copy_found.Goals as goal

pub returns-in-Err : goal.returns-in-Err
returns-in-Err c = (c.in-Some.octets.now, rw c.in-Some.is refl)
