use Rattle.ppp_memory.proofs.ControlLemmas.{hears}
use Rattle.ppp_memory.proofs.control.MemoryControlControl.next.Goals as goal

pub returns-clause-hears : goal.returns-clause-hears
returns-clause-hears c = rw (c.step.ensures.after, c.step.ensures.answer) (hears c.args.self.now)
