use Rattle.ppp_memory.proofs.IfaceLemmas.{takes}
use Rattle.ppp_memory.proofs.iface_in.MemoryIfaceInIfaceIn.take.Goals as goal

pub returns-clause-takes : goal.returns-clause-takes
returns-clause-takes c = rw (c.step.ensures.after, c.step.ensures.buffer, c.step.ensures.answer) (takes c.args.self.now c.args.buf.now)
