use Rattle.ppp_memory.proofs.ClockLemmas.{reads}
use Rattle.ppp_memory.proofs.clock.MemoryClockClock.now_ms.Goals as goal

pub returns-clause-reads : goal.returns-clause-reads
returns-clause-reads c = rw (c.step.ensures.after, c.step.ensures.reading) (reads c.args.self.now c.step.ensures.within)
