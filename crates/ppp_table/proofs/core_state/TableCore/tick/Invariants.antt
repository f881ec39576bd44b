use Rattle.ppp_table.specs.TablePart.{TicksBelow}
use Rattle.ppp_table.specs.Fits.{IsWhole}
use Rattle.ppp_table.proofs.core_state.TableCore.tick.Given as goal

abbrev pub invariant-loop-number : goal.invariant-loop-number
invariant-loop-number g l = record {
  part : TicksBelow l.number l.now l.fn.self l.self;
  whole : IsWhole l.self;
}
