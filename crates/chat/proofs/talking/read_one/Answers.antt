use Rattle.std.proofs.Common.{arith}
use Rattle.chat.proofs.HeardLemmas.{one_octet}
use Rattle.chat.proofs.talking.read_one.Goals as goal

pub returns-in-Got : goal.returns-in-Got
returns-in-Got g c = record {
  answer = _;
  read = record { buf = c.read.new.buf; room = omega arith; reads = c.in-Got.ensures.reads; as_told = c.in-Got.ensures.as_told };
  heard = one_octet c.read.new.buf c.in-Got.field-0 (omega arith) c.in-Got.ensures.reads.fits.0;
}
