use Rattle.std.proofs.Common.{◌≡◌, ◌++◌, take}
use Rattle.circular_buffer.specs.Buffer.{buffer}
use Rattle.ppp_hdlc.specs.Encoding.{escaped}
use Rattle.ppp_hdlc.proofs.encode.push_few.Given as goal

abbrev pub invariant-loop-octet : goal.invariant-loop-octet
invariant-loop-octet l = l.out ≡ buffer (l.fn.out.items ++ escaped l.map (take l.octet-index l.octets)) l.fn.out.capacity
