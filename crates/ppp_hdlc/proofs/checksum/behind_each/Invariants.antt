use Rattle.std.proofs.Common.{◌≡◌, take}
use Rattle.ppp_hdlc.specs.Register.{register_after}
use Rattle.ppp_hdlc.proofs.checksum.behind_each.Given as goal

abbrev pub invariant-loop-byte : goal.invariant-loop-byte
invariant-loop-byte l = l.now ≡ register_after l.register (take l.byte-index l.bytes)
