use Rattle.std.proofs.Common.{◌≡◌, drop}
use Rattle.ppp_packet.proofs.options.OptionList.get.Given as goal

abbrev pub invariant-passing : goal.invariant-passing
invariant-passing l = l.items ≡ drop l._passed l.self
