use Rattle.ppp_base.proofs.HexLemmas.{IsReadTo}
use Rattle.ppp_base.proofs.hex.read_hex.Given as goal

abbrev pub invariant-reading : goal.invariant-reading
invariant-reading l = IsReadTo l.text l.octets l.i
