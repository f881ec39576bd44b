use Rattle.ppp_base.proofs.PartLemmas.{NoneBelow}
use Rattle.ppp_base.proofs.parts.first_part.Given as goal

abbrev pub invariant-loop-i : goal.invariant-loop-i
invariant-loop-i l = NoneBelow l.separator l.octets l.i
