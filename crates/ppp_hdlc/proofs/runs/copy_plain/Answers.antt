use Rattle.std.proofs.Common.{refl, arith}
use Rattle.std.proofs.lemmas.Simd.{get_or-chunk}
use Rattle.ppp_hdlc.proofs.Lanes.{written}
use Rattle.ppp_hdlc.proofs.runs.copy_plain.Goals as goal

pub returns-clause-plain : goal.returns-clause-plain
returns-clause-plain c = λ k below.
    rw (← get_or-chunk c.args.at 16 c.args.octets.now k 0 (omega (arith, c.plain_in_front.ensures.within))) (c.plain_in_front.ensures.plain k below)

pub returns-clause-kept : goal.returns-clause-kept
returns-clause-kept c =
    written c.args.out.now c.put.new.octets _ c.args.octets.now c.args.count c.args.at c.plain_in_front.result c.put.ensures.front refl c.plain_in_front.ensures.within (omega (arith, c.requires.room))
