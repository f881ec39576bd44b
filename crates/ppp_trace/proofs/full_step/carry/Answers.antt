use Rattle.std.proofs.Common.{Some, codes, arith}
use Rattle.std.specs.Cmp.{unsigned_Decides}
use Rattle.std.proofs.lemmas.Slice.Eq.{strip_prefix_is}
use Rattle.ppp_trace.proofs.FullLemmas.{carry_cases}
use Rattle.ppp_trace.proofs.full_step.carry.Goals as goal

pub returns : goal.returns
returns c =
    carry_cases c.args.line.now c.in_ok-digits.digits.now c.args.links c.in_ok-number.number c.new.result c.requires (omega (arith, c.in_ok-number.ensures.0, c.from.ensures))
    (strip_prefix_is unsigned_Decides c.args.line.now (codes "carry ") (Some c.in_ok-digits.digits) c.in_ok-digits.ensures.cases) c.in_ok-number.ensures.1 c.new.ensures.valid c.new.ensures.value
