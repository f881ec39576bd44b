use Rattle.std.proofs.Common.{sym, ◌∙◌, arith}
use Rattle.ppp_base.proofs.NumberLemmas.{too_great_stops}
use Rattle.ppp_base.proofs.numbers.number_within.Goals as goal

pub returns-then-limit-value-clause-value : goal.returns-then-limit-value-clause-value
returns-then-limit-value-clause-value c =
    sym (sym c.loop-digit.invariant.read
    ∙ too_great_stops c.args.least c.args.most c.loop-digit.value c.loop-digit.digit-index c.args.digits.now (omega arith) (omega arith) (omega arith) (omega arith))
