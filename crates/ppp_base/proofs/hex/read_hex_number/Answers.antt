use Rattle.std.proofs.Common.{arith}
use Rattle.ppp_base.proofs.HexNumbers.{eight_digits}
use Rattle.ppp_base.proofs.hex.read_hex_number.Goals as goal

pub overflow_mul-value : goal.overflow_mul-value
overflow_mul-value c = omega (arith, eight_digits c.loop-digit.value c.loop-digit.digit-index c.loop-digit.invariant.small (omega arith))

pub overflow_add-value : goal.overflow_add-value
overflow_add-value c = omega (arith, eight_digits c.loop-digit.value c.loop-digit.digit-index c.loop-digit.invariant.small (omega arith))

pub overflow_cast-result : goal.overflow_cast-result
overflow_cast-result c = omega (arith, eight_digits c.loop-digit.value c.loop-digit.digit-index c.loop-digit.invariant.small (omega arith))
