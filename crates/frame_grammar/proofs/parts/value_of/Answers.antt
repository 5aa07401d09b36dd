use Rattle.std.proofs.Common.{arith}
use Rattle.frame_grammar.proofs.Numbers.{digit_fits}
use Rattle.frame_grammar.proofs.parts.value_of.Goals as goal

pub overflow_mul-value : goal.overflow_mul-value
overflow_mul-value c = omega (arith, digit_fits c.loop-digit.digit-index c.loop-digit.value (omega arith) c.loop-digit.invariant.below)

pub overflow_add-value : goal.overflow_add-value
overflow_add-value c = omega (arith, digit_fits c.loop-digit.digit-index c.loop-digit.value (omega arith) c.loop-digit.invariant.below, c.type_inv.digits c.loop-digit.digit-index)
