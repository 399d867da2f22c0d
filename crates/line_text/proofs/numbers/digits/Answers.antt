use Rattle.std.proofs.Common.{ℕ, ◌<◌, ◌^◌, arith}
use Rattle.std.proofs.Math.Nat.{pow-le-pow_right}
use Rattle.line_text.proofs.numbers.digits.Goals as goal

-- a number of at most 18 digits is below 10 to the power 18
short : (number digits : ℕ) → number < 10 ^ digits → digits < 19 → number < 10 ^ 18
short number digits below few = omega (arith, below, pow-le-pow_right {n = 10} (omega (arith)) {i = digits} {j = 18} (omega (arith, few)))

pub overflow_mul-number : goal.overflow_mul-number
overflow_mul-number c = omega (arith, short c.loop-byte.number c.loop-byte.byte-index c.loop-byte.invariant.small (omega (arith, c.loop-byte-test.true, c.loop-byte.auto.byte-index-end, c.requires)))

pub overflow_add-number : goal.overflow_add-number
overflow_add-number c = omega (arith, short c.loop-byte.number c.loop-byte.byte-index c.loop-byte.invariant.small (omega (arith, c.loop-byte-test.true, c.loop-byte.auto.byte-index-end, c.requires)), c.in_ok-digit.ensures.small, c.from.ensures)
