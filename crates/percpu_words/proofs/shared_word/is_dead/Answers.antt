-- The test of bit 62 is a comparison of what is left below bit 63.
use Rattle.std.proofs.Common.{◌≡◌, ◌*◌, ◌/◌, ◌%◌, arith}
use Rattle.std.specs.Prelude.{bit_and}
use Rattle.std.proofs.lemmas.Nat.Bits.{and_pow}
use Rattle.percpu_words.proofs.shared_word.is_dead.Goals as goal

pub returns : goal.returns
returns c = let bit : bit_and c.args.word 4611686018427387904 ≡ (c.args.word / 4611686018427387904) % 2 * 4611686018427387904 = and_pow c.args.word 62 in grind arith
