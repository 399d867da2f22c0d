use Rattle.std.proofs.Common.{arith, ap, length}
use Rattle.line_text.proofs.LineLemmas.{length-lines_of-le}
use Rattle.line_text.proofs.statements.Statements.new.Goals as goal

pub invariant_of-result : goal.invariant_of-result
invariant_of-result c = omega (arith, ap length c.new.ensures, length-lines_of-le c.args.text.now, c.if-text-gt-LONGEST_TEXT.false)
