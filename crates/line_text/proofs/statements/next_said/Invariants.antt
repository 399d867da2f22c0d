use Rattle.std.proofs.Common.{◌≡◌, ◌+◌, length}
use Rattle.line_text.specs.Statements.{statements}
use Rattle.line_text.proofs.statements.next_said.Given as goal

-- the lines that were skipped say nothing
abbrev pub invariant-loop-line : goal.invariant-loop-line
invariant-loop-line l = record {
  all : l.before + length l.lines ≡ l.fn.before + length l.fn.lines;
  rest : statements (l.before + 1) l.lines ≡ statements (l.fn.before + 1) l.fn.lines;
}

abbrev pub decreases-loop-line : goal.decreases-loop-line
decreases-loop-line l = length l.lines
