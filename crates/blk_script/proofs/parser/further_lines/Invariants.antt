use Rattle.std.proofs.Common.{◌≡◌, length}
use Rattle.blk_script.specs.Parsing.{further_lines}
use Rattle.line_text.proofs.Fronts.{with_front}
use Rattle.blk_script.proofs.parser.further_lines.Given as goal

-- the lines so far, and what is still to come, are all
abbrev pub invariant-loop-number : goal.invariant-loop-number
invariant-loop-number l = with_front l.lines.items (further_lines l.version l.text.said) ≡ further_lines l.version l.fn.text.said

abbrev pub decreases-loop-number : goal.decreases-loop-number
decreases-loop-number l = length l.text.said
