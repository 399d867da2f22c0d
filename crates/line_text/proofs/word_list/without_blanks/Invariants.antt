use Rattle.std.proofs.Common.{◌≡◌, length}
use Rattle.line_text.specs.Text.{words_of}
use Rattle.line_text.proofs.word_list.without_blanks.Given as goal

abbrev pub invariant-loop-rest : goal.invariant-loop-rest
invariant-loop-rest l = words_of l.rest ≡ words_of l.line

abbrev pub decreases-loop-rest : goal.decreases-loop-rest
decreases-loop-rest l = length l.rest
