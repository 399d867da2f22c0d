use Rattle.std.proofs.Common.{ℕ, ◌<◌, slice_index}
use Rattle.line_text.proofs.statements.is_ascii.Given as goal

abbrev pub invariant-loop-byte : goal.invariant-loop-byte
invariant-loop-byte l = (i : ℕ) → i < l.byte-index → slice_index l.line i < 128
