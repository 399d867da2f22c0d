use Rattle.std.proofs.Common.{◌≡◌, ◌≤◌, ◌<◌, ◌*◌, ℕ}
use Rattle.script_overlap.proofs.Bitmaps.{bit_of}
use Rattle.script_overlap.proofs.span.Touched.meets.Given as goal

-- no sector of the words so far has its bit
abbrev pub invariant-loop-word : goal.invariant-loop-word
invariant-loop-word l = (k : ℕ) → l.from ≤ k → k < l.end → k < 64 * l.word → bit_of l.self-inside.words k ≡ 0
