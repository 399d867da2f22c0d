use Rattle.std.proofs.Common.{◌≡◌, ◌≤◌, ◌<◌, ◌*◌, ◌⊎◌, ℕ, length}
use Rattle.script_overlap.proofs.Bitmaps.{bit_of}
use Rattle.script_overlap.proofs.span.Touched.add.Given as goal

-- the sectors of the words so far have their bits, and those outside the range are as before
abbrev pub invariant-loop-word : goal.invariant-loop-word
invariant-loop-word l = record {
  count : length l.self-inside.words ≡ length l.initial.self-inside.words;
  sectors : l.self-inside.sectors ≡ l.initial.self-inside.sectors;
  inside : (k : ℕ) → l.from ≤ k → k < l.end → k < 64 * l.word → bit_of l.self-inside.words k ≡ 1;
  outside : (k : ℕ) → (k < l.from) ⊎ (l.end ≤ k) → bit_of l.self-inside.words k ≡ bit_of l.initial.self-inside.words k;
}
