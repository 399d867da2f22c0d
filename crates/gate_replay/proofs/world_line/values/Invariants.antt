-- The values so far, and what is still to come, are all.
use Rattle.std.proofs.Common.{◌≡◌, ◌+◌, length}
use Rattle.line_text.proofs.Fronts.{with_front}
use Rattle.gate_replay.specs.WorldLine.{values_of}
use Rattle.gate_replay.proofs.world_line.values.Given as goal

abbrev pub invariant-loop-word : goal.invariant-loop-word
invariant-loop-word l = record {
  said : with_front l.values.items (values_of l.words) ≡ values_of l.fn.words;
  count : length l.values.items + length l.words ≡ length l.fn.words;
}
