use Rattle.std.proofs.Common.{◌≡◌, ℕ, ◌<◌, length, slice_index}
use Rattle.ram_disk.specs.declared.pattern.TheConstants.{TILE_BYTES}
use Rattle.ram_disk.specs.Pattern.{pattern_byte}
use Rattle.ram_disk.proofs.pattern.tile_of.Given as goal

abbrev pub invariant-loop-place : goal.invariant-loop-place
invariant-loop-place l = record {
  size : length l.tile ≡ TILE_BYTES;
  filled : (k : ℕ) → k < l.place → slice_index l.tile k ≡ pattern_byte l.pattern k;
}
