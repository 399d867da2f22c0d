-- The table of the sectors of one byte value.
use Rattle.std.proofs.Common.{◌≡◌, ℕ, ◌<◌, ◌∙◌, [], ap, map, refl, arith}
use Rattle.std.specs.List.{range_with_len, slice_index_or}
use Rattle.std.proofs.lemmas.List.FromFn.{get_or-map-range_with_len}
use Rattle.ram_disk.specs.declared.filled.TheConstants.{FILLED}
use Rattle.ram_disk.specs.Sector.{filled_with}

pub in_table : (byte : ℕ) → byte < 256 → slice_index_or FILLED byte [] ≡ filled_with byte
unfolding filled_with
in_table byte small = get_or-map-range_with_len (λ n. filled_with n) 0 256 byte byte [] small (omega arith)
