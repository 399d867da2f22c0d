use Rattle.std.proofs.Common.{◌≡◌, ◌-◌, length, sym, ap, ◌∙◌, arith}
use Rattle.std.specs.List.{slice_index}
use Rattle.std.proofs.Math.Nat.{mod-eq_of_lt, mod-eq-sub-mod}
use Rattle.std.proofs.lemmas.List.{length-set}
use Rattle.std.proofs.lemmas.List.Edits.{fill_by_more}
use Rattle.ram_disk.specs.Pattern.{pattern_byte}
use Rattle.ram_disk.proofs.pattern.tile_of.Goals as goal
use Rattle.ram_disk.proofs.pattern.tile_of.Goals.{then-place-pattern, else-place-pattern}

pub loop-place-preserved : goal.loop-place-preserved
loop-place-preserved c =
    let pattern = c.args.pattern.now in
    let place = c.loop-place.place in
    let tile = c.loop-place.tile in
    let filled = c.loop-place.invariant.filled in
    let size = c.loop-place.invariant.size in
    let byte : c.if-place-pattern.tile ≡ pattern_byte pattern place =
    elim c.if-place-pattern.branch [
      | then-place-pattern w ↦ w.tile-is ∙ ap (slice_index pattern) (sym (mod-eq_of_lt w.if-place-pattern.true))
      | else-place-pattern w ↦ w.tile-is ∙ filled (place - length pattern) (omega arith) ∙ ap (slice_index pattern) (sym (mod-eq-sub-mod w.if-place-pattern.false))
    ] in
    record {
      size = length-set tile place c.if-place-pattern.tile ∙ size;
      filled = rw byte (fill_by_more (pattern_byte pattern) tile place 0 (omega arith) filled);
    }
