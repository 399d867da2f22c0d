use Rattle.std.proofs.Common.{◌≡◌, [], get_or, ap, length, arith, ◌∙◌, sym, ◌+◌, ◌-◌, ◌*◌, ◌%◌, ◌≤◌, ◌∷◌, ◌++◌}
use Rattle.std.proofs.Math.Nat.{mod-lt}
use Rattle.ram_disk.specs.declared.sector.TheConstants.{SECTOR_BYTES}
use Rattle.ram_disk.specs.Pattern.{pattern_sector, pattern_sectors}
use Rattle.ram_disk.proofs.PatternSectors.{length-pattern_sectors, pattern_sectors-push, pattern_sector-period, tile-pattern_sector, get_or-pattern_sectors}
use Rattle.ram_disk.proofs.pattern.tiled.Goals as goal
use Rattle.ram_disk.proofs.pattern.tiled.Goals.{then-number-period+in_ok-sector, else-number-period+in_ok-sector-2}

pub index-requires : goal.index-requires
index-requires c = omega (arith, c.loop-number.sectors.ok.0, ap length c.loop-number.invariant.made, length-pattern_sectors c.args.pattern.now c.loop-number.number)

pub push_reserved-requires : goal.push_reserved-requires
push_reserved-requires c = omega (arith, c.loop-number.sectors.ok.0, ap length c.loop-number.invariant.made, length-pattern_sectors c.args.pattern.now c.loop-number.number)

pub loop-number-preserved : goal.loop-number-preserved
loop-number-preserved c =
    let pattern = c.args.pattern.now in
    let number = c.loop-number.number in
    let sector : c.if-number-period.sector ≡ pattern_sector pattern number =
    elim c.if-number-period.branch [
      | then-number-period+in_ok-sector w ↦
          let below = mod-lt (number * SECTOR_BYTES) c.requires.within.0 in
          let within : (number * SECTOR_BYTES) % length pattern + SECTOR_BYTES ≤ length c.tile_of-tile.result = omega (arith, below, c.tile_of-tile.type_inv) in
          w.sector-is ∙ w.in_ok-sector.ensures.ok ∙ tile-pattern_sector c.tile_of-tile.result pattern number within c.tile_of-tile.ensures
      | else-number-period+in_ok-sector-2 w ↦
          let period = c.period_in_sectors-period.result in
          w.sector-is ∙ w.in_ok-sector-2.ensures.cases ∙ w.index.ensures
          ∙ ap (λ made. get_or made (number - period) w.index.result.now) c.loop-number.invariant.made
          ∙ get_or-pattern_sectors pattern number (number - period) w.index.result.now (omega arith)
          ∙ sym (pattern_sector-period pattern number period c.period_in_sectors-period.ensures.whole w.if-number-period.false)
    ] in
    record {
      made = c.push_reserved.ensures.items ∙ ap (λ made. made ++ c.if-number-period.sector ∷ []) c.loop-number.invariant.made ∙ ap (λ s. pattern_sectors pattern number ++ s ∷ []) sector ∙ sym (pattern_sectors-push pattern number);
      room = c.push_reserved.ensures.capacity ∙ c.loop-number.invariant.room;
    }
