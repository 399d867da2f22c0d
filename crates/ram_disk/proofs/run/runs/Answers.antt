use Rattle.std.proofs.Common.{take, length-append, arith}
use Rattle.ram_disk.specs.Sector.{bytes_of}
use Rattle.ram_disk.proofs.SectorBytes.{bytes_of-more}
use Rattle.ram_disk.proofs.run.runs.Goals as goal

pub loop-sector-preserved : goal.loop-sector-preserved
loop-sector-preserved c =
    let before = bytes_of (take c.loop-sector.sector-index c.args.sectors.now) in
    let more = bytes_of-more c.args.sectors.now c.loop-sector.sector-index c.sector-item.result c.loop-sector-test.true c.sector-item.is in
    record {
      so_far = rw (more, ← c.loop-sector.invariant.so_far.whole) c.in_ok-add_sector.ensures.ok;
      size = rw more (omega (arith, length-append before c.sector-item.result, c.in_ok-add_sector.ensures.sector));
    }
