use Rattle.std.proofs.Common.{arith}
use Rattle.ram_disk.proofs.SectorBytes.{IsSector-filled_with}
use Rattle.ram_disk.proofs.sector.Sector.filled.Goals as goal

pub invariant_of-result : goal.invariant_of-result
invariant_of-result c = IsSector-filled_with c.args.byte (omega arith)
