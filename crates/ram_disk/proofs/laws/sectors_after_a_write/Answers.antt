use Rattle.ram_disk.proofs.SectorWrites.{written_own, written_others}
use Rattle.ram_disk.proofs.laws.sectors_after_a_write.Goals as goal

pub returns : goal.returns
returns c = record { own = written_own; others = written_others }
