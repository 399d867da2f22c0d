use Rattle.ram_disk.proofs.SectorWrites.{reads_stay}
use Rattle.ram_disk.proofs.laws.reads_beside_writes_stay.Goals as goal

pub returns : goal.returns
returns c = reads_stay
