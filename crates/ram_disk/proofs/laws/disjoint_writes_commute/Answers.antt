use Rattle.ram_disk.proofs.SectorWrites.{writes_commute}
use Rattle.ram_disk.proofs.laws.disjoint_writes_commute.Goals as goal

pub returns : goal.returns
returns c = writes_commute
