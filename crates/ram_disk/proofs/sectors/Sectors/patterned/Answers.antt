use Rattle.std.proofs.Common.{length}
use Rattle.ram_disk.proofs.PatternSectors.{replicate-pattern_sectors}
use Rattle.ram_disk.proofs.sectors.Sectors.patterned.Goals as goal

pub returns-in-Some-clause-made : goal.returns-in-Some-clause-made
returns-in-Some-clause-made c = replicate-pattern_sectors c.args.pattern.now c.in-Some.byte c.args.count c.requires.within.0 c.in-Some.ensures
