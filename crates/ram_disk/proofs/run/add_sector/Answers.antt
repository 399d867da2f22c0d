use Rattle.ram_disk.specs.Sector.{filled_with}
use Rattle.ram_disk.proofs.run.add_sector.Goals as goal

pub returns-in-Some-clause-ok : goal.returns-in-Some-clause-ok
unfolding filled_with
returns-in-Some-clause-ok c = rw c.in-Some.ensures.only c.add_run.ensures.ok
