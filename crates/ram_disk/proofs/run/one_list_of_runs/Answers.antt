use Rattle.ram_disk.proofs.RunLists.{same_from_IsRuns}
use Rattle.ram_disk.proofs.run.one_list_of_runs.Goals as goal

pub returns : goal.returns
returns c = same_from_IsRuns
