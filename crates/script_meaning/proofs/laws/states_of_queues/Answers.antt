use Rattle.script_meaning.proofs.Disks.{state_queue, state_disk}
use Rattle.script_meaning.proofs.laws.states_of_queues.Goals as goal

pub returns-clause-queue : goal.returns-clause-queue
returns-clause-queue c = state_queue

pub returns-clause-disk : goal.returns-clause-disk
returns-clause-disk c = state_disk
