-- What the threads of a run share.
use Rattle.std.specs.Prelude.{◌≡◌, ◌+◌, ◌<◌, ◌^◌, length}
use Rattle.atomic_table.specs.Seated.{TableId}
use Rattle.freeze_queue.specs.Queue.{QueueFacts}
use Rattle.run_queues.specs.Parts.{QueueFacts as HandingFacts}
use Rattle.script_meaning.specs.Script.{Meant}

-- these are the script and the queue of a run of that script: the queue has the script's hardware and a slot, and the script has few enough lines to number
-- them
pub record IsContext (script : Meant) (queue : QueueFacts) (this_script : Meant) (this_queue : QueueFacts) : Type 0 where
  pub its_script : this_script ≡ script
  pub its_queue : this_queue ≡ queue
  pub hardware : queue.hardware ≡ script.hardware
  pub a_slot : 0 < queue.gate.slots
  pub few_lines : length script.lines < 2 ^ 32

-- these are the run's queues of requests, completions and free tags, and there is room for one completion more than for free tags
pub record HasQueues (requests completions free_tags : TableId) (these_requests these_completions these_free_tags : HandingFacts) : Type 0 where
  pub its_requests : these_requests.id ≡ requests
  pub its_completions : these_completions.id ≡ completions
  pub its_free_tags : these_free_tags.id ≡ free_tags
  pub one_more : these_completions.room ≡ these_free_tags.room + 1
