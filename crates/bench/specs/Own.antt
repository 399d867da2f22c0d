-- The tag of a thread, which is biased or not.
use Rattle.std.specs.Prelude.{◌≡◌, false}
use Rattle.freeze_queue.specs.Queue.{QueueFacts}
use Rattle.freeze_queue.specs.BiasedTags.{queue_of, in_now}
use Rattle.bench.specs.declared.Own.{Own}
use Rattle.bench.specs.declared.Own.TheVariants.{Plain, Biased}

-- a tag of this queue, with no request in
abbrev pub IsOwn : QueueFacts → Own → Type 0
IsOwn queue (Plain tag) = (tag.queue ≡ queue) × (tag.entered ≡ false)
IsOwn queue (Biased tag) = (queue_of tag ≡ queue) × (in_now tag ≡ false)
