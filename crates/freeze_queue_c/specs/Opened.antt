-- What an open handle leads to: the number of its queue, the queue, and the facts of the tag or the freezer.
use Rattle.std.specs.Prelude.{◌≡◌, List, false}
use Rattle.queue_core.specs.BiasedTags.{BiasedFacts}
use Rattle.queue_core.specs.Queue.{QueueFacts, TagFacts, FreezerFacts}
use Rattle.c_answers.specs.declared.drawn_number.DrawnNumber.{DrawnNumber}

pub record TagOpened : Type 0 where
  pub number : DrawnNumber
  pub queue : QueueFacts
  pub tag : BiasedFacts

pub record FreezerOpened : Type 0 where
  pub number : DrawnNumber
  pub queue : QueueFacts
  -- the tags that no handle has; the last is given next
  pub waiting : List TagFacts
  pub freezer : FreezerFacts

-- a freezer with its queue, the queue's number and the tags that no handle has
abbrev pub freezer_with : DrawnNumber → QueueFacts → List TagFacts → FreezerFacts → FreezerOpened
freezer_with number queue waiting freezer = record { number = number; queue = queue; waiting = waiting; freezer = freezer }

-- a tag that no handle has is of the queue, and isn't in
pub record Waits (queue : QueueFacts) (t : TagFacts) : Type 0 where
  pub own : t.queue ≡ queue
  pub out : t.entered ≡ false
