-- What a worker receives for a request, and what it hands back.
use Rattle.std.specs.Prelude.{◌≡◌, ℕ, true, List, Some}
use Rattle.queue_limits.specs.Bounds.{Bounds}
use Rattle.script_meaning.specs.Script.{Meant}
use Rattle.freeze_queue.specs.AtTheGate.{AreInForce}
use Rattle.freeze_queue.specs.Readings.{AskSteps}
use Rattle.freeze_queue.specs.Queue.{QueueFacts, TagFacts, come_to, after_asking, after_leaving}
use Rattle.percpu_gate.specs.Steps.{PutSteps}
use Rattle.percpu_core.specs.declared.view.PassView.{PassView}
use Rattle.percpu_gate.specs.declared.tried.Put.{Put}
use Rattle.atomic_table.specs.Seated.{TableId}
use Rattle.run_queues.specs.Parts.{TokenFacts}
use Rattle.in_flight.specs.Requests.{IsAcceptedAt, IsDue}

-- a request on its way to a worker: the token to report its completion, which has its number among the accepted ones; the position of its line; the tag that
-- entered for it; and the sectors that it finds
pub record JobFacts : Type 0 where
  pub token : TokenFacts
  pub position : ℕ
  pub tag : TagFacts
  pub found : List (List ℕ)

-- its token is of the run's completions, its line is the accepted request of its number, its tag is entered in the queue and has read the limits in force at
-- its line, and it finds what a single thread finds there
pub record IsJob (script : Meant) (queue : QueueFacts) (completions : TableId) (job : JobFacts) : Type 0 where
  pub own : job.tag.queue ≡ queue
  pub entered : job.tag.entered ≡ true
  pub limits : Bounds
  pub told : job.tag.limits ≡ Some limits
  pub may_tell : job.token.queue ≡ completions
  pub numbered : IsAcceptedAt script job.token.number job.position
  pub due : IsDue script job.position limits job.found

-- a worker read the limits under the request's tag: at a moment of its call, when the tag's seat knew what it knew as the request was drawn, the limits in
-- force were those due to the request
pub record IsReadUnderItsTag (script : Meant) (job : JobFacts) : Type 0 where
  pub limits : Bounds
  pub in_force : AreInForce job.tag.queue.gate job.tag.queue.hardware job.tag.seat limits
  pub due : IsDue script job.position limits job.found

-- a request that is done: its number, and its tag, which is still entered
pub record DoneFacts : Type 0 where
  pub number : ℕ
  pub tag : TagFacts

-- the same once its completion is reported: what is left of the token, and its tag
pub record CompletedFacts : Type 0 where
  pub acknowledgement : TokenFacts
  pub tag : TagFacts

-- between two moments a tag only asked for the limits: it neither left nor entered
pub record HasOnlyAsked (old new : TagFacts) : Type 0 where
  pub limits : Bounds
  pub seat : PassView
  pub asked : new ≡ come_to new.steps (after_asking limits seat old)
  pub steps : AskSteps old.steps new.steps

-- between two moments a tag left once, on this slot, and did nothing else
pub record HasOnlyLeft (slot : ℕ) (old new : TagFacts) : Type 0 where
  pub last : Put
  pub left : new ≡ come_to new.steps (after_leaving last old)
  pub steps : PutSteps slot 1 last old.steps new.steps

-- what comes back for a request: its number, and the position of its line
pub record CompletionFacts : Type 0 where
  pub number : ℕ
  pub position : ℕ
