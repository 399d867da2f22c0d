-- The requests of a thread with a tag of its own, and the commands for each.
use Rattle.std.specs.Prelude.{List, [], ◌∷◌}
use Rattle.queue_limits.specs.Bounds.{Bounds}
use Rattle.queue_limits.specs.Pieces.{IsSplit}
use Rattle.uses.specs.declared.cutting.Command.{Command}
use Rattle.uses.specs.declared.lanes.Request.{Request}
use Rattle.uses.specs.Commands.{lengths, AreInARow}

-- these commands are for this request: one set of limits cuts its range into them
pub record IsCut (request : Request) (commands : List Command) : Type 0 where
  pub row : AreInARow request.first commands
  pub limits : Bounds
  pub split : IsSplit limits request.first request.sectors (lengths commands)

-- each request has its commands
abbrev pub AreCut : List Request → List (List Command) → Type 0
AreCut [] [] = Unit {0}
AreCut [] (commands ∷ others) = ⊥
AreCut (request ∷ requests) [] = ⊥
AreCut (request ∷ requests) (commands ∷ others) = IsCut request commands × AreCut requests others
