-- The commands to a device for one request.
use Rattle.std.specs.Prelude.{◌≡◌, ℕ, ◌+◌, Option, Some, None, Result, Ok, Err, List, [], ◌∷◌, map}
use Rattle.percpu_gate.specs.declared.tried.Tried.{Tried}
use Rattle.freeze_queue.specs.Entering.{answered}
use Rattle.freeze_queue.specs.declared.enter.Enter.{Enter}
use Rattle.freeze_queue.specs.declared.enter.Enter.TheVariants.{Entered, Again}
use Rattle.uses.specs.declared.cutting.Command.{Command}

-- how many sectors each command moves
abbrev pub lengths : List Command → List ℕ
lengths commands = map (λ c. c.sectors) commands

-- the first command begins at `start`, and each other where the one before it ended
abbrev pub AreInARow : ℕ → List Command → Type 0
AreInARow start [] = Unit {0}
AreInARow start (c ∷ commands) = (c.first ≡ start) × AreInARow (start + c.sectors) commands

-- the result of the attempt to enter: the tag entered if there are commands or if memory was refused, and the queue was frozen if there are none
abbrev pub entering : {A E : Type 0} → Result (Option A) E → Enter
entering (Ok (Some made)) = Entered
entering (Ok None) = Again
entering (Err why) = Entered

-- what that attempt found at the gate
abbrev pub found : {A E : Type 0} → Result (Option A) E → Tried
found made = answered (entering made)
