-- The result of a request on a device that may be removed.
use Rattle.std.specs.Prelude.{◌≡◌, ℕ, List, [], ◌∷◌}
use Rattle.percpu_core.specs.declared.view.WordRead.{WordRead}
use Rattle.percpu_core.specs.declared.pass_event.PassEvent.TheVariants.{AddLive, LoadWord}
use Rattle.percpu_core.specs.declared.reply.Reply.TheVariants.{Number}
use Rattle.percpu_gate.specs.declared.tried.Put.{Put}
use Rattle.percpu_gate.specs.Rule.{Steps}
use Rattle.percpu_gate.specs.Seats.{ControlFacts}
use Rattle.percpu_gate.specs.Steps.{TrySteps, PutSteps}
use Rattle.percpu_gate.specs.Calls.{released}
use Rattle.percpu_gate.specs.ControlCalls.{after_kill, after_moving, to_close_of}
use Rattle.percpu_gate.specs.declared.tried.Tried.{Tried}
use Rattle.percpu_gate.specs.declared.tried.Tried.TheVariants.{Given, Refused}
use Rattle.uses.specs.declared.removal.Served.{Served}
use Rattle.uses.specs.declared.removal.Served.TheVariants.{Done, Gone}

-- the releases of a request: 1 if its put was the last
abbrev pub told : Served → ℕ
told (Done put) = released put
told (Gone put) = released put

-- the gate's reply to the request's try
abbrev pub tried : Served → Tried
tried (Done put) = Given
tried (Gone put) = Refused put

-- a request that is done has read the setting twice under its reference, and no more; a request that wasn't run has read nothing
abbrev pub HasWorked : List WordRead → Served → Type 0
HasWorked read (Done put) = (setting : ℕ) × (read ≡ record { word = 0; value = setting } ∷ record { word = 0; value = setting } ∷ [])
HasWorked read (Gone put) = read ≡ []

-- the steps of a request: a try on this slot; if that is given, the two reads of the setting, and a put on the same slot
abbrev pub ServeSteps : ℕ → Served → Steps → Steps → Type 0
ServeSteps slot (Gone put) old new = TrySteps AddLive slot (Refused put) old new
ServeSteps slot (Done put) old new = (entered : Steps) × (setting : ℕ) × TrySteps AddLive slot Given old entered
    × PutSteps slot 1 put ((LoadWord 0, Number setting) ∷ (LoadWord 0, Number setting) ∷ entered) new

-- what a removal, which closes the open slots, leaves
abbrev pub after_removal : Put → ControlFacts → ControlFacts
after_removal put c = after_moving (to_close_of c) (after_kill put c.view) c
