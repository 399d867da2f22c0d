-- The move of the plain counter that an event with its reply is.
use Rattle.std.specs.Prelude.{◌≡◌, Option, Some, None}
use Rattle.percpu_core.specs.declared.event.Event.{Event}
use Rattle.percpu_core.specs.declared.event.Event.TheVariants.{Pass, Control}
use Rattle.percpu_core.specs.declared.pass_event.PassEvent.{PassEvent}
use Rattle.percpu_core.specs.declared.pass_event.PassEvent.TheVariants.{AddTry, AddLive, AddGet, Sub, Take, Give}
use Rattle.percpu_core.specs.declared.pass_event.PassEvent.TheVariants.{Mark as PassMark}
use Rattle.percpu_core.specs.declared.control_event.ControlEvent.{ControlEvent}
use Rattle.percpu_core.specs.declared.control_event.ControlEvent.TheVariants.{MarkDead, DropBase, Mark, TakeBase, ClearDead}
use Rattle.percpu_core.specs.declared.reply.Reply.{Reply}
use Rattle.percpu_core.specs.declared.reply.Reply.TheVariants.{Given, Won, Last}
use Rattle.percpu_core.specs.Phases.{holds_base}
use Rattle.percpu_core.specs.PlainCounter.{PlainCounter, Move, take, drop, die, drop_base, release, retake_base, revive, Moves}
use Rattle.percpu_core.specs.Machine.{State, held_in_all}

-- what the plain counter sees of a gate
abbrev pub counter_of : State → PlainCounter
counter_of s = record { held = held_in_all s; base = holds_base s.control.phase; dead = s.cells.shared.dead; released = s.cells.shared.zero }

-- what is given is taken, and so is what is won of a slot; what is subtracted or given back on a slot is dropped; a mark that is won is the release
abbrev pub move_of_pass : PassEvent → Reply → Option Move
move_of_pass AddTry Given = Some (take 1)
move_of_pass AddLive Given = Some (take 1)
move_of_pass (AddGet n) Given = Some (take n)
move_of_pass (Sub n) r = Some (drop n)
move_of_pass (Take s d n) Won = Some (take n)
move_of_pass (Give s d n) Won = Some (drop n)
move_of_pass PassMark Last = Some release
move_of_pass _ _ = None

-- a kill, the drop of the initial reference, the release, its retaking and the revival. What is done to slots moves nothing
abbrev pub move_of_control : ControlEvent → Reply → Option Move
move_of_control MarkDead r = Some die
move_of_control DropBase r = Some drop_base
move_of_control Mark Last = Some release
move_of_control TakeBase r = Some retake_base
move_of_control ClearDead r = Some revive
move_of_control _ _ = None

abbrev pub move_of : Event → Reply → Option Move
move_of (Pass k e) r = move_of_pass e r
move_of (Control e) r = move_of_control e r

-- the move, if there is one, or no change
abbrev pub MayMove : PlainCounter → Option Move → PlainCounter → Type 0
MayMove old None new = new ≡ old
MayMove old (Some move) new = Moves old move new
