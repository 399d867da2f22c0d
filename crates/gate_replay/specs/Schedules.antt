-- The schedule that a text means, or its first fault.
use Rattle.std.specs.Prelude.{ℕ, Bool, List, [], ◌∷◌, Result, Ok}
use Rattle.line_text.specs.Numbers.{◌>>=◌}
use Rattle.line_text.specs.Answers.{at_line}
use Rattle.line_text.specs.Statements.{Unread, unread, first_or, after_first}
use Rattle.line_text.specs.declared.fault.Why.{Why}
use Rattle.line_text.specs.declared.fault.Why.TheVariants.{NoVersion, NoWorld}
use Rattle.line_text.specs.declared.fault.ParseFault.{ParseFault}
use Rattle.percpu_core.specs.declared.event.Event.{Event}
use Rattle.percpu_core.specs.Starts.{Opening, opening}
use Rattle.gate_replay.specs.EventLine.{event_of}
use Rattle.gate_replay.specs.WorldLine.{gate_of, world_of}
use Rattle.gate_replay.specs.declared.schedule.Schedule.{Schedule}
use Rattle.gate_replay.specs.declared.world_line.WorldLine.{WorldLine}

-- what a gate is made with, from a line, and from a schedule
abbrev pub opened : WorldLine → Opening
opened said = opening said.slots said.passes said.start said.kills said.words

abbrev pub opening_in : Schedule → Opening
opening_in schedule = opening schedule.slots schedule.passes schedule.start schedule.kills schedule.words

-- the schedule of a world and of steps in it
abbrev pub schedule_in : Opening → List (ℕ × Event) → Schedule
schedule_in world events = record { slots = world.slots; passes = world.passes; start = world.start; kills = world.kills; words = world.words; events = events }

-- the step that the words of a line describe, if it has any
abbrev pub told_by : Result (List (List ℕ)) Why → Result Event Why
told_by words = words >>= event_of

-- the steps, each with its line's number, or the first fault among them
abbrev pub events_of : List (ℕ × Result (List (List ℕ)) Why) → Result (List (ℕ × Event)) ParseFault
events_of [] = Ok []
events_of (said ∷ more) =
    at_line said.0 (told_by said.1) >>= λ event.
    events_of more >>= λ events.
    Ok ((said.0, event) ∷ events)

-- the first line that isn't empty or a comment has to name the version
abbrev pub gate_in : Unread → Result Bool ParseFault
gate_in text = first_or NoVersion text >>= λ said. at_line said.0 (gate_of said.1)

-- and the next one describes the world
abbrev pub world_in : Unread → Result Opening ParseFault
world_in text = first_or NoWorld text >>= λ said. at_line said.0 (world_of said.1)

-- the version, then the world, then the steps
abbrev pub read_schedule : Unread → Result Schedule ParseFault
read_schedule text =
    gate_in text >>= λ first.
    world_in (after_first text) >>= λ world.
    events_of (after_first (after_first text)).said >>= λ events.
    Ok (schedule_in world events)

-- the schedule that a text means, or its first fault
abbrev pub schedule_of : List ℕ → Result Schedule ParseFault
schedule_of bytes = unread bytes >>= read_schedule
