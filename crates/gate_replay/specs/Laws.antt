-- What a replay shows is a run of the gate's machine.
use Rattle.std.specs.Prelude.{◌≡◌, ℕ, Some, List, ◌∷◌, ◌++◌, map}
use Rattle.std.specs.List.{flat_map}
use Rattle.percpu_core.specs.declared.event.Event.{Event}
use Rattle.percpu_core.specs.declared.not_enabled.NotEnabled.{NotEnabled}
use Rattle.percpu_core.specs.declared.reply.Reply.{Reply}
use Rattle.percpu_core.specs.Endings.{IsOver, NothingIsLost}
use Rattle.percpu_core.specs.Machine.{State, Run, refusal}
use Rattle.percpu_core.specs.Starts.{IsWithinLimits, first_state}
use Rattle.gate_replay.specs.ReplyLines.{reply_line, stuck_line, end_line}
use Rattle.gate_replay.specs.Schedules.{opening_in}
use Rattle.gate_replay.specs.Shown.{shown_from, shown_of}
use Rattle.gate_replay.specs.declared.replay.Replayed.TheVariants.{Whole, Stuck}
use Rattle.gate_replay.specs.declared.schedule.Schedule.{Schedule}

abbrev pub step_of : ℕ × Event → Event
step_of e = e.1

-- if the machine takes all steps, their replies are shown, and then the state that they leave
abbrev pub WholeRunsAreShown : Type 0
WholeRunsAreShown = (first : State) (events : List (ℕ × Event)) (replies : List Reply) (last : State) → Run first (map step_of events) replies last
    → shown_from first events ≡ record { text = flat_map reply_line replies ++ end_line last; ended = Whole }

-- if it takes some and the next isn't enabled, their replies are shown, and then the line of the step that isn't enabled
abbrev pub StuckRunsAreShown : Type 0
StuckRunsAreShown = (first : State) (before : List (ℕ × Event)) (replies : List Reply) (here : State) (line : ℕ) (event : Event) (why : NotEnabled) (later : List (ℕ × Event))
    → Run first (map step_of before) replies here → refusal here event ≡ Some why
    → shown_from first (before ++ (line, event) ∷ later) ≡ record { text = flat_map reply_line replies ++ stuck_line line why; ended = Stuck }

-- a schedule of which all steps are taken, and that leaves every pass joined and the control at rest, shows their replies and the state that they leave, and
-- nothing is lost in it
abbrev pub EndedReplaysLoseNothing : Type 0
EndedReplaysLoseNothing = (schedule : Schedule) (replies : List Reply) (last : State) → IsWithinLimits (opening_in schedule)
    → Run (first_state (opening_in schedule)) (map step_of schedule.events) replies last → IsOver last
    → (shown_of schedule ≡ record { text = flat_map reply_line replies ++ end_line last; ended = Whole }) × NothingIsLost (opening_in schedule) (map step_of schedule.events) replies last
