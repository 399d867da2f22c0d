-- What a replay writes for an input: the lines of its steps, or the fault for which the input is refused.
use Rattle.std.specs.Prelude.{◌≡◌, ℕ, Option, None, Some, List, [], ◌∷◌, ◌++◌, Result, Ok, IsOkAnd}
use Rattle.line_text.specs.Numbers.{◌>>=◌}
use Rattle.line_text.specs.declared.fault.ParseFault.{ParseFault}
use Rattle.percpu_core.specs.declared.event.Event.{Event}
use Rattle.percpu_core.specs.declared.not_enabled.NotEnabled.{NotEnabled}
use Rattle.percpu_core.specs.declared.reply.Reply.{Reply}
use Rattle.percpu_core.specs.Machine.{State, refusal, reply, after}
use Rattle.percpu_core.specs.Starts.{first_state}
use Rattle.gate_replay.specs.ReplyLines.{reply_line, stuck_line, end_line}
use Rattle.gate_replay.specs.Schedules.{opening_in, schedule_of}
use Rattle.gate_replay.specs.declared.replay.Replayed.{Replayed}
use Rattle.gate_replay.specs.declared.replay.Replayed.TheVariants.{Whole, Stuck}
use Rattle.gate_replay.specs.declared.schedule.Schedule.{Schedule}

-- a text, and which line ends it
pub record Shown : Type 0 where
  pub text : List ℕ
  pub ended : Replayed

-- some text, and then what is shown
abbrev pub then_shown : List ℕ → Shown → Shown
then_shown text shown = record { text = text ++ shown.text; ended = shown.ended }

-- what the step of this line shows: its reply and what follows, or why it isn't enabled
abbrev pub step_shown : Option NotEnabled → ℕ → Reply → Shown → Shown
step_shown None line replied rest = then_shown (reply_line replied) rest
step_shown (Some why) line replied rest = record { text = stuck_line line why; ended = Stuck }

-- what these steps show from this state on, as the gate's machine takes them
abbrev pub shown_from : State → List (ℕ × Event) → Shown
shown_from s [] = record { text = end_line s; ended = Whole }
shown_from s (e ∷ es) = step_shown (refusal s e.1) e.0 (reply s e.1) (shown_from (after s e.1) es)

abbrev pub shown_of : Schedule → Shown
shown_of schedule = shown_from (first_state (opening_in schedule)) schedule.events

-- the result for an input: what its schedule shows, or the fault of an input that means none
unfoldable pub shown_by : List ℕ → Result Shown ParseFault
shown_by input = schedule_of input >>= λ schedule. Ok (shown_of schedule)

-- the replay of the input ends like this, and P holds of its text
abbrev pub EndsSo : List ℕ → Replayed → (List ℕ → Type 0) → Type 0
EndsSo input ended P = IsOkAnd (shown_by input) (λ shown. (shown.ended ≡ ended) × P shown.text)
