-- The laws that hold whichever steps the seats of a gate take, and in whatever order.
use Rattle.std.specs.Prelude.{◌≡◌, ℕ, ◌+◌, ◌*◌, ◌^◌, ◌<◌, ◌≤◌, false, None, List, sum_by, unsigned_abs}
use Rattle.percpu_words.specs.SlotWord.{most_delta}
use Rattle.percpu_core.specs.declared.limits.TheConstants.{SLOT_LIMIT}
use Rattle.percpu_core.specs.declared.event.Event.{Event}
use Rattle.percpu_core.specs.declared.event.Event.TheVariants.{Control}
use Rattle.percpu_core.specs.declared.control_event.ControlEvent.TheVariants.{MarkDead}
use Rattle.percpu_core.specs.declared.reply.Reply.{Reply}
use Rattle.percpu_core.specs.declared.reply.Reply.TheVariants.{Last}
use Rattle.percpu_core.specs.Phases.{holds_base}
use Rattle.percpu_core.specs.LimitLaw.{AreSmall}
use Rattle.percpu_core.specs.Laws.{Laws}
use Rattle.percpu_core.specs.Machine.{State, refusal, reply, after, won, held_in_all, Run}
use Rattle.percpu_core.specs.Starts.{Opening, IsWithinLimits, first_state}
use Rattle.percpu_core.specs.Snapshots.{snapshot_after_all, first_snapshot, origin_of, kept}
use Rattle.percpu_core.specs.CounterMoves.{counter_of, move_of, MayMove}

-- a run from this start, of enabled events alone, leads to this state. Each state on the way is the last one of a shorter run
pub record Reaches (o : Opening) (events : List Event) (replies : List Reply) (last : State) : Type 0 where
  pub within : IsWithinLimits o
  pub run : Run (first_state o) events replies last

-- all laws hold of the memory and the views to which the events lead, and the state that a world keeps is that of the machine
abbrev pub LawsAlways : Type 0
LawsAlways = (o : Opening) (events : List Event) (replies : List Reply) (last : State) → Reaches o events replies last
    → let m = snapshot_after_all (first_snapshot o) events in Laws (origin_of o) m.cells m.control m.others × (kept m ≡ last)

-- a release is won only when the initial reference is out and nothing is held
abbrev pub ReleasedAtZero : Type 0
ReleasedAtZero = (o : Opening) (events : List Event) (replies : List Reply) (last : State) (e : Event) → Reaches o events replies last → refusal last e ≡ None
    → reply last e ≡ Last → (holds_base last.control.phase ≡ false) × (held_in_all last ≡ 0)

-- a release is won at most once for each kill: the replies have no more releases than there were kills since the start
abbrev pub ReleasedOncePerKill : Type 0
ReleasedOncePerKill = (o : Opening) (events : List Event) (replies : List Reply) (last : State) → Reaches o events replies last
    → sum_by won replies + o.kills ≤ last.control.kills

-- a kill
abbrev pub kill : Event → ℕ
kill (Control MarkDead) = 1
kill _ = 0

-- any part of a run wins at most one release more than it has kills: between two kills there is at most one, and a run without a kill wins at most one
abbrev pub ReleasedOnceInALife : Type 0
ReleasedOnceInALife = (o : Opening) (events : List Event) (replies : List Reply) (mid : State) → Reaches o events replies mid
    → (more : List Event) (answers : List Reply) (last : State) → Run mid more answers last → sum_by won answers ≤ sum_by kill more + 1

-- each enabled event is the move of the plain counter that `move_of` lists for it, or changes none of the counter's four facts
abbrev pub MovesOfTheCounter : Type 0
MovesOfTheCounter = (o : Opening) (events : List Event) (replies : List Reply) (last : State) (e : Event) → Reaches o events replies last → refusal last e ≡ None
    → MayMove (counter_of last) (move_of e (reply last e)) (counter_of (after last e))

-- the shared value stays below 2 ^ 49, the front below 2 ^ 42, and the releases are at most 2 ^ 40; each delta is within its limit, and so is the sum of what was closed
abbrev pub NumbersStaySmall : Type 0
NumbersStaySmall = (o : Opening) (events : List Event) (replies : List Reply) (last : State) → Reaches o events replies last
    → (last.cells.shared.value < 2 ^ 49) × (last.cells.front < 2 ^ 42) × (last.releases ≤ 2 ^ 40) × AreSmall last.cells.slots × (unsigned_abs last.control.uncollected ≤ SLOT_LIMIT * most_delta)
