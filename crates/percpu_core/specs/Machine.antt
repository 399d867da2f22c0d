-- The machine of a gate: what a world keeps, which events are enabled, and the reply to each and what it changes.
use Rattle.std.specs.Prelude.{◌≡◌, ℕ, ◌+◌, Bool, Option, Some, None, option_map, List, [], ◌∷◌, sum_by, find, length, slice_index_or, slice_set}
use Rattle.percpu_core.specs.declared.event.Event.{Event}
use Rattle.percpu_core.specs.declared.event.Event.TheVariants.{Pass, Control}
use Rattle.percpu_core.specs.declared.pass_event.PassEvent.{PassEvent}
use Rattle.percpu_core.specs.declared.control_event.ControlEvent.{ControlEvent}
use Rattle.percpu_core.specs.declared.control_event.ControlEvent.TheVariants.{Join}
use Rattle.percpu_core.specs.declared.reply.Reply.{Reply}
use Rattle.percpu_core.specs.declared.reply.Reply.TheVariants.{Last}
use Rattle.percpu_core.specs.declared.pass_standing.PassStanding.{PassStanding}
use Rattle.percpu_core.specs.declared.control_standing.ControlStanding.{ControlStanding}
use Rattle.percpu_core.specs.declared.not_enabled.NotEnabled.{NotEnabled}
use Rattle.percpu_core.specs.declared.not_enabled.NotEnabled.TheVariants.{NoSuchActor, NoSuchSlot, WrongPhase, NothingHeld, MidCall, HeldFull, WornOut, NoSuchWord, BadAmount, StillHeld}
use Rattle.percpu_core.specs.Cells.{Cells, sizes_of}
use Rattle.percpu_core.specs.PassSteps.{hinders_pass, pass_reply, cells_after_pass, standing_after}
use Rattle.percpu_core.specs.ControlSteps.{hinders_control, control_reply, cells_after_control, control_standing_after}

-- what a world keeps: the memory, the states of the control and of each pass (a joined pass is gone), and the releases of all seats
pub record State : Type 0 where
  pub cells : Cells
  pub control : ControlStanding
  pub passes : List (Option PassStanding)
  pub releases : ℕ

-- the order in which the reasons are tested
abbrev pub order : List NotEnabled
order = NoSuchActor ∷ NoSuchSlot ∷ NoSuchWord ∷ MidCall ∷ WrongPhase ∷ NothingHeld ∷ BadAmount ∷ HeldFull ∷ StillHeld ∷ WornOut ∷ []

-- no reason holds against a step, given whether each reason does
abbrev pub IsEnabled : (NotEnabled → Bool) → Type 0
IsEnabled hinders = find hinders order ≡ None

-- the state of this pass
abbrev pub pass_at : State → ℕ → Option PassStanding
pass_at s k = slice_index_or s.passes k None

abbrev pub held_in : Option PassStanding → ℕ
held_in None = 0
held_in (Some p) = p.held

abbrev pub held_at : State → ℕ → ℕ
held_at s k = held_in (pass_at s k)

abbrev pub held_in_all : State → ℕ
held_in_all s = sum_by held_in s.passes

-- the pass that is to join
abbrev pub joining : State → ControlEvent → Option PassStanding
joining s (Join k) = pass_at s k
joining s _ = None

-- why a pass's step isn't enabled; a pass that isn't there has no step
abbrev pub pass_refusal : Cells → Option PassStanding → PassEvent → Option NotEnabled
pass_refusal cells None e = Some NoSuchActor
pass_refusal cells (Some p) e = find (hinders_pass (sizes_of cells) p e) order

-- the first reason against the event, if there is one
abbrev pub refusal : State → Event → Option NotEnabled
refusal s (Pass k e) = pass_refusal s.cells (pass_at s k) e
refusal s (Control e) = find (hinders_control (sizes_of s.cells) s.cells.shared.zero (joining s e) s.control e) order

abbrev pub reply : State → Event → Reply
reply s (Pass k e) = pass_reply e s.cells
reply s (Control e) = control_reply e s.control s.cells

-- 1 for a release
abbrev pub won : Reply → ℕ
won Last = 1
won _ = 0

abbrev pub passes_after : ControlEvent → List (Option PassStanding) → List (Option PassStanding)
passes_after (Join k) passes = slice_set passes k None
passes_after _ passes = passes

-- the state after an enabled event
abbrev pub after : State → Event → State
after s (Pass k e) = let r = pass_reply e s.cells in record {
  cells = cells_after_pass e s.cells;
  control = s.control;
  passes = slice_set s.passes k (option_map (standing_after e r) (pass_at s k));
  releases = s.releases + won r;
}
after s (Control e) = let r = control_reply e s.control s.cells in record {
  cells = cells_after_control e s.control s.cells;
  control = control_standing_after e r (length s.cells.slots) s.cells.shared.dead s.control;
  passes = passes_after e s.passes;
  releases = s.releases + won r;
}

-- there are as many passes, slots and guarded words as before
pub record SameSizes (old new : State) : Type 0 where
  pub passes : length new.passes ≡ length old.passes
  pub slots : length new.cells.slots ≡ length old.cells.slots
  pub words : length new.cells.words ≡ length old.cells.words

-- these replies to these events, each enabled in the state before it, lead from old to new
abbrev pub Run : State → List Event → List Reply → State → Type 0
Run old [] [] new = new ≡ old
Run old (e ∷ es) (r ∷ rs) new = (refusal old e ≡ None) × (r ≡ reply old e) × Run (after old e) es rs new
Run old [] (r ∷ rs) new = ⊥
Run old (e ∷ es) [] new = ⊥
