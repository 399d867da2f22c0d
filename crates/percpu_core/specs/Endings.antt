-- The end of a gate: every pass has joined, and nothing is lost.
use Rattle.std.specs.Prelude.{◌≡◌, ℕ, ◌+◌, ◌≤◌, Bool, true, false, None, List, [], ◌∷◌, All, zip, sum_by}
use Rattle.percpu_core.specs.declared.event.Event.{Event}
use Rattle.percpu_core.specs.declared.event.Event.TheVariants.{Pass, Control}
use Rattle.percpu_core.specs.declared.pass_event.PassEvent.TheVariants.{AddTry}
use Rattle.percpu_core.specs.declared.control_event.ControlEvent.TheVariants.{ClearDead}
use Rattle.percpu_core.specs.declared.phase.Phase.{Phase}
use Rattle.percpu_core.specs.declared.phase.Phase.TheVariants.{LiveSlots, LiveAtomic, Dead}
use Rattle.percpu_core.specs.declared.reply.Reply.{Reply}
use Rattle.percpu_core.specs.declared.reply.Reply.TheVariants.{Refused}
use Rattle.percpu_core.specs.Interleavings.{Reaches}
use Rattle.percpu_core.specs.Machine.{State, after, won}
use Rattle.percpu_core.specs.Phases.{is_phase}
use Rattle.percpu_core.specs.Starts.{Opening, starts_dead, first_state}
use Rattle.percpu_core.specs.Views.{count}

-- live, or dead: no kill, revival or switch is under way
abbrev pub is_at_rest : Phase → Bool
is_at_rest LiveSlots = true
is_at_rest LiveAtomic = true
is_at_rest Dead = true
is_at_rest _ = false

-- every pass has joined, and the control has nothing left to do
pub record IsOver (s : State) : Type 0 where
  pub joined : All (λ p. p ≡ None) s.passes
  pub at_rest : is_at_rest s.control.phase ≡ true
  pub marked : s.control.to_mark ≡ false

-- 1 if the event clears DEAD with ZERO set
abbrev pub clears_zero : State → Event → ℕ
clears_zero s (Control ClearDead) = count s.cells.shared.zero
clears_zero s _ = 0

-- how often these events do so, from this state on
abbrev pub zeros_cleared : State → List Event → ℕ
zeros_cleared s [] = 0
zeros_cleared s (e ∷ es) = clears_zero s e + zeros_cleared (after s e) es

-- a try that only ZERO refuses was refused
abbrev pub IsTryRefused : Event × Reply → Type 0
IsTryRefused (Pass k AddTry, Refused) = Unit {0}
IsTryRefused (e, r) = ⊥

-- what holds of a run that is over
pub record NothingIsLost (o : Opening) (events : List Event) (replies : List Reply) (last : State) : Type 0 where
  -- a dead gate has ZERO set, and a live gate hasn't: every zero has been marked
  pub at_zero : last.cells.shared.zero ≡ is_phase Dead last.control.phase
  -- the releases are the replies Last; with 1 for a dead start they are the zeros cleared and 1 for a dead gate
  pub told : last.releases ≡ sum_by won replies
  pub releases : last.releases + count (starts_dead o.start) ≡ zeros_cleared (first_state o) events + count (is_phase Dead last.control.phase)
  -- each kill has at most one release
  pub at_most : last.releases + o.kills ≤ last.control.kills
  -- a gate that didn't start dead refused no try if it was never killed, and only tries for a live gate if it had no release
  pub never_killed : starts_dead o.start ≡ false → last.control.kills ≡ o.kills → All (λ r. r ≡ Refused → ⊥) replies
  pub never_released : starts_dead o.start ≡ false → last.releases ≡ 0 → All (λ x. IsTryRefused x → ⊥) (zip events replies)

-- whichever steps were taken, and in whatever order
abbrev pub RunsLoseNothing : Type 0
RunsLoseNothing = (o : Opening) (events : List Event) (replies : List Reply) (last : State) → Reaches o events replies last → IsOver last → NothingIsLost o events replies last
