-- The effect of a call's count: on a slot, or of a try on a slot or the shared word.
use Rattle.std.specs.Prelude.{◌≡◌, ℕ, ◌+◌, ◌%◌, ◌<◌, ◌≤◌, ◌⊎◌, Bool, true, false, not, ◌||◌, []}
use Rattle.percpu_core.specs.declared.view.PassView.{PassView}
use Rattle.percpu_core.specs.declared.view.View.TheVariants.{OfPass}
use Rattle.percpu_core.specs.PassLearns.{begun, next_even}
use Rattle.percpu_core.specs.Views.{count}
use Rattle.percpu_gate.specs.Calls.{holding, to_take_back, StaysFound, has_dead, has_zero, TryMeets}
use Rattle.percpu_gate.specs.Seats.{GateFacts, Moment, dead_at, zero_at, front_at, slot_open_at}

-- a moment at which the slot was open, so that ZERO was clear and the front even
pub record OpenMoment (g : GateFacts) (slot : ℕ) (old : PassView) : Type 0 where
  pub moment : Moment g (OfPass old)
  pub open_there : slot_open_at slot moment ≡ true
  pub zero_clear : zero_at moment ≡ false
  pub even : front_at moment % 2 ≡ 0

-- the view of a pass that has taken this many references on a slot
abbrev pub taken_on_slot : ℕ → PassView → PassView
taken_on_slot n p = record p { standing = holding (p.standing.held + n); read = begun p; floor = next_even p.floor; live_given = p.live_given + 1 }

-- a take on a slot: if it won, the slot was open; otherwise nothing changed except what a pass that holds nothing has read
pub record SlotTake (g : GateFacts) (slot n : ℕ) (old new : PassView) (is_won : Bool) : Type 0 where
  pub moment : is_won ≡ true → OpenMoment g slot old
  pub won : is_won ≡ true → new ≡ taken_on_slot n old
  pub not_won : is_won ≡ false → (new ≡ old) ⊎ ((old.standing.held ≡ 0) × (new ≡ record old { read = [] }))

-- the effect of a try's count, given whether the reference was taken
pub record TryAdds (old new : PassView) (is_given : Bool) : Type 0 where
  pub standing : new.standing ≡ record { held = old.standing.held + count is_given; pending = to_take_back is_given }
  pub releases : new.releases ≡ old.releases
  pub seen_front : new.seen_front ≡ old.seen_front
  pub floor : old.floor ≤ new.floor
  pub same_floor : is_given ≡ false → new.floor ≡ old.floor
  pub front_loads : new.front_loads ≡ old.front_loads
  pub live_given : old.live_given ≤ new.live_given
  pub read : 0 < old.standing.held → new.read ≡ old.read
  pub anew : old.standing.held ≡ 0 → new.read ≡ []
  pub found : StaysFound old new

-- the count of a try: if it isn't given it found ZERO set, which the pass records
pub record TryCounts (g : GateFacts) (old new : PassView) (is_given : Bool) : Type 0 where
  pub moment : Moment g (OfPass old)
  pub zero : zero_at moment ≡ not is_given
  pub dead : is_given ≡ false → dead_at moment ≡ true
  pub adds : TryAdds old new is_given
  pub meets : TryMeets g has_zero old new (not is_given)
  pub found : is_given ≡ false → (new.found_dead ≡ true) × (new.found_zero ≡ true)

-- the count of a try for a live gate: if it isn't given it found DEAD set, and if it is given DEAD clear or its slot open
pub record LiveCounts (g : GateFacts) (slot : ℕ) (old new : PassView) (is_given : Bool) : Type 0 where
  pub moment : Moment g (OfPass old)
  pub refused : is_given ≡ false → dead_at moment ≡ true
  pub given : is_given ≡ true → (not (dead_at moment) || slot_open_at slot moment) ≡ true
  pub even : is_given ≡ true → front_at moment % 2 ≡ 0
  pub adds : TryAdds old new is_given
  pub floor : is_given ≡ true → new.floor ≡ next_even old.floor
  pub live_given : new.live_given ≡ old.live_given + count is_given
  pub meets : TryMeets g has_dead old new (not is_given)
  pub found : is_given ≡ false → new.found_dead ≡ true
