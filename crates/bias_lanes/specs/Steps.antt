-- The facts that each step gives its caller.
use Rattle.std.specs.Prelude.{◌≡◌, ◌≢◌, ℕ, ◌+◌, ◌*◌, ◌-◌, ◌/◌, Option, Some, None, List, [], ◌∷◌, slice_index}
use mathlib.Core.Option.{some}
use lib.ListN.{get_elem?}
use Rattle.atomic_table.specs.Table.{Me, rest}
use Rattle.bias_lanes.specs.declared.views.Part.TheVariants.{OfLane}
use Rattle.bias_lanes.specs.declared.views.View.{View}
use Rattle.bias_lanes.specs.Lanes.{parked, vacant}
use Rattle.bias_lanes.specs.Rule.{Table, Ruled, new_owner}

-- the lanes between two steps, as a seat with this view may find them
pub record Moment {T K : Type 0} (Fits : K → T → Type 0) (v : View T K) : Type 0 where
  pub state : Table T K
  pub ruled : Ruled Fits v.key state
  pub seat : ℕ
  pub sees : get_elem? state.views seat ≡ some v

-- the lane of a lane's word, or of its cell's
abbrev pub lane_of_word : ℕ → ℕ
lane_of_word word = (word - 1) / 2

-- the value that a seat took last
abbrev pub in_hand : {T : Type 0} → List (ℕ × Option T) → Option T
in_hand [] = None
in_hand (x ∷ xs) = x.1

module _ {T K : Type 0} (Fits : K → T → Type 0) where
  -- a load, which finds a word at a moment
  pub record Found (after : ℕ → View T K → View T K) (word : ℕ) (me : Me (Option T) (View T K)) (found : ℕ) (new : Me (Option T) (View T K)) : Type 0 where
    pub moment : Moment Fits me.0
    pub found_is : found ≡ slice_index moment.state.words word
    pub learned : new ≡ (after found me.0, me.1)

  -- a store
  pub record Stored (after : View T K → View T K) (me : Me (Option T) (View T K)) (stored : ℕ) (new : Me (Option T) (View T K)) : Type 0 where
    pub moment : Moment Fits me.0
    pub learned : new ≡ (after me.0, me.1)

  -- a store by which the value that the seat took last goes into its cell
  pub record Gave (after : Option T → View T K → View T K) (me : Me (Option T) (View T K)) (stored : ℕ) (new : Me (Option T) (View T K)) : Type 0 where
    pub moment : Moment Fits me.0
    pub learned : new ≡ (after (in_hand me.1) me.0, rest me.1)

  -- an exchange that takes the reference in a lane's cell, if one is parked there
  pub record Took (after : View T K → View T K) (lane : ℕ) (me : Me (Option T) (View T K)) (found : ℕ) (new : Me (Option T) (View T K)) : Type 0 where
    pub moment : Moment Fits me.0
    pub found_is : found ≡ slice_index moment.state.words (lane * 2 + 2)
    pub taken : found ≡ parked → (x : T) × (get_elem? moment.state.homes lane ≡ some (some (Some x))) × Fits me.0.key x × (new ≡ (after me.0, (lane, Some x) ∷ me.1))
    pub missed : found ≢ parked → new ≡ me

  -- an exchange by which a seat without a part becomes the owner of a lane, if the lane has none
  pub record Claimed (lane : ℕ) (me : Me (Option T) (View T K)) (found : ℕ) (new : Me (Option T) (View T K)) : Type 0 where
    pub moment : Moment Fits me.0
    pub found_is : found ≡ slice_index moment.state.words (lane * 2 + 2)
    pub claimed : found ≡ vacant → new ≡ (record { key = me.0.key; part = OfLane (new_owner lane) }, (lane, None) ∷ me.1)
    pub missed : found ≢ vacant → new ≡ me
