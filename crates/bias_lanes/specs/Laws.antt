-- The laws, at each moment that a seat can meet.
use Rattle.std.specs.Prelude.{◌≡◌, ◌≢◌, ℕ, ◌%◌, ◌≤◌, slice_index}
use mathlib.Core.Option.{some}
use lib.ListN.{get_elem?}
use Rattle.bias_lanes.specs.declared.views.Stage.TheVariants.{Unbiased, Idle, Entered}
use Rattle.bias_lanes.specs.declared.views.Mark.TheVariants.{Watched, Out}
use Rattle.bias_lanes.specs.declared.views.LaneView.{LaneView}
use Rattle.bias_lanes.specs.declared.views.Part.TheVariants.{OfLane}
use Rattle.bias_lanes.specs.declared.views.View.{View}
use Rattle.bias_lanes.specs.Lanes.{IsParked}
use Rattle.bias_lanes.specs.Rule.{mark_at}
use Rattle.bias_lanes.specs.Steps.{Moment}

module _ {T K : Type 0} (Fits : K → T → Type 0) where
  -- an owner with this view is there at the moment, whichever seat sees it
  abbrev pub IsThere : {v : View T K} → Moment Fits v → LaneView T → Type 0
  IsThere m o = (seat : ℕ) × (w : View T K) × (get_elem? m.state.views seat ≡ some w) × (w.part ≡ OfLane o)

  -- Exclusion: while a request is in, the reference that its owner parked is in its cell
  abbrev pub EnteredIsParked : Type 0
  EnteredIsParked = (v : View T K) (m : Moment Fits v) (o : LaneView T) → IsThere m o → o.stage ≡ Entered → IsParked m.state.words m.state.homes o.lane o.parked

  -- No late entry: an owner that is marked out has no request in, and a load of the epoch never finds that of its bias
  abbrev pub OutStaysOut : Type 0
  OutStaysOut = (v : View T K) (m : Moment Fits v) (o : LaneView T) → IsThere m o → mark_at m.ruled.freezer o.lane ≡ Out → (o.stage ≢ Entered) × (o.stage ≢ Unbiased → o.bias ≢ slice_index m.state.words 0)

  -- Nothing forgotten: an owner that is watched isn't idle, and its bias isn't of the current epoch
  abbrev pub WatchedIsNotAtRest : Type 0
  WatchedIsNotAtRest = (v : View T K) (m : Moment Fits v) (o : LaneView T) → IsThere m o → mark_at m.ruled.freezer o.lane ≡ Watched → (o.stage ≢ Idle) × (o.stage ≢ Unbiased → o.bias ≢ slice_index m.state.words 0)

  -- a bias is of an even epoch that is no later than the word, which is the freezer's
  abbrev pub BiasIsEven : Type 0
  BiasIsEven = (v : View T K) (m : Moment Fits v) (o : LaneView T) → IsThere m o → (o.stage ≢ Unbiased → o.bias % 2 ≡ 0) × (o.bias ≤ slice_index m.state.words 0) × (m.ruled.freezer.epoch ≡ slice_index m.state.words 0)
