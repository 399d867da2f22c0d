-- Lanes, owners and the freezer as a caller sees them.
use Rattle.std.specs.Prelude.{◌≡◌, ◌≢◌, ℕ, ◌+◌, ◌*◌, ◌%◌, ◌^◌, ◌<◌, ◌==◌, length, Bool, Option, Some, None, is_some, IfSome, List, [], ◌∷◌, slice_index}
use Rattle.atomic_table.specs.Table.{Me}
use Rattle.atomic_table.specs.Seated.{TableId}
use Rattle.bias_lanes.specs.declared.views.Stage.{Stage}
use Rattle.bias_lanes.specs.declared.views.Stage.TheVariants.{Unbiased, Parked, Idle, Trying, Entered, Leaving, Over}
use Rattle.bias_lanes.specs.declared.views.LaneView.{LaneView}
use Rattle.bias_lanes.specs.declared.views.FreezerView.{FreezerView}
use Rattle.bias_lanes.specs.declared.views.Part.{Part}
use Rattle.bias_lanes.specs.declared.views.Part.TheVariants.{OfFreezer, OfLane, OfNobody}
use Rattle.bias_lanes.specs.declared.views.View.{View}
use Rattle.bias_lanes.specs.Lanes.{lane_place, cell_place, parked, vacant, IsParked}
use Rattle.bias_lanes.specs.Rule.{at_stage, has_parked, new_freezer, new_owner, nobody, looked}
use Rattle.bias_lanes.specs.Steps.{Moment}

-- The identity of lanes, and the key with which they were made
pub record LanesFacts (K : Type 0) : Type 0 where
  pub id : TableId
  pub key : K

-- an owner: its lanes, and what it knows
pub record LaneFacts (T K : Type 0) : Type 0 where
  pub lanes : LanesFacts K
  pub view : LaneView T

-- the freezer: its lanes, what it knows, and the cells whose references it has in hand
pub record FreezerFacts (T K : Type 0) : Type 0 where
  pub lanes : LanesFacts K
  pub view : FreezerView
  pub out : List (ℕ × Option T)

abbrev pub at : {T K : Type 0} → Stage → LaneFacts T K → LaneFacts T K
at stage l = record l { view = at_stage stage l.view }

abbrev pub owner_view : {T K : Type 0} → LaneFacts T K → View T K
owner_view l = record { key = l.lanes.key; part = OfLane l.view }

abbrev pub freezer_view : {T K : Type 0} → FreezerFacts T K → View T K
freezer_view f = record { key = f.lanes.key; part = OfFreezer f.view }

-- an owner with this value parked, and this bias
abbrev pub parking : {T K : Type 0} → T → ℕ → LaneFacts T K → LaneFacts T K
parking value bias l = record l { view = has_parked (Some value) (record l.view { bias = bias }) }

-- the view of an owner's seat, and of the freezer's
abbrev pub lane_of : {T : Type 0} → Part T → LaneView T
lane_of (OfLane o) = o
lane_of (OfFreezer f) = new_owner 0
lane_of OfNobody = new_owner 0

abbrev pub freezer_of : {T : Type 0} → Part T → FreezerView
freezer_of (OfFreezer f) = f
freezer_of (OfLane o) = new_freezer
freezer_of OfNobody = new_freezer

-- while an owner has no bias, its empty cell is in its hand
abbrev pub in_hand_at : {T : Type 0} → Stage → ℕ → List (ℕ × Option T)
in_hand_at Unbiased lane = (lane, None) ∷ []
in_hand_at Parked lane = []
in_hand_at Idle lane = []
in_hand_at Trying lane = []
in_hand_at Entered lane = []
in_hand_at Leaving lane = []
in_hand_at Over lane = []

abbrev pub lane_me : {T K : Type 0} → K → LaneView T → Me (Option T) (View T K)
lane_me key o = (record { key = key; part = OfLane o }, in_hand_at o.stage o.lane)

-- stages in which an owner may store that its lane is idle
abbrev pub CanRest : Stage → Type 0
CanRest stage = (stage ≢ Unbiased) × (stage ≢ Idle) × (stage ≢ Trying) × (stage ≢ Leaving) × (stage ≢ Over)

-- stages in which a bias may be given up
abbrev pub CanEnd : Stage → Type 0
CanEnd stage = (stage ≢ Unbiased) × (stage ≢ Entered)

module _ {T K : Type 0} (Fits : K → T → Type 0) where
  -- a load of the epoch by an owner finds that of its bias, or another
  pub record LooksAtEpoch (l : LaneFacts T K) (same : Bool) : Type 0 where
    pub moment : Moment Fits (owner_view l)
    pub answer : same ≡ (slice_index moment.state.words 0 == l.view.bias)

  -- the owner's reference is parked at a moment at which the epoch is that of its bias
  pub record FindsParked (l : LaneFacts T K) : Type 0 where
    pub moment : Moment Fits (owner_view l)
    pub same : slice_index moment.state.words 0 ≡ l.view.bias
    pub held : IsParked moment.state.words moment.state.homes l.view.lane l.view.parked

  -- an owner loads this epoch before it parks
  pub record LoadsEpoch (l : LaneFacts T K) (epoch : ℕ) : Type 0 where
    pub moment : Moment Fits (owner_view l)
    pub loaded : epoch ≡ slice_index moment.state.words 0

  -- an exchange takes the reference in a lane's cell if and only if one is parked there, at a moment that this seat can see
  pub record TakesIfParked (v : View T K) (lane : ℕ) (taken : Option T) : Type 0 where
    pub moment : Moment Fits v
    pub answer : is_some taken ≡ (slice_index moment.state.words (cell_place lane) == parked)
    pub value : IfSome taken (λ x. IsParked moment.state.words moment.state.homes lane (Some x))

  -- a lane gets its owner if and only if its cell is vacant, at a moment that a seat without a part can see
  pub record ClaimsIfVacant (key : K) (lane : ℕ) (claimed : Bool) : Type 0 where
    pub moment : Moment Fits (nobody key)
    pub answer : claimed ≡ (slice_index moment.state.words (cell_place lane) == vacant)

  -- the look of a freeze at a lane
  pub record LooksAt (lane : ℕ) (old new : FreezerFacts T K) : Type 0 where
    pub moment : Moment Fits (freezer_view old)
    pub leaves : new ≡ record old { view = looked lane (slice_index moment.state.words (lane_place lane)) old.view }

  -- a lane was busy, at a moment of this epoch that the freezer met
  pub record FindsBusy (f : FreezerFacts T K) : Type 0 where
    pub lane : ℕ
    pub seen : FreezerView
    pub same : seen.epoch ≡ f.view.epoch
    pub moment : Moment Fits (record { key = f.lanes.key; part = OfFreezer seen })
    pub busy : slice_index moment.state.words (lane_place lane) % 2 ≡ 1

-- how an owner's fields and its seat are related
pub record IsOwner {T K : Type 0} (id : TableId) (me : Me (Option T) (View T K)) (number loaded : ℕ) (now : Stage) : Type 0 where
  pub sits : me ≡ lane_me me.0.key (lane_of me.0.part)
  pub lane : (lane_of me.0.part).lane ≡ number
  pub bias : (lane_of me.0.part).bias ≡ loaded
  pub stage : (lane_of me.0.part).stage ≡ now
  pub even : loaded % 2 ≡ 0
  pub there : number < id.slots
  pub size : id.words ≡ id.slots * 2 + 1
  pub few : id.slots < 2 ^ 32

-- the same for the freezer
pub record IsFreezer {T K : Type 0} (id : TableId) (me : Me (Option T) (View T K)) (now : ℕ) : Type 0 where
  pub sits : me.0 ≡ record { key = me.0.key; part = OfFreezer (freezer_of me.0.part) }
  pub epoch : (freezer_of me.0.part).epoch ≡ now
  pub marks : now % 2 ≡ 1 → length (freezer_of me.0.part).marks ≡ id.slots
  pub size : id.words ≡ id.slots * 2 + 1
  pub few : id.slots < 2 ^ 32
