-- The rule of the table. Seat 0 is the freezer's, and each owner has a seat of its own.
use Rattle.std.specs.Prelude.{◌≡◌, ◌≢◌, ℕ, ◌+◌, ◌-◌, ◌*◌, ◌<◌, ◌%◌, ◌==◌, Option, None, List, [], length, replicate, slice_index, slice_index_or, slice_set, if◌then◌else◌}
use mathlib.Core.Option.{some}
use lib.ListN.{get_elem?}
use Rattle.atomic_table.specs.Table.{State}
use Rattle.bias_lanes.specs.declared.views.Stage.{Stage}
use Rattle.bias_lanes.specs.declared.views.Stage.TheVariants.{Unbiased, Parked, Idle, Entered, Over}
use Rattle.bias_lanes.specs.declared.views.Mark.{Mark}
use Rattle.bias_lanes.specs.declared.views.Mark.TheVariants.{Unseen}
use Rattle.bias_lanes.specs.declared.views.LaneView.{LaneView}
use Rattle.bias_lanes.specs.declared.views.FreezerView.{FreezerView}
use Rattle.bias_lanes.specs.declared.views.Part.{Part}
use Rattle.bias_lanes.specs.declared.views.Part.TheVariants.{OfFreezer, OfLane, OfNobody}
use Rattle.bias_lanes.specs.declared.views.View.{View}
use Rattle.bias_lanes.specs.Lanes.{lane_place, cell_place, vacant, IsParked, LaneFits, MarkFits, found_mark, CellFits}

abbrev pub Table : Type 0 → Type 0 → Type 0
Table T K = State (Option T) (View T K)

-- the freezer's mark of a lane
abbrev pub mark_at : FreezerView → ℕ → Mark
mark_at f lane = slice_index_or f.marks lane Unseen

-- an owner fits the words, the cells and what the freezer knows
pub record OwnerFits {T : Type 0} (o : LaneView T) (f : FreezerView) (words : List ℕ) (cells : List (mathlib.Core.Option.Option (Option T))) : Type 0 where
  pub lane : LaneFits o.stage o.bias f.epoch (slice_index words (lane_place o.lane)) (IsParked words cells o.lane o.parked)
  pub mark : MarkFits (mark_at f o.lane) f.epoch o.stage

-- an owner that has parked nothing yet
abbrev pub new_owner : {T : Type 0} → ℕ → LaneView T
new_owner lane = record { lane = lane; bias = 0; stage = Unbiased; parked = None }

pub record Ruled {T K : Type 0} (Fits : K → T → Type 0) (key : K) (s : Table T K) : Type 0 where
  pub size : length s.words ≡ length s.homes * 2 + 1
  pub keys : (seat : ℕ) (v : View T K) → get_elem? s.views seat ≡ some v → v.key ≡ key
  pub freezer : FreezerView
  pub first : get_elem? s.views 0 ≡ some (record { key = key; part = OfFreezer freezer })
  pub one_freezer : (seat : ℕ) (v : View T K) (f : FreezerView) → get_elem? s.views seat ≡ some v → v.part ≡ OfFreezer f → seat ≡ 0
  pub epoch : slice_index s.words 0 ≡ freezer.epoch
  -- a frozen freezer has a mark for each lane
  pub marks : freezer.epoch % 2 ≡ 1 → length freezer.marks ≡ length s.homes
  -- each owner fits its lane, which has no other owner
  pub owned : (seat : ℕ) (v : View T K) (o : LaneView T) → get_elem? s.views seat ≡ some v → v.part ≡ OfLane o → OwnerFits o freezer s.words s.homes
  pub one : (a b : ℕ) (v w : View T K) (o p : LaneView T) → get_elem? s.views a ≡ some v → get_elem? s.views b ≡ some w → v.part ≡ OfLane o → w.part ≡ OfLane p → o.lane ≡ p.lane → a ≡ b
  pub within : (seat : ℕ) (v : View T K) (o : LaneView T) → get_elem? s.views seat ≡ some v → v.part ≡ OfLane o → o.lane < length s.homes
  pub cells : (lane : ℕ) → lane < length s.homes → CellFits (Fits key) (slice_index s.words (cell_place lane)) (get_elem? s.homes lane)
  -- a lane whose cell is vacant has no owner, and fits a new one
  pub blank : (lane : ℕ) → slice_index s.words (cell_place lane) ≡ vacant → OwnerFits {T = T} (new_owner lane) freezer s.words s.homes
  pub vacant : (lane : ℕ) → slice_index s.words (cell_place lane) ≡ vacant → (seat : ℕ) (v : View T K) (o : LaneView T) → get_elem? s.views seat ≡ some v → v.part ≡ OfLane o → o.lane ≢ lane

-- The freezer of new lanes
abbrev pub new_freezer : FreezerView
new_freezer = record { epoch = 2; marks = [] }

abbrev pub first_view : {T K : Type 0} → K → View T K
first_view key = record { key = key; part = OfFreezer new_freezer }

-- a seat without a part: neither the freezer's nor an owner's
abbrev pub nobody : {T K : Type 0} → K → View T K
nobody key = record { key = key; part = OfNobody }

-- a step of an owner, or of the freezer, changes its own part
abbrev pub lane_part : {T : Type 0} → (LaneView T → LaneView T) → Part T → Part T
lane_part step (OfLane o) = OfLane (step o)
lane_part step (OfFreezer f) = OfFreezer f
lane_part step OfNobody = OfNobody

abbrev pub on_lane : {T K : Type 0} → (LaneView T → LaneView T) → View T K → View T K
on_lane step v = record { key = v.key; part = lane_part step v.part }

abbrev pub freezer_part : {T : Type 0} → (FreezerView → FreezerView) → Part T → Part T
freezer_part step (OfFreezer f) = OfFreezer (step f)
freezer_part step (OfLane o) = OfLane o
freezer_part step OfNobody = OfNobody

abbrev pub on_freezer : {T K : Type 0} → (FreezerView → FreezerView) → View T K → View T K
on_freezer step v = record { key = v.key; part = freezer_part step v.part }

-- an owner's steps
abbrev pub at_stage : {T : Type 0} → Stage → LaneView T → LaneView T
at_stage stage o = record o { stage = stage }

-- the load of the epoch before parking: the bias is that epoch, or the even epoch before it
abbrev pub begun : {T : Type 0} → ℕ → LaneView T → LaneView T
begun found o = record o { bias = found - found % 2 }

abbrev pub has_parked : {T : Type 0} → Option T → LaneView T → LaneView T
has_parked value o = record o { stage = Parked; parked = value }

-- the load of the epoch after entering: it finds the epoch of the bias, or another
abbrev pub confirmed : {T : Type 0} → ℕ → LaneView T → LaneView T
confirmed found o = at_stage (if found == o.bias then Entered else Over) o

abbrev pub stayed : {T : Type 0} → ℕ → LaneView T → LaneView T
stayed found o = at_stage (if found == o.bias then Idle else Over) o

-- the freezer's steps. In a new epoch it has looked at no lane
abbrev pub at_epoch : ℕ → ℕ → FreezerView → FreezerView
at_epoch lanes epoch f = record { epoch = epoch; marks = replicate lanes Unseen }

abbrev pub looked : ℕ → ℕ → FreezerView → FreezerView
looked lane found f = record f { marks = slice_set f.marks lane (found_mark found) }
