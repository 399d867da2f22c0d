-- The protocol on one page: how an owner's stage, its lane's word, the epoch, the cell and the freezer's mark are related.
use Rattle.std.specs.Prelude.{◌≡◌, ◌≢◌, ℕ, ◌+◌, ◌*◌, ◌%◌, ◌<◌, ◌≤◌, ◌==◌, Option, Some, None, List, length, slice_index, if◌then◌else◌}
use mathlib.Core.Option as maybe
use mathlib.Core.Option.{some}
use lib.ListN.{get_elem?}
use Rattle.bias_lanes.specs.declared.views.Stage.{Stage}
use Rattle.bias_lanes.specs.declared.views.Stage.TheVariants.{Unbiased, Parked, Idle, Trying, Entered, Leaving, Over}
use Rattle.bias_lanes.specs.declared.views.Mark.{Mark}
use Rattle.bias_lanes.specs.declared.views.Mark.TheVariants.{Unseen, Watched, Out}

-- Word 0 is the epoch. Each lane has two words: its own, and that of its cell
abbrev pub lane_place : ℕ → ℕ
lane_place lane = lane * 2 + 1

abbrev pub cell_place : ℕ → ℕ
cell_place lane = lane * 2 + 2

-- A cell's word: the owner or the freezer has its value in hand, a reference is parked in it, or its lane has no owner yet
abbrev pub out : ℕ
out = 0

abbrev pub parked : ℕ
parked = 1

abbrev pub vacant : ℕ
vacant = 2

-- A lane's word is 0 without a bias, the bias's epoch while it is idle, and one more while it is busy
abbrev pub busy : ℕ → ℕ
busy bias = bias + 1

-- this value is parked in a lane's cell
abbrev pub IsParked : {T : Type 0} → List ℕ → List (maybe.Option (Option T)) → ℕ → Option T → Type 0
IsParked words cells lane value = (slice_index words (cell_place lane) ≡ parked) × (get_elem? cells lane ≡ some (some value))

-- a bias is of an even epoch, which is no later than the word
pub record IsBias (bias epoch : ℕ) : Type 0 where
  pub even : bias % 2 ≡ 0
  pub begun : bias ≤ epoch

-- What holds of an owner at each stage. `held`: the reference that it parked is in its cell, which holds while its request is in, and while its bias is of the current epoch
abbrev pub LaneFits : Stage → ℕ → ℕ → ℕ → Type 0 → Type 0
LaneFits Unbiased bias epoch word held = (word ≡ 0) × (bias ≤ epoch)
LaneFits Parked bias epoch word held = (word ≡ 0) × IsBias bias epoch × (bias ≡ epoch → held)
LaneFits Idle bias epoch word held = (word ≡ bias) × IsBias bias epoch × (bias ≡ epoch → held)
LaneFits Trying bias epoch word held = (word ≡ busy bias) × IsBias bias epoch × (bias ≡ epoch → held)
LaneFits Entered bias epoch word held = (word ≡ busy bias) × IsBias bias epoch × held
LaneFits Leaving bias epoch word held = (word ≡ bias) × IsBias bias epoch × (bias ≡ epoch → held)
LaneFits Over bias epoch word held = IsBias bias epoch × (bias ≢ epoch)

-- What the freezer knows by a mark, which it sets only in an odd epoch
abbrev pub MarkFits : Mark → ℕ → Stage → Type 0
MarkFits Unseen epoch stage = Unit {0}
MarkFits Watched epoch stage = (epoch % 2 ≡ 1) × (stage ≢ Idle)
MarkFits Out epoch stage = (epoch % 2 ≡ 1) × (stage ≢ Entered)

-- the mark of a lane at which a look found this word
abbrev pub found_mark : ℕ → Mark
found_mark word = if word % 2 == 0 then Out else Watched

-- What is in a cell, by the cell's word
abbrev pub CellFits : {T : Type 0} → (T → Type 0) → ℕ → maybe.Option (maybe.Option (Option T)) → Type 0
CellFits {T} Fits word lies = (word ≡ parked → (x : T) × (lies ≡ some (some (Some x))) × Fits x) × (word ≡ vacant → lies ≡ some (some None))

-- the words of new lanes: the first epoch, and for each lane no bias and a vacant cell
pub record AreFirst (lanes : ℕ) (words : List ℕ) : Type 0 where
  pub size : length words ≡ lanes * 2 + 1
  pub epoch : slice_index words 0 ≡ 2
  pub blank : (lane : ℕ) → lane < lanes → (slice_index words (lane_place lane) ≡ 0) × (slice_index words (cell_place lane) ≡ vacant)
