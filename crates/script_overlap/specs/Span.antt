-- Which sectors the requests of a span touch.
use Rattle.std.specs.Prelude.{◌≡◌, ℕ, ◌+◌, ◌<◌, ◌≤◌, Bool, true, false, List, length}
use Rattle.std.specs.List.{slice_index_or}

-- whether a sector is touched
abbrev pub is_touched : List Bool → ℕ → Bool
is_touched marks sector = slice_index_or marks sector false

-- one of these sectors is touched
pub record TouchesOne (marks : List Bool) (start count : ℕ) : Type 0 where
  pub sector : ℕ
  pub from_start : start ≤ sector
  pub to_end : sector < start + count
  pub touched : is_touched marks sector ≡ true

-- none of these sectors is touched
abbrev pub TouchesNone : List Bool → ℕ → ℕ → Type 0
TouchesNone marks start count = (sector : ℕ) → start ≤ sector → sector < start + count → is_touched marks sector ≡ false

-- no sector is touched
abbrev pub IsClear : List Bool → Type 0
IsClear marks = (sector : ℕ) → is_touched marks sector ≡ false

-- these sectors are touched now, and every other is as it was
pub record Adds (old new : List Bool) (start count : ℕ) : Type 0 where
  pub sectors : length new ≡ length old
  pub inside : (sector : ℕ) → start ≤ sector → sector < start + count → is_touched new sector ≡ true
  pub below : (sector : ℕ) → sector < start → is_touched new sector ≡ is_touched old sector
  pub above : (sector : ℕ) → start + count ≤ sector → is_touched new sector ≡ is_touched old sector
