-- What a reference counter means, and how it may move. It knows no slot, bias or mark.
use Rattle.std.specs.Prelude.{◌≡◌, ℕ, ◌+◌, ◌-◌, ◌≤◌, Bool, true, false}

-- how many references are held, whether the initial reference is held as well, whether the counter was killed and whether it was released
pub record PlainCounter : Type 0 where
  pub held : ℕ
  pub base : Bool
  pub dead : Bool
  pub released : Bool

pub data Move : Type 0 where
  take : ℕ → Move
  drop : ℕ → Move
  die : Move
  drop_base : Move
  release : Move
  retake_base : Move
  revive : Move

-- when each move may be made, and what it changes
abbrev pub Moves : PlainCounter → Move → PlainCounter → Type 0
Moves old (take k) new = (old.released ≡ false) × (new ≡ record old { held = old.held + k })
Moves old (drop k) new = (k ≤ old.held) × (new ≡ record old { held = old.held - k })
Moves old die new = (old.dead ≡ false) × (new ≡ record old { dead = true })
Moves old drop_base new = (old.dead ≡ true) × (old.base ≡ true) × (new ≡ record old { base = false })
Moves old release new = (old.dead ≡ true) × (old.base ≡ false) × (old.held ≡ 0) × (old.released ≡ false) × (new ≡ record old { released = true })
Moves old retake_base new = (old.dead ≡ true) × (old.base ≡ false) × (new ≡ record old { base = true })
Moves old revive new = (old.dead ≡ true) × (old.base ≡ true) × (new ≡ record old { dead = false; released = false })
