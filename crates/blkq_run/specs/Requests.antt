-- What the words after the program's name ask for.
use Rattle.std.specs.Prelude.{◌≡◌, ◌⊎◌, ℕ, List, [], ◌∷◌, codes, Ok}
use Rattle.line_text.specs.Numbers.{number_in}
use Rattle.blk_workers.specs.Sizes.{Sizes, AreWithin}

-- a word spells a number of 32 bits, as numbers are spelled in a script
abbrev pub Spells : List ℕ → ℕ → Type 0
Spells word number = number_in 0 4294967295 word ≡ Ok number

-- the sizes of a run for which none are given
abbrev pub usual : Sizes
usual = record { workers = 4; slots = 8; tags = 16 }

-- `run`, alone or with its workers, slots and tags, within the limits
abbrev pub AsksRun : List (List ℕ) → Sizes → Type 0
AsksRun (word ∷ []) sizes = (word ≡ codes "run") × (sizes ≡ usual)
AsksRun (word ∷ workers ∷ slots ∷ tags ∷ []) sizes =
    (word ≡ codes "run") × Spells workers sizes.workers × Spells slots sizes.slots × Spells tags sizes.tags × AreWithin sizes
AsksRun words sizes = ⊥

-- a run of some sizes
abbrev pub AsksSomeRun : List (List ℕ) → Type 0
AsksSomeRun words = (sizes : Sizes) × AsksRun words sizes

-- `replay`, alone
abbrev pub AsksReplay : List (List ℕ) → Type 0
AsksReplay (word ∷ []) = word ≡ codes "replay"
AsksReplay words = ⊥

-- a run or a replay
abbrev pub AsksSomething : List (List ℕ) → Type 0
AsksSomething words = AsksSomeRun words ⊎ AsksReplay words
