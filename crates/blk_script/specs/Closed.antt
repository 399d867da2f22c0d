-- The text of runs that can't get longer.
use Rattle.std.specs.Prelude.{◌≡◌, ℕ, List, [], ◌∷◌, ◌++◌, length}
use Rattle.blk_script.specs.Texts.{run_text}

-- runs, each followed by `,`
abbrev pub closed_text : List (ℕ × ℕ) → List ℕ
closed_text [] = []
closed_text (run ∷ runs) = (run_text run ++ 44 ∷ []) ++ closed_text runs

-- the text of all runs except those that are left was appended; if there were any runs, some are left
abbrev pub IsClosed : List ℕ → List ℕ → List (ℕ × ℕ) → List (ℕ × ℕ) → Type 0
IsClosed old new runs left =
    (closed : List (ℕ × ℕ)) × (runs ≡ closed ++ left) × (new ≡ old ++ closed_text closed) × (length left ≡ 0 → length runs ≡ 0)

-- a text with something, or nothing, appended
abbrev pub HasGrown : List ℕ → List ℕ → Type 0
HasGrown old new = (more : List ℕ) × (new ≡ old ++ more)
