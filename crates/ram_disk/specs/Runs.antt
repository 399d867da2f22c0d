-- The maximal runs of equal bytes. A run is a byte and how often it is repeated.
use Rattle.std.specs.Prelude.{◌≡◌, ◌≢◌, ℕ, ◌<◌, List, [], ◌∷◌, ◌++◌, All, replicate}

-- the bytes of runs, one run after another
abbrev pub bytes_of_runs : List (ℕ × ℕ) → List ℕ
bytes_of_runs [] = []
bytes_of_runs (run ∷ runs) = replicate run.1 run.0 ++ bytes_of_runs runs

-- neighbouring runs have different bytes
abbrev pub NeighboursDiffer : List (ℕ × ℕ) → Type 0
NeighboursDiffer [] = Unit {0}
NeighboursDiffer (run ∷ []) = Unit {0}
NeighboursDiffer (run ∷ next ∷ runs) = (run.0 ≢ next.0) × NeighboursDiffer (next ∷ runs)

-- these are the maximal runs of these bytes
pub record IsRuns (runs : List (ℕ × ℕ)) (bytes : List ℕ) : Type 0 where
  pub whole : bytes_of_runs runs ≡ bytes
  pub not_empty : All (λ run. 0 < run.1) runs
  pub maximal : NeighboursDiffer runs
