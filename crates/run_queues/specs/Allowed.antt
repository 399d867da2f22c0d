-- What the rule of a queue allows a pass to do. `then` says what the pass knows afterwards, `fact` what it learns about the items.
use Rattle.std.specs.Prelude.{ℕ, List}
use Rattle.crossbeam_queue.specs.Fifo.{Pushes, Pops, Learns}
use Rattle.crossbeam_queue.specs.Passes.{Pass, view}

module _ {T V : Type 0} (holds : List T → List V → Type 0) where
  -- to push this item into a queue with room for this many
  abbrev pub MayPush : ℕ → Pass T V → T → (V → T → V → Type 0) → (V → List T → Type 0) → Type 0
  MayPush room pass item then fact = Pushes holds room pass.id (view pass) item (then (view pass) item) × Learns holds pass.id (view pass) (fact (view pass))

  -- to take the first item, whichever it is
  abbrev pub MayPop : Pass T V → (V → T → V → Type 0) → (V → List T → Type 0) → Type 0
  MayPop pass then fact = Pops holds pass.id (view pass) (then (view pass)) × Learns holds pass.id (view pass) (fact (view pass))
