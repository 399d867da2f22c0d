-- The lists of those who came back.
use Rattle.std.proofs.Common.{ℕ, List, [], ◌∷◌, ◌++◌, arith}
use Rattle.run_queues.specs.Numbers.{IsIncreasing, merged}
use Rattle.run_queues.specs.Parts.{AreGathered}
use Rattle.run_queues.proofs.Increasing.{times_merged, times_in_all_snoc, all_increase_snoc}

pub gathers : (lists : List (List ℕ)) (drawn list : List ℕ) → AreGathered lists drawn → IsIncreasing list → AreGathered (lists ++ list ∷ []) (merged drawn list)
gathers lists drawn list all rising = (
  all_increase_snoc lists list all.0 rising,
  λ x. let one = times_merged x drawn list in let two = times_in_all_snoc x lists list in let p = all.1 x in omega arith,
)
