use Rattle.bias_lanes.specs.Lanes.{AreFirst}
use Rattle.bias_lanes.proofs.lanes.first_words.Given as goal

-- the words of so many lanes are there
abbrev pub invariant-loop : goal.invariant-loop
invariant-loop l = AreFirst l.counter l.words.items
