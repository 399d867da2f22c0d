-- The rule of completions: no number is reported twice.
use Rattle.std.specs.Prelude.{◌≡◌, ℕ, ◌+◌, true, false, List, [], ◌∷◌, ◌++◌, map}
use mathlib.Core.Option.{some}
use lib.ListN.{get_elem?}
use Rattle.run_queues.specs.Numbers.{times, one_below}
use Rattle.run_queues.specs.Totals.{total}
use Rattle.run_queues.specs.declared.completions.Turn.{Turn}

-- the first pass, which collects, and a pass that may report one completion
abbrev pub first_turn : Turn
first_turn = record { collects = true; given = 0; may_tell = []; collected = [] }

abbrev pub turn_of : ℕ → Turn
turn_of number = record { collects = false; given = 0; may_tell = number ∷ []; collected = [] }

-- a turn that is over
abbrev pub no_turn : Turn
no_turn = record { collects = false; given = 0; may_tell = []; collected = [] }

-- Each number for which a turn was given is in one place: in a turn that isn't over, in the queue, or collected. No other number is anywhere. One pass
-- collects, and it knows how many turns were given.
abbrev pub IsToldOnce : {T : Type 0} → (T → ℕ) → List T → List Turn → Type 0
IsToldOnce number items views =
    (collector : ℕ) × (given : ℕ)
    × ((x : ℕ) → total (λ v. times x v.may_tell) views + (times x (map number items) + total (λ v. times x v.collected) views) ≡ one_below given x)
    × ((port : ℕ) (v : Turn) → get_elem? views port ≡ some v → v.collects ≡ true → (port ≡ collector) × (v.given ≡ given))

-- the pass that collects, after it gives a turn
abbrev pub after_turn : Turn → Turn
after_turn v = record v { given = v.given + 1 }

-- the pass that collects, after a pop
abbrev pub after_collect : ℕ → Turn → Turn
after_collect number v = record v { collected = v.collected ++ number ∷ [] }
