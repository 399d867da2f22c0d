-- The rule of requests: they are pushed as 0, 1, 2 and so on, and each is drawn once, in that order. End marks come after them all.
use Rattle.std.specs.Prelude.{◌≡◌, ℕ, ◌+◌, ◌-◌, ◌<◌, true, false, ◌||◌, List, [], ◌∷◌, ◌++◌, Option, Some, None}
use Rattle.std.specs.List.{range_with_len}
use mathlib.Core.Option.{some}
use lib.ListN.{get_elem?}
use Rattle.run_queues.specs.Numbers.{IsIncreasing, times, one_below, merged}
use Rattle.run_queues.specs.Totals.{total}
use Rattle.run_queues.specs.declared.requests.Part.{Part}

-- the number of a request, and no number for an end mark
abbrev pub number_of : {T : Type 0} → (T → ℕ) → Option T → List ℕ
number_of number None = []
number_of number (Some request) = number request ∷ []

-- the numbers of the requests in a queue, oldest first
abbrev pub numbers : {T : Type 0} → (T → ℕ) → List (Option T) → List ℕ
numbers number [] = []
numbers number (item ∷ items) = number_of number item ++ numbers number items

-- an end mark is in a queue only if some were pushed, and no request comes after one
abbrev pub EndsLast : {T : Type 0} → (T → ℕ) → ℕ → List (Option T) → Type 0
EndsLast number marks [] = Unit {0}
EndsLast number marks (None ∷ items) = (0 < marks) × (numbers number items ≡ [])
EndsLast number marks (Some request ∷ items) = EndsLast number marks items

-- the parts of the first pass, which are all parts
abbrev pub all_parts : ℕ
all_parts = 4294967296

-- the first pass, which pushes
abbrev pub first_part : Part
first_part = record { parts = all_parts; pushes = true; pushed = 0; marks = 0; drained = false; drawn = [] }

-- A pass's list increases. The one pass that pushes knows how many requests and how many end marks it pushed. A pass that took an end mark knows that some were
-- pushed and that no request waits. A pass without a part has drawn nothing.
abbrev pub Fits : ℕ → ℕ → ℕ → ℕ → ℕ → Part → Type 0
Fits source taken waiting marks port v =
    IsIncreasing v.drawn
    × (v.pushes ≡ true → (port ≡ source) × (v.pushed ≡ taken + waiting) × (v.marks ≡ marks))
    × (v.drained ≡ true → (0 < marks) × (waiting ≡ 0))
    × (v.parts ≡ 0 → v.drawn ≡ [])

-- The queue holds the numbers from `taken` to the last pushed, in order, and then end marks. The passes' lists together hold each number below `taken` once,
-- and no other.
abbrev pub IsInOrder : {T : Type 0} → (T → ℕ) → List (Option T) → List Part → Type 0
IsInOrder number items views =
    (source : ℕ) × (taken : ℕ) × (waiting : ℕ) × (marks : ℕ)
    × (numbers number items ≡ range_with_len taken waiting)
    × EndsLast number marks items
    × ((x : ℕ) → total (λ v. times x v.drawn) views ≡ one_below taken x)
    × (total (λ v. v.parts) views ≡ all_parts)
    × ((port : ℕ) (v : Part) → get_elem? views port ≡ some v → Fits source taken waiting marks port v)

-- what a push of a request leaves of a pass's view, and what a push of an end mark leaves
abbrev pub after_push : Part → Part
after_push v = record v { pushed = v.pushed + 1 }

abbrev pub after_end : Part → Part
after_end v = record v { marks = v.marks + 1 }

-- what a pop leaves
abbrev pub after_pop : {T : Type 0} → (T → ℕ) → Option T → Part → Part
after_pop number None v = record v { drained = true }
after_pop number (Some request) v = record v { drawn = v.drawn ++ number request ∷ [] }

-- what is left of a pass when a consumer is split off it, and what the new consumer begins with
abbrev pub after_split : Part → Part
after_split v = record v { parts = v.parts - 1 }

abbrev pub new_consumer : Part
new_consumer = record { parts = 1; pushes = false; pushed = 0; marks = 0; drained = false; drawn = [] }

-- two passes joined into one
abbrev pub joined : Part → Part → Part
joined v w = record v { parts = v.parts + w.parts; drained = v.drained || w.drained; drawn = merged v.drawn w.drawn }

abbrev pub spent : Part
spent = record { parts = 0; pushes = false; pushed = 0; marks = 0; drained = false; drawn = [] }

-- the pass has drawn each number that was pushed, once
abbrev pub HasDrawnAll : Part → Type 0
HasDrawnAll v = (x : ℕ) → times x v.drawn ≡ one_below v.pushed x
