-- Commands in a row, and one more at their end.
use Rattle.std.proofs.Common.{◌≡◌, ◌∙◌, sym, ap, ℕ, ◌+◌, arith, List, [], ◌∷◌, ◌++◌, append_assoc, sum, subst}
use Rattle.std.proofs.lemmas.List.{map_push}
use Rattle.std.proofs.lemmas.List.Sums.{sum_by-cons, sum_by_push}
use Rattle.queue_limits.specs.Bounds.{Bounds}
use Rattle.queue_limits.specs.Pieces.{IsSplit}
use Rattle.uses.specs.declared.cutting.Command.{Command}
use Rattle.uses.specs.Commands.{lengths, AreInARow}

pub row-push : (start : ℕ) (made : List Command) (c : Command) → AreInARow start made → c.first ≡ start + sum (lengths made) → AreInARow start (made ++ c ∷ [])
row-push start [] c row at = (at ∙ omega arith, tt)
row-push start (m ∷ made) c row at = (row.0, row-push (start + m.sectors) made c row.1 (omega (arith, at, sum_by-cons (λ n. n) m.sectors (lengths made))))

lengths-push : (made : List Command) (c : Command) → lengths (made ++ c ∷ []) ≡ lengths made ++ c.sectors ∷ []
lengths-push made c = map_push (λ (d : Command). d.sectors) made c

pub sum-push : (made : List Command) (c : Command) → sum (lengths (made ++ c ∷ [])) ≡ sum (lengths made) + c.sectors
sum-push made c = ap sum (lengths-push made c) ∙ sum_by_push (λ n. n) (lengths made) c.sectors

-- the piece that was the first of those left is the last of those made
pub split-push : (bounds : Bounds) (start count : ℕ) (made : List Command) (c : Command) (left : List ℕ)
    → IsSplit bounds start count (lengths made ++ c.sectors ∷ left) → IsSplit bounds start count (lengths (made ++ c ∷ []) ++ left)
split-push bounds start count made c left split = subst (IsSplit bounds start count)
    (sym (ap (λ xs. xs ++ left) (lengths-push made c) ∙ append_assoc (lengths made) (c.sectors ∷ []) left)) split
