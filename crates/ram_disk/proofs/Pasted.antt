-- Sectors that are put in their places, one after another.
use Rattle.std.proofs.Common.{◌≡◌, ℕ, ◌+◌, ◌<◌, List, length, get_or, set, ap, ◌∙◌}
use Rattle.std.proofs.lemmas.List.Edits.{paste_more}
use lib.Seq.{paste}

-- one more sector of the list is in its place
pub one_more : (before kept sectors : List (List ℕ)) (start count place : ℕ) (sector : List ℕ) → kept ≡ paste before start sectors count → place ≡ start + count → start + count < length before → count < length sectors → sector ≡ get_or sectors count sector → set kept place sector ≡ paste before start sectors (count + 1)
one_more before kept sectors start count place sector e at within more is =
    rw (e, at) (ap (λ x. set (paste before start sectors count) (start + count) x) is ∙ paste_more before start sectors count sector within more)
