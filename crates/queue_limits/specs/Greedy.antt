-- The list of pieces, made by cutting one piece after another off what is left, each by its place alone.
use Rattle.std.specs.Prelude.{ℕ, ◌+◌, ◌-◌, ◌%◌, ◌==◌, if◌then◌else◌, min, zero, suc, List, [], ◌∷◌, nat_le, nat_lt}
use Rattle.queue_limits.specs.Bounds.{Bounds}

-- the reach at `start`: the maximum number of sectors, starting there, that the limits allow in one piece
abbrev pub reach : Bounds → ℕ → ℕ
reach bounds start = if bounds.chunk == 0 then bounds.max else min bounds.max (bounds.chunk - start % bounds.chunk)

-- of the `sectors` that start at `start`, those up to the last multiple of the physical size, or all if none is above `start`
abbrev pub to_block : Bounds → ℕ → ℕ → ℕ
to_block bounds start sectors =
    let past = (start + sectors) % bounds.physical in
    if nat_lt past sectors then sectors - past else sectors

-- the length of the first piece of the `left` sectors that start at `start`
abbrev pub first_piece : Bounds → ℕ → ℕ → ℕ
first_piece bounds start left = if nat_le left (reach bounds start) then left else to_block bounds start (reach bounds start)

-- at most `turns` pieces of the `left` sectors that start at `start`
abbrev pub greedy_pieces : ℕ → Bounds → ℕ → ℕ → List ℕ
greedy_pieces zero bounds start left = []
greedy_pieces (suc turns) bounds start left =
    let length = first_piece bounds start left in
    if left == 0 then [] else length ∷ greedy_pieces turns bounds (start + length) (left - length)
