-- What a `Counted` writer took. `held` has the bytes that a writer holds, if they are known.
use Rattle.std.specs.Prelude.{ℕ, ◌<◌, List, Option, length, take}
use Rattle.std.specs.Io.KnownBytes.{Appends, Keeps}
use Rattle.counted_io.specs.Tally.{Tally}

-- the writer took exactly this text
abbrev pub Takes : {W : Type 0} → (W → Option (List ℕ)) → Tally W → Tally W → List ℕ → Type 0
Takes held old new text = Appends (held old.inner) (held new.inner) text

-- the writer took nothing
abbrev pub TakesNothing : {W : Type 0} → (W → Option (List ℕ)) → Tally W → Tally W → Type 0
TakesNothing held old new = Keeps (held old.inner) (held new.inner)

-- the writer took the first bytes of this text, not all of them, and nothing else
abbrev pub TakesPart : {W : Type 0} → (W → Option (List ℕ)) → Tally W → Tally W → List ℕ → Type 0
TakesPart held old new text = (n : ℕ) × (n < length text) × Takes held old new (take n text)
