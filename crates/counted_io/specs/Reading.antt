-- What reading takes from a `Counted` reader. `left` has the bytes that a reader has left, if they are known.
use Rattle.std.specs.Prelude.{ℕ, ◌≤◌, List, Option, IfSome, length}
use Rattle.std.specs.Io.KnownBytes.{Consumes}
use Rattle.counted_io.specs.Tally.{Tally}

-- P holds of the bytes that the reader has left
abbrev pub IfKnown : {R : Type 0} → (R → Option (List ℕ)) → Tally R → (List ℕ → Type 0) → Type 0
IfKnown left reader P = IfSome (left reader.inner) P

-- the bytes that are left are the earlier ones without the first of them, which are at most this many
abbrev pub LosesUpTo : Option (List ℕ) → Option (List ℕ) → ℕ → Type 0
LosesUpTo old new most = (taken : List ℕ) × Consumes old new taken × (length taken ≤ most)

-- the reader gave its first bytes, at most this many
abbrev pub TakesUpTo : {R : Type 0} → (R → Option (List ℕ)) → Tally R → Tally R → ℕ → Type 0
TakesUpTo left old new most = LosesUpTo (left old.inner) (left new.inner) most
