-- The bytes that a write repeats.
use Rattle.std.specs.Prelude.{ℕ, List}
use Rattle.script_meaning.specs.declared.script.Bytes.{Bytes}
use Rattle.script_meaning.specs.declared.script.Bytes.TheVariants.{Short, Long}

-- the bytes, kept in place or in memory of their own
abbrev pub bytes_of : Bytes → List ℕ
bytes_of (Short bytes) = bytes
bytes_of (Long bytes) = bytes.items
