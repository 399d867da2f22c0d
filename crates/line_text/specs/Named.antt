-- A name with a number after it.
use Rattle.std.specs.Prelude.{ℕ, ◌++◌, List, decimal}

unfoldable pub named : List ℕ → ℕ → List ℕ
named name number = name ++ decimal number
