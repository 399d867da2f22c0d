-- What a script says.
use Rattle.std.specs.Prelude.{ℕ, Bool, true, false, List}
use Rattle.script_meaning.specs.declared.script.Line.{Line}
use Rattle.script_meaning.specs.declared.script.Version.{Version}
use Rattle.script_meaning.specs.declared.script.Version.TheVariants.{One, Two}

-- its version, the disk's sectors, how many sectors the hardware takes in one request, and the remaining lines
pub record Meant : Type 0 where
  pub version : Version
  pub sectors : ℕ
  pub hardware : ℕ
  pub lines : List Line

abbrev pub version_number : Version → ℕ
version_number One = 1
version_number Two = 2

-- whether overlapping requests are ordered by a drain
abbrev pub orders : Version → Bool
orders One = false
orders Two = true
