-- The status and the line with which a fault is reported.
use Rattle.std.specs.Prelude.{ℕ}
use Rattle.line_text.specs.declared.fault.ScriptFault.{ScriptFault}
use Rattle.line_text.specs.declared.fault.ScriptFault.TheVariants.{Memory, Parse, Overlap}

-- the status of a fault
abbrev pub status_of : ScriptFault → ℕ
status_of (Parse fault) = 2
status_of (Overlap pair) = 3
status_of Memory = 4

-- the line of a fault, or 0 if it has none
abbrev pub line_of : ScriptFault → ℕ
line_of (Parse fault) = fault.line
line_of (Overlap pair) = pair.line
line_of Memory = 0
