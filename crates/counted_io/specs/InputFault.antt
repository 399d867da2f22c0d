-- The numbers of the faults of reading an input.
use Rattle.std.specs.Prelude.{ℕ}
use Rattle.counted_io.specs.declared.input.InputFault.{InputFault}
use Rattle.counted_io.specs.declared.input.InputFault.TheVariants.{Memory, Read}

abbrev pub input_number : InputFault → ℕ
input_number Memory = 1
input_number Read = 2
