-- The answer to a race.
use Rattle.std.specs.Prelude.{◌≡◌, ℕ, List, Err}
use Rattle.line_text.specs.declared.fault.ParseFault.{ParseFault}
use Rattle.races_run.specs.Answer.{IsAnswer}
use Rattle.races_run.specs.declared.writing.Form.TheVariants.{Outcomes}

-- the input is no race, and this is the line of its first fault
abbrev pub IsRefusedAt : List ℕ → ℕ → Type 0
IsRefusedAt input line = (fault : ParseFault) × IsAnswer Outcomes input (Err fault) × (line ≡ fault.line)
