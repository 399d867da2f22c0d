-- The answer to a schedule.
use Rattle.std.specs.Prelude.{◌≡◌, ℕ, List, Err}
use Rattle.gate_replay.specs.Shown.{shown_by}
use Rattle.line_text.specs.declared.fault.ParseFault.{ParseFault}

-- the input is no schedule, and this is the line of its first fault
abbrev pub IsRefusedAt : List ℕ → ℕ → Type 0
IsRefusedAt input line = (fault : ParseFault) × (shown_by input ≡ Err fault) × (line ≡ fault.line)
