-- The script that a text means, or its first fault.
use Rattle.std.specs.Prelude.{ℕ, List, [], ◌∷◌, Result, Ok}
use Rattle.blk_script.specs.Grammar.{version_of, disk_of, what_of}
use Rattle.blk_script.specs.declared.parser.DiskLine.{DiskLine}
use Rattle.line_text.specs.Answers.{at_line}
use Rattle.line_text.specs.Numbers.{◌>>=◌}
use Rattle.line_text.specs.Statements.{Unread, unread, first_or, after_first}
use Rattle.line_text.specs.declared.fault.ParseFault.{ParseFault}
use Rattle.line_text.specs.declared.fault.Why.{Why}
use Rattle.line_text.specs.declared.fault.Why.TheVariants.{NoVersion, NoDisk}
use Rattle.script_meaning.specs.Script.{Meant}
use Rattle.script_meaning.specs.declared.script.Line.{Line}
use Rattle.script_meaning.specs.declared.script.What.{What}
use Rattle.script_meaning.specs.declared.script.Version.{Version}

-- what the words of a line ask, if it has any
abbrev pub said_by : Version → Result (List (List ℕ)) Why → Result What Why
said_by version words = words >>= what_of version

-- the further lines, or the first fault among them
abbrev pub further_lines : Version → List (ℕ × Result (List (List ℕ)) Why) → Result (List Line) ParseFault
further_lines version [] = Ok []
further_lines version (said ∷ more) =
    at_line said.0 (said_by version said.1) >>= λ what.
    further_lines version more >>= λ lines.
    Ok (record { number = said.0; what = what } ∷ lines)

-- the first line that isn't empty or a comment has to name the version
abbrev pub version_in : Unread → Result Version ParseFault
version_in text = first_or NoVersion text >>= λ said. at_line said.0 (version_of said.1)

-- and the next one the disk
abbrev pub disk_in : Unread → Result DiskLine ParseFault
disk_in text = first_or NoDisk text >>= λ said. at_line said.0 (disk_of said.1)

-- the version, then the disk, then the further lines
abbrev pub script_in : Unread → Result Meant ParseFault
script_in text =
    version_in text >>= λ version.
    disk_in (after_first text) >>= λ disk.
    further_lines version (after_first (after_first text)).said >>= λ lines.
    Ok (record { version = version; sectors = disk.sectors; hardware = disk.hardware; lines = lines })

-- the script that a text means, or its first fault
abbrev pub meaning_of : List ℕ → Result Meant ParseFault
meaning_of bytes = unread bytes >>= script_in
