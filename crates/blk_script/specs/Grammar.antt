-- What the words of one line say.
use Rattle.std.specs.Prelude.{ℕ, if◌then◌else◌, List, [], ◌∷◌, Result, Ok, Err, codes}
use Rattle.std.specs.Str.{bytes_eq}
use Rattle.line_text.specs.Hex.{hex_bytes}
use Rattle.line_text.specs.Numbers.{◌>>=◌, number_in}
use Rattle.line_text.specs.Words.{no_words, one_word, two_words, three_words}
use Rattle.blk_script.specs.declared.parser.DiskLine.{DiskLine}
use Rattle.script_meaning.specs.declared.script.Mode.TheVariants.{Atomic, Slots}
use Rattle.line_text.specs.declared.fault.Why.{Why}
use Rattle.line_text.specs.declared.fault.Why.TheVariants.{NoVersion, NoDisk, UnknownWord}
use Rattle.script_meaning.specs.declared.script.What.{What}
use Rattle.script_meaning.specs.declared.script.Version.{Version}
use Rattle.script_meaning.specs.declared.script.Version.TheVariants.{One, Two}
use Rattle.script_meaning.specs.declared.script.What.TheVariants.{Read, Write, Freeze, Thaw, SetMax, SetChunk, SetPhysical, SetMode, Stat, Remove}

-- a write repeats 1 to 64 bytes
abbrev pub pattern_of : List ℕ → Result (List ℕ) Why
pattern_of word = hex_bytes 64 word

-- the first line says `blkq 1` or `blkq 2`, and nothing else
abbrev pub version_of : List (List ℕ) → Result Version Why
version_of (name ∷ number ∷ []) =
    if bytes_eq name (codes "blkq") then
    if bytes_eq number (codes "1") then Ok One
    else if bytes_eq number (codes "2") then Ok Two
    else Err NoVersion
    else Err NoVersion
version_of words = Err NoVersion

-- the sectors of the disk, and those that the hardware takes in one request
abbrev pub sizes_of : List (List ℕ) → Result DiskLine Why
sizes_of words =
    three_words words >>= λ word.
    number_in 1 4096 word.0 >>= λ sectors.
    if bytes_eq word.1 (codes "hw") then (number_in 1 65535 word.2 >>= λ hardware. Ok (record { sectors = sectors; hardware = hardware })) else Err UnknownWord

-- the second line says `disk N hw H`
abbrev pub disk_of : List (List ℕ) → Result DiskLine Why
disk_of [] = Err NoDisk
disk_of (first ∷ words) = if bytes_eq first (codes "disk") then sizes_of words else Err NoDisk

abbrev pub read_of : List (List ℕ) → Result What Why
read_of words =
    two_words words >>= λ word.
    number_in 0 4294967295 word.0 >>= λ start.
    number_in 1 65535 word.1 >>= λ count.
    Ok (Read start count)

abbrev pub write_of : List (List ℕ) → Result What Why
write_of words =
    three_words words >>= λ word.
    number_in 0 4294967295 word.0 >>= λ start.
    number_in 1 65535 word.1 >>= λ count.
    pattern_of word.2 >>= λ pattern.
    Ok (Write start count pattern)

-- version 1 has no such setting
abbrev pub physical_of : Version → List ℕ → Result What Why
physical_of One word = Err UnknownWord
physical_of Two word = number_in 0 4294967295 word >>= λ value. Ok (SetPhysical value)

abbrev pub setting_of : Version → List (List ℕ) → Result What Why
setting_of version words =
    two_words words >>= λ word.
    if bytes_eq word.0 (codes "max_sectors") then (number_in 0 4294967295 word.1 >>= λ value. Ok (SetMax value))
    else if bytes_eq word.0 (codes "chunk_sectors") then (number_in 0 4294967295 word.1 >>= λ value. Ok (SetChunk value))
    else if bytes_eq word.0 (codes "physical_sectors") then physical_of version word.1
    else Err UnknownWord

abbrev pub mode_of : List (List ℕ) → Result What Why
mode_of words =
    one_word words >>= λ word.
    if bytes_eq word (codes "atomic") then Ok (SetMode Atomic)
    else if bytes_eq word (codes "slots") then Ok (SetMode Slots)
    else Err UnknownWord

-- a line of one word
abbrev pub alone : What → List (List ℕ) → Result What Why
alone what words = no_words words >>= λ none. Ok what

-- every further line, by its first word
abbrev pub what_of : Version → List (List ℕ) → Result What Why
what_of version [] = Err UnknownWord
what_of version (first ∷ words) =
    if bytes_eq first (codes "read") then read_of words
    else if bytes_eq first (codes "write") then write_of words
    else if bytes_eq first (codes "freeze") then alone Freeze words
    else if bytes_eq first (codes "thaw") then alone Thaw words
    else if bytes_eq first (codes "set") then setting_of version words
    else if bytes_eq first (codes "mode") then mode_of words
    else if bytes_eq first (codes "stat") then alone Stat words
    else if bytes_eq first (codes "remove") then alone Remove words
    else Err UnknownWord
