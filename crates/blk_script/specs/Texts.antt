-- The text of each reply, and of the disk.
use Rattle.std.specs.Prelude.{ℕ, ◌++◌, List, [], ◌∷◌, map, codes, decimal, Option, Some, None}
use Rattle.std.specs.List.{join_with_byte}
use Rattle.hex.specs.Hex.{encode_lower}
use Rattle.line_text.specs.Named.{named}
use Rattle.script_meaning.specs.declared.script.Mode.{Mode}
use Rattle.script_meaning.specs.declared.script.Mode.TheVariants.{Atomic, Slots}
use Rattle.script_meaning.specs.declared.reply.Stat.{Stat as Counts}
use Rattle.script_meaning.specs.declared.reply.Reply.{Reply}
use Rattle.script_meaning.specs.declared.reply.Reply.TheVariants.{Data, Written, Done, Depth, NotFrozen, DepthFull, Again, PastEnd, Invalid, Stat as Told, Removed, Gone}

-- lengths in decimal, joined by `+`
abbrev pub pieces_text : List ℕ → List ℕ
pieces_text pieces = join_with_byte 43 (map decimal pieces)

-- a run is its byte in two hexadecimal digits, `*` and its length
abbrev pub run_text : ℕ × ℕ → List ℕ
run_text run = encode_lower (run.0 ∷ []) ++ (42 ∷ decimal run.1)

-- runs, joined by `,`
abbrev pub runs_text : List (ℕ × ℕ) → List ℕ
runs_text runs = join_with_byte 44 (map run_text runs)

abbrev pub mode_name : Mode → List ℕ
mode_name Atomic = codes "atomic"
mode_name Slots = codes "slots"

-- a name, and a mode after it
unfoldable pub named_mode : List ℕ → Mode → List ℕ
named_mode name mode = name ++ mode_name mode

-- the sectors of a physical block, if they are reported
unfoldable pub physical_text : Option ℕ → List ℕ
physical_text None = []
physical_text (Some size) = named (codes " physical ") size

abbrev pub counts_text : Counts → List ℕ
counts_text counts =
    named (codes "stat reads ") counts.reads ++ named (codes " writes ") counts.writes
    ++ named (codes " again ") counts.again ++ named (codes " eio ") counts.eio
    ++ named (codes " depth ") counts.depth ++ named (codes " max ") counts.max
    ++ named (codes " chunk ") counts.chunk ++ physical_text counts.physical ++ named_mode (codes " mode ") counts.mode

abbrev pub reply_text : Reply → List ℕ
reply_text (Data pieces runs) = codes "ok " ++ pieces_text pieces ++ codes " " ++ runs_text runs
reply_text (Written pieces) = codes "ok " ++ pieces_text pieces
reply_text Done = codes "ok"
reply_text (Depth depth) = named (codes "depth ") depth
reply_text NotFrozen = codes "not frozen"
reply_text DepthFull = codes "depth full"
reply_text Again = codes "EAGAIN"
reply_text PastEnd = codes "EIO"
reply_text Invalid = codes "EINVAL"
reply_text (Told counts) = counts_text counts
reply_text Removed = codes "removed"
reply_text Gone = codes "ENODEV"

-- a reply's line begins with the number of the line that it replies to
abbrev pub reply_line : ℕ × Reply → List ℕ
reply_line told = decimal told.0 ++ codes " " ++ reply_text told.1 ++ codes "\n"

-- the disk's line shows its bytes by their runs
abbrev pub disk_line : List (ℕ × ℕ) → List ℕ
disk_line runs = codes "disk " ++ runs_text runs ++ codes "\n"
