-- The lines that a replay writes.
use Rattle.std.specs.Prelude.{ℕ, if◌then◌else◌, List, ◌++◌, codes, decimal}
use Rattle.std.specs.Fmt.{signed_decimal}
use Rattle.line_text.specs.Named.{named}
use Rattle.percpu_core.specs.declared.not_enabled.NotEnabled.{NotEnabled}
use Rattle.percpu_core.specs.declared.not_enabled.NotEnabled.TheVariants.{NoSuchActor, NoSuchSlot, WrongPhase, NothingHeld, MidCall, HeldFull, WornOut, NoSuchWord, BadAmount, StillHeld}
use Rattle.percpu_core.specs.declared.reply.Reply.{Reply}
use Rattle.percpu_core.specs.declared.reply.Reply.TheVariants.{Given, Refused, NotLast, ToMark, Last, Lost, Won, Opened, Closed, Collected, Shared, Number, Done}
use Rattle.percpu_core.specs.Machine.{State, held_in_all}
use Rattle.percpu_words.specs.SharedWord.{SharedWord, spelling, parts}

-- the marks of a shared word: ZERO before DEAD
abbrev pub marks_text : SharedWord → List ℕ
marks_text shared = if shared.zero then codes "zero " else if shared.dead then codes "dead " else codes "live "

-- a shared word, given as a number: its marks, and its value with any bias that is in it
unfoldable pub shared_text : ℕ → List ℕ
shared_text word = marks_text (parts word) ++ decimal (parts word).value

abbrev pub reply_text : Reply → List ℕ
reply_text Given = codes "given"
reply_text Refused = codes "refused"
reply_text NotLast = codes "not last"
reply_text ToMark = codes "to mark"
reply_text Last = codes "last"
reply_text Lost = codes "lost"
reply_text Won = codes "won"
reply_text (Opened d) = codes "open " ++ signed_decimal d
reply_text Closed = codes "closed"
reply_text (Collected d) = codes "closed " ++ signed_decimal d
reply_text (Shared word) = shared_text word
reply_text (Number n) = decimal n
reply_text Done = codes "ok"

abbrev pub reply_line : Reply → List ℕ
reply_line reply = reply_text reply ++ codes "\n"

abbrev pub why_text : NotEnabled → List ℕ
why_text NoSuchActor = codes "no such actor"
why_text NoSuchSlot = codes "no such slot"
why_text WrongPhase = codes "wrong phase"
why_text NothingHeld = codes "nothing held"
why_text MidCall = codes "mid call"
why_text HeldFull = codes "held full"
why_text WornOut = codes "worn out"
why_text NoSuchWord = codes "no such word"
why_text BadAmount = codes "bad amount"
why_text StillHeld = codes "still held"

-- the last line, if the step on this line of the schedule isn't enabled
abbrev pub stuck_line : ℕ → NotEnabled → List ℕ
stuck_line line why = codes "stuck " ++ decimal line ++ codes " " ++ why_text why ++ codes "\n"

-- the last line, if all steps were taken
abbrev pub end_line : State → List ℕ
end_line s =
    codes "end " ++ shared_text (spelling s.cells.shared) ++ named (codes " front ") s.cells.front ++ named (codes " kills ") s.control.kills
    ++ named (codes " releases ") s.releases ++ named (codes " held ") (held_in_all s) ++ codes "\n"
