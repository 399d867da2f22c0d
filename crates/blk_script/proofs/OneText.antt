-- A line has one reply, and a script one text.
use Rattle.std.proofs.Common.{◌≡◌, ◌∙◌, sym, ap, refl, ℕ, List, [], ◌∷◌, ◌++◌, flat_map}
use Rattle.queue_limits.specs.Bounds.{Bounds}
use Rattle.queue_limits.specs.Pieces.{IsSplit}
use Rattle.ram_disk.specs.Disk.{sectors_read}
use Rattle.ram_disk.specs.Runs.{IsRuns}
use Rattle.ram_disk.specs.Sector.{bytes_of}
use Rattle.blk_script.specs.Answer.{IsText}
use Rattle.script_meaning.specs.Meaning.{State, start_of, IsReply, IsReplyTo, IsAnswered, AreReplies, after, after_lines}
use Rattle.script_meaning.specs.Script.{Meant}
use Rattle.script_meaning.specs.Taken.{outcome}
use Rattle.script_meaning.specs.declared.reply.Outcome.{Outcome}
use Rattle.script_meaning.specs.declared.reply.Outcome.TheVariants.{Accepted, Drained, Replied}
use Rattle.blk_script.specs.Texts.{reply_line, disk_line}
use Rattle.script_meaning.specs.declared.script.Line.{Line}
use Rattle.script_meaning.specs.declared.script.What.{What}
use Rattle.script_meaning.specs.declared.script.What.TheVariants.{Read, Write}
use Rattle.script_meaning.specs.declared.reply.Reply.{Reply}
use Rattle.script_meaning.specs.declared.reply.Reply.TheVariants.{Data, Written}

-- the laws of the pieces and of the runs
abbrev pub OneSplit : Type 0
OneSplit = (bounds : Bounds) (start count : ℕ) (a b : List ℕ) → IsSplit bounds start count a → IsSplit bounds start count b → a ≡ b

abbrev pub OneRuns : Type 0
OneRuns = (bytes : List ℕ) (a b : List (ℕ × ℕ)) → IsRuns a bytes → IsRuns b bytes → a ≡ b

one_answered : OneSplit → OneRuns → (s : State) (what : What) (a b : Reply) → IsAnswered s what a → IsAnswered s what b → a ≡ b
one_answered splits shown s (Read start count) (Data p r) (Data q t) x y =
    let pieces : p ≡ q = splits s.queue.limits start count p q x.0 y.0 in
    let found : r ≡ t = shown (bytes_of (sectors_read start count s.disk)) r t x.1 y.1 in
    cc
one_answered splits shown s (Read start count) (Data p r) b x y = absurd y
one_answered splits shown s (Read start count) a b x y = absurd x
one_answered splits shown s (Write start count pattern) (Written p) (Written q) x y = ap Written (splits s.queue.limits start count p q x y)
one_answered splits shown s (Write start count pattern) (Written p) b x y = absurd y
one_answered splits shown s (Write start count pattern) a b x y = absurd x
one_answered splits shown s what a b x y = absurd x

by_outcome : OneSplit → OneRuns → (came : Outcome) (s : State) (what : What) (a b : Reply) → IsReplyTo came s what a → IsReplyTo came s what b → a ≡ b
by_outcome splits shown (Accepted request) s what a b x y = one_answered splits shown s what a b x y
by_outcome splits shown (Drained told) s what a b x y = x ∙ sym y
by_outcome splits shown (Replied told) s what a b x y = x ∙ sym y

one_reply : OneSplit → OneRuns → (s : State) (what : What) (a b : Reply) → IsReply s what a → IsReply s what b → a ≡ b
one_reply splits shown s what a b = by_outcome splits shown (outcome s.queue what) s what a b

one_list : OneSplit → OneRuns → (s : State) (lines : List Line) (a b : List (ℕ × Reply)) → AreReplies s lines a → AreReplies s lines b → a ≡ b
one_list splits shown s [] [] [] x y = refl
one_list splits shown s [] [] (t ∷ b) x y = absurd y
one_list splits shown s [] (r ∷ a) b x y = absurd x
one_list splits shown s (line ∷ lines) [] b x y = absurd x
one_list splits shown s (line ∷ lines) (r ∷ a) [] x y = absurd y
one_list splits shown s (line ∷ lines) (r ∷ a) (t ∷ b) x y =
    let number : r.0 ≡ t.0 = x.0 ∙ sym y.0 in
    let reply : r.1 ≡ t.1 = one_reply splits shown s line.what r.1 t.1 x.1 y.1 in
    let rest : a ≡ b = one_list splits shown (after s line.what) lines a b x.2 y.2 in
    ap (λ (n : ℕ). (n, r.1) ∷ a) number ∙ ap (λ (p : Reply). (t.0, p) ∷ a) reply ∙ ap (λ (l : List (ℕ × Reply)). t ∷ l) rest

pub one_text : OneSplit → OneRuns → (script : Meant) (a b : List ℕ) → IsText script a → IsText script b → a ≡ b
one_text splits shown script a b x y =
    let replies : x.replies ≡ y.replies = one_list splits shown (start_of script) script.lines x.replies y.replies x.replied y.replied in
    let runs : x.runs ≡ y.runs = shown (bytes_of ((after_lines (start_of script) script.lines).disk)) x.runs y.runs x.left y.left in
    x.told ∙ ap (λ r. flat_map reply_line r ++ disk_line x.runs) replies ∙ ap (λ r. flat_map reply_line y.replies ++ disk_line r) runs ∙ sym y.told
