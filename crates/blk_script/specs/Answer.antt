-- What a script's run on one thread writes.
use Rattle.std.specs.Prelude.{◌≡◌, ℕ, ◌++◌, List, flat_map}
use Rattle.ram_disk.specs.Runs.{IsRuns}
use Rattle.ram_disk.specs.Sector.{bytes_of}
use Rattle.script_meaning.specs.Meaning.{AreReplies, after_lines}
use Rattle.script_meaning.specs.Script.{Meant}
use Rattle.script_meaning.specs.Meaning.{start_of}
use Rattle.blk_script.specs.Texts.{reply_line, disk_line}
use Rattle.script_meaning.specs.declared.reply.Reply.{Reply}

-- the text is the lines of the replies, one after another, and then the line of the disk as the script leaves it
pub record IsText (script : Meant) (text : List ℕ) : Type 0 where
  pub replies : List (ℕ × Reply)
  pub runs : List (ℕ × ℕ)
  pub replied : AreReplies (start_of script) script.lines replies
  pub left : IsRuns runs (bytes_of ((after_lines (start_of script) script.lines).disk))
  pub told : text ≡ flat_map reply_line replies ++ disk_line runs
