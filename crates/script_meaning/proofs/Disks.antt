-- A script's disk stays as long as it is.
use Rattle.std.proofs.Common.{◌≡◌, ◌∙◌, sym, refl, ℕ, ◌+◌, ◌≤◌, arith, Bool, true, false, cond, is_some, List, [], ◌∷◌, length, take}
use Rattle.std.proofs.lemmas.List.{length-map, length-replicate}
use Rattle.std.proofs.lemmas.List.FromFn.{length-range_with_len}
use Rattle.std.specs.List.{range_with_len}
use Rattle.ram_disk.specs.Disk.{sectors_written}
use Rattle.ram_disk.specs.Pattern.{pattern_sector, pattern_sectors}
use Rattle.ram_disk.specs.Sector.{filled_with}
use Rattle.ram_disk.proofs.SectorWrites.{length-sectors_written}
use Rattle.script_meaning.specs.Meaning.{State, start_of, disk_after, after, after_lines}
use Rattle.script_meaning.specs.Queue.{Queue}
use Rattle.script_meaning.specs.Requests.{queue_after_lines, queue_at, state_at}
use Rattle.script_meaning.specs.Script.{Meant}
use Rattle.script_meaning.specs.Taken.{outcome, accepted}
use Rattle.script_meaning.specs.declared.script.Line.{Line}
use Rattle.script_meaning.specs.declared.script.What.{What}
use Rattle.script_meaning.specs.declared.script.What.TheVariants.{Write}
use Rattle.script_meaning.proofs.Queues.{follows, write_inside}

pub length-pattern_sectors : (pattern : List ℕ) (count : ℕ) → length (pattern_sectors pattern count) ≡ count
length-pattern_sectors pattern count = length-map (range_with_len 0 count) (pattern_sector pattern) ∙ length-range_with_len 0 count

write_if : (test : Bool) (start count : ℕ) (pattern : List ℕ) (disk : List (List ℕ)) → (test ≡ true → start + count ≤ length disk)
    → length (cond test (sectors_written start (pattern_sectors pattern count) disk) disk) ≡ length disk
write_if true start count pattern disk fits = length-sectors_written start (pattern_sectors pattern count) disk (omega (arith, fits refl, length-pattern_sectors pattern count))
write_if false start count pattern disk fits = refl

-- a line leaves the disk as long as the queue says
pub length-disk_after : (q : Queue) (what : What) (disk : List (List ℕ)) → length disk ≡ q.sectors → length (disk_after (outcome q what) what disk) ≡ length disk
length-disk_after q (Write start count pattern) disk whole =
    write_if (is_some (accepted q (Write start count pattern))) start count pattern disk (λ e. omega (arith, whole, write_inside q start count pattern e))
length-disk_after q what disk whole = refl

pub whole_after : (s : State) (what : What) → length s.disk ≡ s.queue.sectors → length (after s what).disk ≡ (after s what).queue.sectors
whole_after s what whole = length-disk_after s.queue what s.disk whole ∙ whole ∙ sym (follows s.queue what).sectors

-- the queue of the state after some lines
pub queue_of_lines : (s : State) (lines : List Line) → (after_lines s lines).queue ≡ queue_after_lines s.queue lines
queue_of_lines s [] = refl
queue_of_lines s (line ∷ lines) = queue_of_lines (after s line.what) lines

pub length_after_lines : (s : State) (lines : List Line) → length s.disk ≡ s.queue.sectors → length (after_lines s lines).disk ≡ s.queue.sectors
length_after_lines s [] whole = whole
length_after_lines s (line ∷ lines) whole = length_after_lines (after s line.what) lines (whole_after s line.what whole) ∙ (follows s.queue line.what).sectors

pub state_queue : (script : Meant) (position : ℕ) → (state_at script position).queue ≡ queue_at script position
state_queue script position = queue_of_lines (start_of script) (take position script.lines)

pub state_disk : (script : Meant) (position : ℕ) → length (state_at script position).disk ≡ script.sectors
state_disk script position = length_after_lines (start_of script) (take position script.lines) (length-replicate script.sectors (filled_with 0))
