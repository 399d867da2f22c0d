-- How a queue's freezer follows a script's queue.
use Rattle.std.specs.Prelude.{◌≡◌, ℕ, ◌+◌, ◌-◌, ◌==◌, ◌&&◌, nat_lt, if◌then◌else◌}
use Rattle.freeze_queue.specs.Queue.{FreezerFacts}
use Rattle.percpu_words.specs.declared.mode.Mode.{Mode}
use Rattle.percpu_words.specs.declared.mode.Mode.TheVariants.{Atomic, Slots}
use Rattle.script_meaning.specs.Queue.{Queue}
use Rattle.script_meaning.specs.declared.script.Mode.{Mode as ScriptMode}
use Rattle.script_meaning.specs.declared.script.Mode.TheVariants.{Atomic as InOneWord, Slots as InSlots}

-- a depth, one step closer to another
abbrev pub one_nearer : ℕ → ℕ → ℕ
one_nearer now depth = if nat_lt now depth then now + 1 else if nat_lt depth now then now - 1 else now

-- the depth of the freezer for a script's queue: the script's depth, or 1 if the script removed a queue that it hadn't frozen
abbrev pub depth_of : Queue → ℕ
depth_of q = if q.removed && q.depth == 0 then 1 else q.depth

-- the depth after a drain: 1 if the queue was live, or else the same
abbrev pub once_frozen : ℕ → ℕ
once_frozen depth = if depth == 0 then 1 else depth

-- the queue's mode for a script's mode
abbrev pub queue_mode : ScriptMode → Mode
queue_mode InOneWord = Atomic
queue_mode InSlots = Slots

-- the freezer has the depth, the limits and the mode of the script's queue: so the gate is live exactly if the script's depth is 0 and the queue isn't removed
pub record IsInStep (q : Queue) (f : FreezerFacts) : Type 0 where
  pub depth : f.depth ≡ depth_of q
  pub limits : f.limits ≡ q.limits
  pub mode : f.mode ≡ queue_mode q.mode

-- the same after a drain, which froze the queue if it was live
pub record IsFrozenFor (q : Queue) (f : FreezerFacts) : Type 0 where
  pub depth : f.depth ≡ once_frozen (depth_of q)
  pub limits : f.limits ≡ q.limits
  pub mode : f.mode ≡ queue_mode q.mode

-- one freeze or thaw at most brings the freezer into step with a script's queue: a live queue is in step except for its mode
pub record IsNear (q : Queue) (f : FreezerFacts) : Type 0 where
  pub live : f.depth ≡ 0 → (depth_of q ≡ 0) × (f.limits ≡ q.limits)
  pub frozen : one_nearer f.depth (depth_of q) ≡ depth_of q
