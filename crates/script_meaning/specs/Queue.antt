-- The queue, without the bytes of its disk.
use Rattle.std.specs.Prelude.{ℕ, ◌+◌, Bool, false}
use Rattle.queue_limits.specs.Bounds.{Bounds}
use Rattle.script_meaning.specs.Script.{Meant}
use Rattle.script_meaning.specs.declared.script.Mode.{Mode}
use Rattle.script_meaning.specs.declared.script.Mode.TheVariants.{Slots}
use Rattle.script_meaning.specs.declared.script.Version.{Version}

pub record Queue : Type 0 where
  -- the version of its script, on which it depends what the queue reports
  pub version : Version
  -- the disk's sectors
  pub sectors : ℕ
  pub limits : Bounds
  -- how many times the queue is frozen
  pub depth : ℕ
  pub removed : Bool
  pub mode : Mode
  -- the numbers of reads and writes that were accepted, of requests that a freeze refused, and of requests past the disk's end
  pub reads : ℕ
  pub writes : ℕ
  pub again : ℕ
  pub eio : ℕ

-- at the start the limits are those of the hardware, the physical block is a sector, and nothing was asked
abbrev pub start_queue : Meant → Queue
start_queue script = record {
  version = script.version;
  sectors = script.sectors;
  limits = record { hardware = script.hardware; max = script.hardware; chunk = 0; physical = 1 };
  depth = 0;
  removed = false;
  mode = Slots;
  reads = 0;
  writes = 0;
  again = 0;
  eio = 0;
}

-- how many requests were counted so far
abbrev pub counted : Queue → ℕ
counted q = q.reads + q.writes + q.again + q.eio
