-- Placeholders for the names of a run, where no run has picked them.
use Rattle.std.specs.Prelude.{[]}
use Rattle.percpu_core.specs.declared.start.Start.TheVariants.{Atomic}
use Rattle.freeze_queue.specs.Queue.{QueueFacts}
use Rattle.script_meaning.specs.Script.{Meant}
use Rattle.script_meaning.specs.declared.script.Version.TheVariants.{One}

abbrev pub no_queue : QueueFacts
no_queue = record {
  gate = record { id = record { words = 0; slots = 0; views_name = 0; atom = 0; block = 0; offset = 0; slot_names = [] }; slots = 1; start = Atomic; words = 0 };
  hardware = 1;
  lanes = record { id = record { words = 0; slots = 0; views_name = 0; atom = 0; block = 0; offset = 0; slot_names = [] }; key = record { id = record { words = 0; slots = 0; views_name = 0; atom = 0; block = 0; offset = 0; slot_names = [] }; slots = 1; start = Atomic; words = 0 } };
}

abbrev pub no_script : Meant
no_script = record { version = One; sectors = 1; hardware = 1; lines = [] }
