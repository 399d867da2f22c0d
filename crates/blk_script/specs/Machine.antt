-- The state that the code keeps.
use Rattle.script_meaning.specs.Meaning.{State}
use Rattle.blk_script.specs.declared.machine.Machine.{Machine}

abbrev pub state_of : Machine → State
state_of m = record { queue = m.queue; disk = m.disk }
