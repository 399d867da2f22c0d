-- What a handle owns: nothing if it is closed, and the box of its control if it is open.
use Rattle.std.specs.Prelude.{Option, Some, None}
use base.Fml.{Fml, ftrue}
use base.Stored.{Coded}
use denote.RawPtr.{Ptr}
use Rattle.std.specs.Coded.{coded_option}
use Rattle.std.specs.Box.Ownership.{box_owns}
use Rattle.std.specs.Global.{Global, Box}
use Rattle.std_heap.specs.contracts.GlobalAllocator.TheImpl.{ghosts}
use Rattle.percpu_gate_c.specs.contracts.open_control.OpenControl.{the_row}

abbrev pub control_owns : Global → Ptr → Option the_row.Denot → Fml
control_owns alloc at None = ftrue
control_owns alloc at (Some control) = box_owns (ghosts.dealloc_token alloc) the_row at control

-- what a box holds, if there is one
abbrev pub opened : Option (Box the_row.Denot) → Option the_row.Denot
opened None = None
opened (Some b) = Some b.value

abbrev pub control_coded : Coded (Option the_row.Denot)
control_coded = coded_option the_row.coded
