-- What a handle owns: nothing if it is closed, and the box of its tag if it is open.
use Rattle.std.specs.Prelude.{Option, Some, None}
use base.Fml.{Fml, ftrue}
use base.Stored.{Coded}
use denote.RawPtr.{Ptr}
use Rattle.std.specs.Coded.{coded_option}
use Rattle.std.specs.Box.Ownership.{box_owns}
use Rattle.std.specs.Global.{Global, Box}
use Rattle.std_heap.specs.contracts.GlobalAllocator.TheImpl.{ghosts}
use Rattle.freeze_queue_c.specs.contracts.open_tag.OpenTag.{the_row}

abbrev pub tag_owns : Global → Ptr → Option the_row.Denot → Fml
tag_owns alloc at None = ftrue
tag_owns alloc at (Some tag) = box_owns (ghosts.dealloc_token alloc) the_row at tag

-- what a box holds, if there is one
abbrev pub opened : Option (Box the_row.Denot) → Option the_row.Denot
opened None = None
opened (Some b) = Some b.value

abbrev pub tag_coded : Coded (Option the_row.Denot)
tag_coded = coded_option the_row.coded
