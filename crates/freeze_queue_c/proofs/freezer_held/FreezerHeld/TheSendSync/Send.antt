-- A handle's box may cross threads, since its freezer may.
use Rattle.std.specs.Prelude.{Option, Some, None}
use base.Shift.{Keyless}
use mir.Raw.{raw}
use denote.RawPtr.{Ptr}
use Rattle.std.specs.Global.{Global}
use Rattle.freeze_queue_c.specs.FreezerHolding.{freezer_owns}
use denote.Memory.{lone}
use denote.Struct.Struct.{exits_of}
use denote.Struct.Owning.{shape, fields, to}
use denote.Param.Send.{IsSend, AllSend, owning_send, struct_send, sendable}
use Rattle.std.proofs.Crossing as heap
use Rattle.std_alloc.proofs.SendSync.{quiet, lies}
use Rattle.std_heap.proofs.Global.TheSendSync as handle
use Rattle.freeze_queue_c.specs.contracts.open_freezer.OpenFreezer as OpenFreezer
use Rattle.freeze_queue_c.proofs.open_freezer.OpenFreezer.TheSendSync.{the_send as sends}
use Rattle.freeze_queue_c.specs.contracts.freezer_held.FreezerHeld.{the_row, the_type}

crosses : (alloc : Global) (at : Ptr) (freezer : Option OpenFreezer.the_row.Denot) → Keyless (freezer_owns alloc at freezer)
crosses alloc at None = tt
crosses alloc at (Some s) = (lies OpenFreezer.the_row sends at s, heap.frees.frees alloc (raw (lone OpenFreezer.the_row.mir)) at)

pub send : IsSend the_row
send =
    let all : AllSend (fields the_type) = (search sendable, (handle.the_field_send, tt)) in
    owning_send the_type all (λ d. crosses d.alloc d.at d.freezer)
    (λ k. quiet (to the_type) (exits_of k (fields the_type)) ((struct_send (shape the_type) all).leaving k))
