-- A tag's box, loose or under a handle, as the lemmas on boxes see it.
use mathlib.Core.List.{[]}
use mir.Syntax.{impl, tnil, dnil}
use denote.Signature.{Slot, plain}
use Rattle.std_alloc.proofs.BoxSteps.Form.{Bx}
use Rattle.std_heap.specs.contracts.Global as Heap
use Rattle.std_heap.specs.contracts.GlobalAllocator.TheImpl.{ghosts, dict}
use Rattle.std_heap.proofs.Global.TheLaws as heap
use Rattle.freeze_queue_c.specs.contracts.open_tag.OpenTag as OpenTag
use Rattle.freeze_queue_c.proofs.open_tag.OpenTag.TheLaws as tag
use Rattle.loose_box.specs.contracts.loose.Loose as Loose
use Rattle.freeze_queue_c.specs.contracts.tag_held.TagHeld as TagHeld

abbrev pub E : Bx
E = record { row = OpenTag.the_row; laws = tag.the_row_laws; al = record { row = Heap.the_row; laws = heap.the_row_laws; g = ghosts; d = dict; drops = impl [] tnil dnil } }

abbrev pub FromLoose : Slot 0
FromLoose = plain (λ _. Loose.the_row OpenTag.the_row Heap.the_row ghosts)

abbrev pub FromHeld : Slot 0
FromHeld = plain (λ _. TagHeld.the_row)
