-- Lists of slots, changed at one place.
use Rattle.std.proofs.Common.{◌≡◌, ℕ, zero, suc, ◌<◌, Bool, true, false, if◌then◌else◌, List, [], ◌∷◌, length, set, Some, refl, arith, ap, sym, ◌∙◌, int_eq}
use Rattle.std.specs.Prelude.{ℤ, pos, ◌+ℤ◌, ◌-ℤ◌, slice_get}
use Rattle.std.proofs.Math.ListN.{length-set}
use Rattle.std.proofs.lemmas.Int.{ints}
use Rattle.std.proofs.lemmas.Bool.Decides.{nat_tests}
use Rattle.percpu_words.specs.SlotWord.{IsDelta}
use Rattle.percpu_core.specs.declared.slot.Slot.{Slot}
use Rattle.percpu_core.specs.declared.slot.Slot.TheVariants.{Closed, Open}
use Rattle.percpu_core.specs.declared.pass_event.PassEvent.{PassEvent}
use Rattle.percpu_core.specs.declared.pass_event.PassEvent.TheVariants as pass
use Rattle.percpu_core.specs.declared.control_event.ControlEvent.{ControlEvent}
use Rattle.percpu_core.specs.declared.control_event.ControlEvent.TheVariants as control
use Rattle.percpu_core.specs.declared.phase.Phase.{Phase}
use Rattle.percpu_core.specs.Phases.{next_slot}
use Rattle.percpu_core.specs.PassSteps.{slots_after_pass}
use Rattle.percpu_core.specs.ControlSteps.{slots_after_control}
use Rattle.percpu_core.specs.Cells.{is_open, delta, open_deltas, slot_at, is_open_with}
use Rattle.percpu_core.specs.LimitLaw.{AreSmall}

same_delta : (d e : ℤ) → int_eq e d ≡ true → e ≡ d
same_delta d e h = grind (arith, ints, nat_tests)

-- an exchange is won if the slot is open with the expected delta
pub open_with : (d : ℤ) (s : Slot) → is_open_with d s ≡ true → s ≡ Open d
open_with d Closed h = cc
open_with d (Open e) h = ap Open (same_delta d e h)

-- the slot of a number below the list's length
pub slot_there : (ss : List Slot) (i : ℕ) → i < length ss → slice_get ss i ≡ Some (slot_at ss i)
slot_there [] i h = absurd (omega arith)
slot_there (x ∷ xs) zero h = refl
slot_there (x ∷ xs) (suc i) h = slot_there xs i (omega arith)

-- the sum changes by the one delta
pub open_deltas-set : (ss : List Slot) (i : ℕ) (t : Slot) → i < length ss → open_deltas (set ss i t) +ℤ delta (slot_at ss i) ≡ open_deltas ss +ℤ delta t
open_deltas-set [] i t h = absurd (omega arith)
open_deltas-set (x ∷ xs) zero t h = omega (arith, ints)
open_deltas-set (x ∷ xs) (suc i) t h = let r = open_deltas-set xs i t (omega arith) in omega (arith, ints)

pub small-set : (ss : List Slot) (i : ℕ) (t : Slot) → AreSmall ss → IsDelta (delta t) → AreSmall (set ss i t)
small-set [] i t e h = tt
small-set (x ∷ xs) zero t e h = (h, e.1)
small-set (x ∷ xs) (suc i) t e h = (e.0, small-set xs i t e.1 h)

pub small-at : (ss : List Slot) (i : ℕ) → AreSmall ss → i < length ss → IsDelta (delta (slot_at ss i))
small-at [] i e h = absurd (omega arith)
small-at (x ∷ xs) zero e h = e.0
small-at (x ∷ xs) (suc i) e h = small-at xs i e.1 (omega arith)

-- each slot is open or closed as a test says
abbrev pub OpenAs : (ℕ → Bool) → List Slot → Type 0
OpenAs f ss = (k : ℕ) (s : Slot) → slice_get ss k ≡ Some s → is_open s ≡ f k

same_slot : (s t : Slot) → Some s ≡ Some t → s ≡ t
same_slot s t e = cc

-- a slot is changed, and the test with it
pub open-set : (ss : List Slot) (i : ℕ) (t : Slot) (f g : ℕ → Bool) → OpenAs f ss → is_open t ≡ g i → ((k : ℕ) → (k ≡ i → ⊥) → f k ≡ g k) → OpenAs g (set ss i t)
open-set [] i t f g h now same k s e = cc
open-set (x ∷ xs) zero t f g h now same zero s e = sym (ap is_open (same_slot t s e)) ∙ now
open-set (x ∷ xs) zero t f g h now same (suc k) s e = h (suc k) s e ∙ same (suc k) (λ is. absurd (omega arith))
open-set (x ∷ xs) (suc i) t f g h now same zero s e = h zero s e ∙ same zero (λ is. absurd (omega arith))
open-set (x ∷ xs) (suc i) t f g h now same (suc k) s e = open-set xs i t (λ j. f (suc j)) (λ j. g (suc j)) (λ j u is. h (suc j) u is) now (λ j n. same (suc j) (λ is. n (omega arith))) k s e

-- only the places of the list matter
pub open-below : (ss : List Slot) (f g : ℕ → Bool) → OpenAs f ss → ((k : ℕ) → k < length ss → f k ≡ g k) → OpenAs g ss
open-below [] f g h same k s e = cc
open-below (x ∷ xs) f g h same zero s e = h zero s e ∙ same zero (omega arith)
open-below (x ∷ xs) f g h same (suc k) s e = open-below xs (λ j. f (suc j)) (λ j. g (suc j)) (λ j u is. h (suc j) u is) (λ j n. same (suc j) (omega arith)) k s e

exchanged-length : (b : Bool) (ss : List Slot) (i : ℕ) (t : Slot) → length (if b then set ss i t else ss) ≡ length ss
exchanged-length true ss i t = length-set ss i t
exchanged-length false ss i t = refl

-- no step makes more slots or fewer
pub slots_after_pass-length : (e : PassEvent) (ss : List Slot) → length (slots_after_pass e ss) ≡ length ss
slots_after_pass-length (pass.Take s d n) ss = exchanged-length (is_open_with d (slot_at ss s)) ss s (Open (d +ℤ pos n))
slots_after_pass-length (pass.Give s d n) ss = exchanged-length (is_open_with d (slot_at ss s)) ss s (Open (d -ℤ pos n))
slots_after_pass-length pass.AddTry ss = refl
slots_after_pass-length pass.AddLive ss = refl
slots_after_pass-length (pass.AddGet n) ss = refl
slots_after_pass-length (pass.Sub n) ss = refl
slots_after_pass-length pass.Undo ss = refl
slots_after_pass-length pass.Mark ss = refl
slots_after_pass-length (pass.Look s) ss = refl
slots_after_pass-length pass.LookShared ss = refl
slots_after_pass-length pass.LoadFront ss = refl
slots_after_pass-length (pass.LoadWord k) ss = refl

pub slots_after_control-length : (e : ControlEvent) (phase : Phase) (ss : List Slot) → length (slots_after_control e phase ss) ≡ length ss
slots_after_control-length control.Close phase ss = length-set ss (next_slot phase) Closed
slots_after_control-length control.OpenNext phase ss = length-set ss (next_slot phase) (Open (pos 0))
slots_after_control-length control.MarkDead phase ss = refl
slots_after_control-length control.Collect phase ss = refl
slots_after_control-length control.Confirm phase ss = refl
slots_after_control-length control.DropBase phase ss = refl
slots_after_control-length control.Mark phase ss = refl
slots_after_control-length control.TakeBase phase ss = refl
slots_after_control-length control.NextFront phase ss = refl
slots_after_control-length control.ClearDead phase ss = refl
slots_after_control-length control.AddBias phase ss = refl
slots_after_control-length (control.StoreWord k v) phase ss = refl
slots_after_control-length (control.Join k) phase ss = refl
slots_after_control-length control.LookShared phase ss = refl
