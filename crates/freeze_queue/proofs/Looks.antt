-- A try to enter never loads the shared word: it makes one addition, or none if its slot gave.
use Rattle.std.proofs.Common.{◌≡◌, Bool, inl, inr}
use Rattle.percpu_core.specs.declared.view.PassView.{PassView}
use Rattle.percpu_core.specs.Cells.{Cells}
use Rattle.percpu_gate.specs.Calls.{TryMeets}
use Rattle.percpu_gate.specs.Seats.{GateFacts}

pub no_look : {g : GateFacts} (mark : Cells → Bool) (old new : PassView) (refused : Bool) → TryMeets g mark old new refused → new.looks ≡ old.looks
no_look mark old new refused (inl none) = none.1.looks
no_look mark old new refused (inr one) = one.0.looks
