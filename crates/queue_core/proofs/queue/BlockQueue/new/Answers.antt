use Rattle.std.proofs.Common.{◌≡◌, refl, sym, subst}
use Rattle.std.specs.Prelude.{All}
use Rattle.std.proofs.lemmas.List.Elements.{All-replicate}
use Rattle.percpu_gate.specs.Seats.{PassFacts, fresh_pass}
use Rattle.queue_core.proofs.queue.BlockQueue.new.Goals as goal

pub make_tags-requires-clause-new : goal.make_tags-requires-clause-new
make_tags-requires-clause-new c =
    let is_new : PassFacts → Type 0 = λ p. p ≡ fresh_pass c.in_ok-gate.gate in
    subst (All is_new) (sym c.in_ok-gate.ensures.passes) (All-replicate is_new c.args.tags (fresh_pass c.in_ok-gate.gate) refl)
