use Rattle.std.proofs.Common.{arith, ap, sym, ◌∙◌, ◌++◌, ◌∷◌, [], map, subst₂}
use Rattle.std.proofs.lemmas.List.{map-append}
use Rattle.run_queues.specs.Numbers.{merged}
use Rattle.run_queues.specs.Parts.{AreGathered, known}
use Rattle.run_queues.proofs.RequestSteps.{merges}
use Rattle.run_queues.proofs.Gathered.{gathers}
use Rattle.run_queues.proofs.requests.RequestQueue.gather.Goals as goal

pub absorb-requires-clause-rule : goal.absorb-requires-clause-rule
absorb-requires-clause-rule g c = merges _ _ _ _ _ (let parts = ap (λ s. s.parts) c.source.view_is in let some = c.requires.parts in omega arith)

pub invariant_of-source-2 : goal.invariant_of-source-2
invariant_of-source-2 g c =
    let rule = c.absorb.ensures.rule in (
      c.absorb.ensures.queue.2 ∙ c.source.invariant.0,
      ap (λ v. v.pushes) rule ∙ c.source.invariant.1,
      subst₂ AreGathered
          (sym (ap (map (λ list. list.items)) (c.push_reserved.ensures.items ∙ ap (λ l. l ++ c.consumer.inside.drawn ∷ []) c.in_ok-reserve.ensures.items) ∙ map-append _ c.source.inside.lists.items _))
          (sym (ap (λ v. v.drawn) rule ∙ ap (λ v. merged (known c.source.inside.seat).drawn v.drawn) c.consumer.invariant.1))
          (gathers _ _ _ c.source.invariant.2 c.consumer.invariant.2),
    )
