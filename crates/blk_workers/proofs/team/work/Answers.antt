use Rattle.std.proofs.Common.{◌≡◌, ◌∙◌, sym, ap, ◌<◌, ◌∷◌, ◌++◌, [], All, arith, length, subst}
use Rattle.std.proofs.lemmas.List.{length-append}
use Rattle.std.proofs.lemmas.List.Elements.{All-push}
use Rattle.run_queues.specs.Parts.{CountFacts, ConsumerFacts, after_draw, one_more}
use Rattle.script_meaning.specs.Requests.{accepted_in_all}
use Rattle.in_flight.proofs.Numbering.{few_accepted, number_below}
use Rattle.blk_workers.proofs.FewNumbers.{few_increasing}
use Rattle.blk_workers.proofs.team.work.Goals as goal

pub unreachable-requires : goal.unreachable-requires
unreachable-requires g c =
    let few = few_increasing (accepted_in_all g.J.Run.script) c.loop.consumer.drawn c.loop.invariant.7 c.loop.invariant.4 in
    let same : c.is_empty.new.consumer ≡ c.loop.consumer = c.is_empty.ensures in
    omega (arith, few, c.loop.invariant.3, c.in_default.ensures.full, ap (λ (d : ConsumerFacts). d.room) same, ap (λ (d : ConsumerFacts). length d.drawn) same)

pub loop-preserved : goal.loop-preserved
loop-preserved g c =
    let bound = accepted_in_all g.J.Run.script in
    let job = c.in-Some-drawn.job in
    let same : c.is_empty.new.consumer ≡ c.loop.consumer = c.is_empty.ensures in
    let drew = c.in-Ok.ensures.drawn
    ∙ ap (λ (old : ConsumerFacts). let d : ConsumerFacts = after_draw (λ j. j.token.number) c.in-Ok.drawn old in record d { room = c.draw.new.consumer.room }) same
    ∙ ap (λ item. let d : ConsumerFacts = after_draw (λ j. j.token.number) item c.loop.consumer in record d { room = c.draw.new.consumer.room }) c.in-Some-drawn.is in
    let longer : c.draw.new.consumer.drawn ≡ c.loop.consumer.drawn ++ job.token.number ∷ [] = ap (λ (d : ConsumerFacts). d.drawn) drew in
    let less = number_below g.J.Run.script job.token.number job.position c.serve.ensures.request in
    let by_one = ap length longer ∙ length-append c.loop.consumer.drawn (job.token.number ∷ []) in (
      tt,
      tt,
      ap (λ (d : ConsumerFacts). d.queue) drew ∙ c.loop.invariant.2,
      omega (arith, c.loop.invariant.3, c.in-Ok.ensures.room, ap (λ (d : ConsumerFacts). d.room) same),
      subst (All (λ n. n < bound)) (sym longer) (All-push (λ n. n < bound) c.loop.consumer.drawn job.token.number c.loop.invariant.4 less),
      omega (arith, c.add.ensures, c.loop.invariant.5, by_one),
      c.serve.ensures.tag ∙ ap one_more c.loop.invariant.6 ∙ ap (λ n. record { queue = g.L.QueueNames.free_tags; count = n }) (sym by_one),
      c.draw.ensures.increasing,
    )

pub add-requires-clause-room : goal.add-requires-clause-room
add-requires-clause-room g c =
    let script = g.J.Run.script in
    let bound = accepted_in_all script in
    let job = c.in-Some-drawn.job in
    let same : c.is_empty.new.consumer ≡ c.loop.consumer = c.is_empty.ensures in
    let drew = c.in-Ok.ensures.drawn
    ∙ ap (λ (old : ConsumerFacts). let d : ConsumerFacts = after_draw (λ j. j.token.number) c.in-Ok.drawn old in record d { room = c.draw.new.consumer.room }) same
    ∙ ap (λ item. let d : ConsumerFacts = after_draw (λ j. j.token.number) item c.loop.consumer in record d { room = c.draw.new.consumer.room }) c.in-Some-drawn.is in
    let longer : c.draw.new.consumer.drawn ≡ c.loop.consumer.drawn ++ job.token.number ∷ [] = ap (λ (d : ConsumerFacts). d.drawn) drew in
    let less = number_below script job.token.number job.position c.serve.ensures.request in
    let below = subst (All (λ n. n < bound)) (sym longer) (All-push (λ n. n < bound) c.loop.consumer.drawn job.token.number c.loop.invariant.4 less) in
    let few = few_increasing bound c.draw.new.consumer.drawn c.draw.ensures.increasing below in
    let by_one = ap length longer ∙ length-append c.loop.consumer.drawn (job.token.number ∷ []) in
    omega (arith, c.loop.invariant.5, by_one, few, few_accepted script, c.context.invariant.0.few_lines)

pub serve-requires-clause-room : goal.serve-requires-clause-room
serve-requires-clause-room g c =
    let script = g.J.Run.script in
    let few = few_increasing (accepted_in_all script) c.loop.consumer.drawn c.loop.invariant.7 c.loop.invariant.4 in
    omega (arith, ap (λ (t : CountFacts). t.count) c.loop.invariant.6, few, few_accepted script, c.context.invariant.0.few_lines)
