use Rattle.std.proofs.Common.{◌≡◌, ◌∙◌, refl, sym, ap, subst, ℕ, ◌+◌, ◌<◌, ◌≤◌, arith, List, [], length, get_or, is_some, Option, Some}
use Rattle.std.proofs.lemmas.Bool.{false≢true}
use Rattle.std.proofs.lemmas.Option.{slice_get_read}
use Rattle.std.specs.List.{slice_get}
use Rattle.script_meaning.specs.Script.{Meant}
use Rattle.script_meaning.specs.declared.reply.Outcome.{Outcome}
use Rattle.script_meaning.specs.declared.reply.Request.{Request}
use Rattle.script_overlap.specs.Ordered.{MustWait}
use Rattle.script_overlap.specs.Partners.{Finds}
use Rattle.script_overlap.specs.SpanOfRequests.{IsNext, OfSectors}
use Rattle.script_meaning.specs.declared.script.Line.{Line}
use Rattle.script_meaning.proofs.Positions.{came_at, number_at_line, queue_took}
use Rattle.script_overlap.proofs.Counting.{all_counted, counted_so, counts_one, few_accepted}
use Rattle.script_overlap.proofs.OrderedLemmas.{all_ordered}
use Rattle.script_overlap.proofs.OrderedLines.{IsOrderedUpTo, apart_before, none_overlaps, ordered_stepped, ordered_waited}
use Rattle.script_overlap.proofs.Overlaps.{wait_is_found, reported}
use Rattle.script_overlap.proofs.SpanLemmas.{span_waited}
use Rattle.script_overlap.proofs.Written.{AreWrittenUpTo, all_written, written_more}
use Rattle.script_overlap.proofs.checked.decide.Goals.{in-Some+else-not-orders_overlaps+in_ok-push-2, in_default}
use Rattle.script_overlap.proofs.checked.decide.Goals as goal

pub unwrap-earlier-requires : goal.unwrap-earlier-requires
unwrap-earlier-requires c =
    let script : Meant = c.args.script.now in
    let i : ℕ = c.loop-position.position in
    let line : Line = c.line-item.result in
    let inside : i < length script.lines = omega (arith, c.loop-position-test.true, ap length c.lines-line-items.ensures) in
    let is : line ≡ get_or script.lines i line = c.line-item.is ∙ ap (λ (ls : List Line). get_or ls i line) c.lines-line-items.ensures in
    let at : slice_get script.lines i ≡ Some line = slice_get_read script.lines (length script.lines) i line refl inside is in
    let before = c.loop-position.invariant in
    let came : Outcome = c.take-came.result in
    let part = came_at script i line c.loop-position.queue came at before.stands c.take-came.ensures.outcome in
    let step = span_waited script c.loop-position.ordered.items i c.loop-position.span c.take.new.self came c.in-Some.request part.0 c.in-Some.ensures.next before.so_far.at in
    let none : c.loop-position.ordered.items ≡ [] = before.of_version (sym c.orders_overlaps.ensures ∙ c.if-not-orders_overlaps.true) in
    wait_is_found script i c.in-Some.request c.earliest.result step.accepted (subst (λ ps. MustWait script ps i) none step.waits) c.earliest.ensures

pub returns-then-not-orders_overlaps-clause-told : goal.returns-then-not-orders_overlaps-clause-told
returns-then-not-orders_overlaps-clause-told c =
    let script : Meant = c.args.script.now in
    let i : ℕ = c.loop-position.position in
    let line : Line = c.line-item.result in
    let inside : i < length script.lines = omega (arith, c.loop-position-test.true, ap length c.lines-line-items.ensures) in
    let is : line ≡ get_or script.lines i line = c.line-item.is ∙ ap (λ (ls : List Line). get_or ls i line) c.lines-line-items.ensures in
    let at : slice_get script.lines i ≡ Some line = slice_get_read script.lines (length script.lines) i line refl inside is in
    let before = c.loop-position.invariant in
    let came : Outcome = c.take-came.result in
    let part = came_at script i line c.loop-position.queue came at before.stands c.take-came.ensures.outcome in
    let step = span_waited script c.loop-position.ordered.items i c.loop-position.span c.take.new.self came c.in-Some.request part.0 c.in-Some.ensures.next before.so_far.at in
    let one = sym c.orders_overlaps.ensures ∙ c.if-not-orders_overlaps.true in
    let P : Option ℕ → Type 0 = λ found. Finds script i c.in-Some.request found in
    reported script i c.in-Some.request _ one step.accepted (number_at_line script i line at)
    (apart_before script c.loop-position.ordered.items i (before.of_version one) before.so_far.ordered) (subst P c.unwrap-earlier.ensures c.earliest.ensures)

pub loop-position-preserved : goal.loop-position-preserved
loop-position-preserved c =
    let script : Meant = c.args.script.now in
    let i : ℕ = c.loop-position.position in
    let line : Line = c.line-item.result in
    let inside : i < length script.lines = omega (arith, c.loop-position-test.true, ap length c.lines-line-items.ensures) in
    let is : line ≡ get_or script.lines i line = c.line-item.is ∙ ap (λ (ls : List Line). get_or ls i line) c.lines-line-items.ensures in
    let at : slice_get script.lines i ≡ Some line = slice_get_read script.lines (length script.lines) i line refl inside is in
    let before = c.loop-position.invariant in
    let came : Outcome = c.take-came.result in
    let part = came_at script i line c.loop-position.queue came at before.stands c.take-came.ensures.outcome in
    let positions = c.loop-position.ordered.items in
    let N : Option Request → Type 0 = λ waits. IsNext c.loop-position.span came waits c.take.new.self in
    let P : List ℕ → Type 0 = λ ps. IsOrderedUpTo script (i + 1) c.take.new.self ps in
    record {
      stands = queue_took script i line c.loop-position.queue c.take-came.new.self inside is before.stands c.take-came.ensures.after;
      counts = omega (arith, c.take-came.ensures.counts, before.counts);
      sectors = subst (OfSectors c.take.new.self) (sym c.take-came.ensures.sectors) (c.take.ensures.sectors c.loop-position.queue.sectors before.sectors);
      so_far =
          elim c.match-take.branch [
            | in-Some+else-not-orders_overlaps+in_ok-push-2 w ↦
                subst P (sym (ap (λ v. v.items) w.ordered-is ∙ w.in_ok-push-2.ensures.items))
                (ordered_waited script i c.loop-position.span c.take.new.self positions came w.in-Some.request part.0 w.in-Some.ensures.next before.so_far)
            | in_default w ↦
                subst P (sym (ap (λ v. v.items) w.ordered-is))
                (ordered_stepped script i c.loop-position.span c.take.new.self positions came part.0 part.1 (subst N w.in_default.is c.take.ensures.next) before.so_far)
          ];
      of_version = λ one.
          elim c.match-take.branch [
            | in-Some+else-not-orders_overlaps+in_ok-push-2 w ↦ absurd (false≢true (sym one ∙ sym w.orders_overlaps.ensures ∙ w.if-not-orders_overlaps.false))
            | in_default w ↦ ap (λ v. v.items) w.ordered-is ∙ before.of_version one
          ];
      written = subst (AreWrittenUpTo script (i + 1)) (sym c.in_ok-push.ensures.items)
          (written_more script i c.loop-position.requests.items c.accepted-request.result (part.0 ∙ sym c.accepted-request.ensures) before.written);
      so_many = counted_so script i line c.loop-position.queue came (is_some c.accepted-request.result) c.loop-position.accepted c.counted-accepted.result inside is before.stands c.take-came.ensures.outcome
          (ap is_some c.accepted-request.ensures) before.so_many c.counted-accepted.ensures;
      few = omega (arith, before.few, counts_one (is_some c.accepted-request.result) c.loop-position.accepted c.counted-accepted.result c.counted-accepted.ensures);
    }

pub new-requires-2 : goal.new-requires-2
new-requires-2 c =
    let script : Meant = c.args.script.now in
    let i : ℕ = c.loop-position.position in
    let last : length script.lines ≤ i = omega (arith, c.loop-position-test.false, ap length c.lines-line-items.ensures) in
    let before = c.loop-position.invariant in
    let are = all_ordered script c.loop-position.ordered.items i last before.so_far.ordered in
    let count = all_counted script i c.loop-position.accepted last before.so_many in
    record {
      written = all_written script i c.loop-position.requests.items last before.written;
      apart = none_overlaps script c.loop-position.ordered.items are before.of_version;
      order = are;
      of_version = before.of_version;
      count = count;
      few = omega (arith, count, few_accepted script);
    }

pub returns-clause-told : goal.returns-clause-told
returns-clause-told c =
    let script : Meant = c.args.script.now in
    let i : ℕ = c.loop-position.position in
    let last : length script.lines ≤ i = omega (arith, c.loop-position-test.false, ap length c.lines-line-items.ensures) in
    let before = c.loop-position.invariant in
    none_overlaps script c.loop-position.ordered.items (all_ordered script c.loop-position.ordered.items i last before.so_far.ordered) before.of_version
