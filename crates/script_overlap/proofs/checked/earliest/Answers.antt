use Rattle.std.proofs.Common.{◌≡◌, refl, sym, ap, subst, ℕ, ◌+◌, ◌<◌, arith, length, get_or, Option, Some, None, true, false}
use Rattle.std.proofs.lemmas.List.{length-take-le}
use Rattle.std.proofs.lemmas.Option.{slice_get_read}
use Rattle.std.specs.List.{slice_get}
use Rattle.script_meaning.specs.Queue.{Queue}
use Rattle.script_meaning.specs.Requests.{accepted_at}
use Rattle.script_meaning.proofs.Positions.{came_at, number_at_line, queue_took}
use Rattle.script_overlap.specs.Overlap.{Clash}
use Rattle.script_meaning.specs.Script.{Meant}
use Rattle.script_overlap.specs.Partners.{Finds}
use Rattle.script_meaning.specs.declared.script.Line.{Line}
use Rattle.script_meaning.specs.declared.reply.Request.{Request}
use Rattle.script_overlap.proofs.PartnerLemmas.{finds_drained, finds_kept, finds_same, finds_here, line_of_front, is_none_said, same_accepted}
use Rattle.script_overlap.proofs.checked.earliest.Goals.{in-Accepted+then-is_none+then-clashes, in-Accepted+else-is_none, else-is_none-via-then-is_none+else-clashes, else-is_none-via-else-is_none, in-Drained, in-Replied}
use Rattle.script_overlap.proofs.checked.earliest.Goals as goal

pub loop-line-preserved : goal.loop-line-preserved
loop-line-preserved c =
    let script : Meant = c.args.script.now in
    let i : ℕ = c.loop-line.line-index in
    let line : Line = c.line-item.result in
    let request : Request = c.args.request.now in
    let found = line_of_front script.lines c.lines.result.now c.args.position i line c.lines.ensures c.requires c.loop-line-test.true c.line-item.is in
    let inside : i < length script.lines = found.0 in
    let is : line ≡ get_or script.lines i line = found.1 in
    let at : slice_get script.lines i ≡ Some line = slice_get_read script.lines (length script.lines) i line refl inside is in
    let number = number_at_line script i line at in
    let queue : Queue = c.loop-line.queue in
    let stands = c.loop-line.invariant.stands in
    let before = c.loop-line.invariant.finds in
    let P : Option ℕ → Type 0 = λ found. Finds script (i + 1) request found in
    record {
      stands = queue_took script i line queue c.take.new.self inside is stands c.take.ensures.after;
      counts = omega (arith, c.take.ensures.counts, c.loop-line.invariant.counts);
      finds =
          elim c.match-take.branch [
            | in-Accepted+then-is_none+then-clashes w ↦
                let part = came_at script i line queue _ at stands w.in-Accepted.ensures.outcome in
                subst P (sym w.found-is) (finds_here script i request w.in-Accepted.other line.number c.loop-line.found part.0 w.if-clashes.ensures number (is_none_said c.loop-line.found w.is_none.result true w.is_none.ensures w.if-is_none.true) before)
            | in-Accepted+else-is_none w ↦
                let part = came_at script i line queue _ at stands w.in-Accepted.ensures.outcome in
                subst P (sym w.found-is) (elim w.else-is_none.branch [
                  | else-is_none-via-then-is_none+else-clashes w' ↦
                      finds_same script i request c.loop-line.found part.1
                      (λ other accepted clash.
                      let Q : Request → Type 0 = λ r. Clash r request in
                      w'.if-clashes.ensures (subst Q (same_accepted script i other w.in-Accepted.other accepted part.0) clash)) before
                  | else-is_none-via-else-is_none w' ↦ finds_kept script i request c.loop-line.found part.1 (is_none_said c.loop-line.found w.is_none.result false w.is_none.ensures w'.if-is_none.false) before
                ])
            | in-Drained w ↦
                let part = came_at script i line queue _ at stands w.in-Drained.ensures.outcome in
                subst P (sym w.found-is) (finds_drained script i request part.0 part.1)
            | in-Replied w ↦
                let part = came_at script i line queue _ at stands w.in-Replied.ensures.outcome in
                subst P (sym w.found-is) (finds_same script i request c.loop-line.found part.1 (λ other accepted clash. let none : accepted_at script i ≡ None = part.0 in cc) before)
          ];
    }

pub returns : goal.returns
returns c =
    let P : ℕ → Type 0 = λ i. Finds c.args.script.now i c.args.request.now c.loop-line.found in
    let last : c.loop-line.line-index ≡ c.args.position = omega (arith, length-take-le c.args.position c.lines.result.now (omega (arith, ap length c.lines.ensures, c.requires))) in
    subst P last c.loop-line.invariant.finds
