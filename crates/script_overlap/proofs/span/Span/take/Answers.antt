use Rattle.std.proofs.Common.{◌∙◌, sym, subst}
use Rattle.script_overlap.specs.SpanOfRequests.{OfSectors, Marks}
use Rattle.script_overlap.proofs.span.Span.take.Goals.{then-waits, else-waits}
use Rattle.script_overlap.proofs.span.Span.take.Goals as goal

pub returns-then-waits-2-clause-sectors : goal.returns-then-waits-2-clause-sectors
returns-then-waits-2-clause-sectors c = λ sectors of.
    let P : Marks → Type 0 = λ span. OfSectors span sectors in
    c.add.ensures.sectors sectors (elim c.if-waits.branch [
      | then-waits w ↦ subst P (sym w.self-is) (record { reads = w.clear.ensures.reads ∙ of.reads; writes = w.clear.ensures.writes ∙ of.writes })
      | else-waits w ↦ subst P (sym w.self-is) of
    ])

pub returns-else-waits-2-clause-sectors : goal.returns-else-waits-2-clause-sectors
returns-else-waits-2-clause-sectors c = λ sectors of.
    let P : Marks → Type 0 = λ span. OfSectors span sectors in
    c.add.ensures.sectors sectors (elim c.if-waits.branch [
      | then-waits w ↦ subst P (sym w.self-is) (record { reads = w.clear.ensures.reads ∙ of.reads; writes = w.clear.ensures.writes ∙ of.writes })
      | else-waits w ↦ subst P (sym w.self-is) of
    ])
