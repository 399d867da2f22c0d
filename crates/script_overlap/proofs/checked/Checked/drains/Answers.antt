use Rattle.std.proofs.Common.{◌≡◌, ◌∙◌, refl, sym, ap, subst, ◌+◌, ◌<◌, ◌≤◌, arith, [], ◌∷◌, ◌++◌, length, get_or, map, take, Some}
use Rattle.std.proofs.lemmas.List.{get_or_default, take_all}
use Rattle.std.proofs.lemmas.Option.{slice_get_read}
use Rattle.script_meaning.specs.Requests.{number_at}
use Rattle.script_meaning.specs.declared.script.Line.{Line}
use Rattle.script_meaning.proofs.Positions.{number_at_line}
use Rattle.script_overlap.proofs.OrderedLines.{drains_of, numbers_more, ordered_within}
use Rattle.script_overlap.proofs.checked.Checked.drains.Goals as goal

pub offset_bounds-lines-position : goal.offset_bounds-lines-position
offset_bounds-lines-position c =
    let within = ordered_within c.self.inside.script.now c.self.inside.ordered.items c.deref-position-items.result.now c.lines.result.now c.loop-position.position-index c.self.invariant.order
    c.deref-position-items.ensures.value c.lines.ensures c.loop-position-test.true in
    omega (arith, within, c.lines.type_inv)

pub bounds-lines-position : goal.bounds-lines-position
bounds-lines-position c =
    ordered_within c.self.inside.script.now c.self.inside.ordered.items c.deref-position-items.result.now c.lines.result.now c.loop-position.position-index c.self.invariant.order
    c.deref-position-items.ensures.value c.lines.ensures c.loop-position-test.true

pub bounds-lines-position-in-loop-position : goal.bounds-lines-position-in-loop-position
bounds-lines-position-in-loop-position c =
    ordered_within c.self.inside.script.now c.self.inside.ordered.items c.deref-position-items.result.now c.lines.result.now c.loop-position.position-index c.self.invariant.order
    c.deref-position-items.ensures.value c.lines.ensures c.loop-position-test.true

pub loop-position-preserved : goal.loop-position-preserved
loop-position-preserved c =
    let script = c.self.inside.script.now in
    let ordered = c.self.inside.ordered.items in
    let i = c.loop-position.position-index in
    let position = get_or c.deref-position-items.result.now i 0 in
    let same = c.deref-position-items.ensures.value in
    let inside : i < length ordered = omega (arith, c.loop-position-test.true, ap length same) in
    let within = ordered_within script ordered c.deref-position-items.result.now c.lines.result.now i c.self.invariant.order same c.lines.ensures c.loop-position-test.true in
    let line = c.index-lines-position.result in
    let at = slice_get_read script.lines (length script.lines) position line refl (omega (arith, within, ap length c.lines.ensures)) (c.index-lines-position.is ∙ ap (λ ls. get_or ls position line) c.lines.ensures) in
    let read : position ≡ get_or ordered i position =
    ap (λ xs. get_or xs i 0) same ∙ get_or_default ordered i 0 position inside in
    subst (λ ns. map (number_at script) (take (i + 1) ordered) ≡ map Some ns) (sym c.in_ok-push.ensures.items)
    (subst (λ (l : Line). map (number_at script) (take (i + 1) ordered) ≡ map Some (c.loop-position.lines.items ++ l.number ∷ [])) c.index-lines-position.is
    (numbers_more script ordered c.loop-position.lines.items i position line.number inside read (number_at_line script position line at) c.loop-position.invariant))

pub returns : goal.returns
returns c =
    let script = c.self.inside.script.now in
    let ordered = c.self.inside.ordered.items in
    let last : length ordered ≤ c.loop-position.position-index = omega (arith, c.loop-position-test.false, ap length c.deref-position-items.ensures.value) in
    let numbers = sym (ap (map (number_at script)) (take_all c.loop-position.position-index ordered last)) ∙ c.loop-position.invariant in
    rw (← c.self.view_is) (drains_of script.version script ordered c.loop-position.lines.items c.self.invariant.order c.self.invariant.of_version numbers)
