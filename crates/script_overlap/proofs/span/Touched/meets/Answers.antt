use Rattle.std.proofs.Common.{◌≤◌, ◌+◌, refl, ap, subst, List, Bool, length, arith}
use Rattle.script_overlap.specs.Span.{TouchesOne, TouchesNone}
use Rattle.script_overlap.proofs.Bitmaps.{length-marks_of, met_one, met_none, unmet_further}
use Rattle.script_overlap.proofs.span.Touched.meets.Goals as goal

pub get-requires : goal.get-requires
get-requires c = omega (arith, c.self.invariant, ap length c.self.view_is, length-marks_of c.self.inside.words c.self.inside.sectors, c.requires, c.div_ceil-word-end.ensures)

pub returns-then-bits-ne0 : goal.returns-then-bits-ne0
returns-then-bits-ne0 c =
    let P : List Bool → Type 0 = λ marks. TouchesOne marks c.args.start c.args.count in
    let within : c.args.start + c.args.count ≤ c.self.inside.sectors = omega (arith, ap length c.self.view_is, length-marks_of c.self.inside.words c.self.inside.sectors, c.requires) in
    subst P c.self.view_is
    (met_one c.self.inside.words c.self.inside.sectors c.args.start c.args.count (c.args.start + c.args.count) c.loop-word.word c.get.result c.mask.result refl within (omega (arith, c.div_ceil-word-end.ensures))
    c.get.ensures c.mask.ensures c.if-bits-ne0.true)

pub loop-word-preserved : goal.loop-word-preserved
loop-word-preserved c =
    unmet_further c.self.inside.words c.args.start (c.args.start + c.args.count) c.loop-word.word c.get.result c.mask.result c.get.ensures c.mask.ensures c.if-bits-ne0.false c.loop-word.invariant

pub returns : goal.returns
returns c =
    let P : List Bool → Type 0 = λ marks. TouchesNone marks c.args.start c.args.count in
    let within : c.args.start + c.args.count ≤ c.self.inside.sectors = omega (arith, ap length c.self.view_is, length-marks_of c.self.inside.words c.self.inside.sectors, c.requires) in
    subst P c.self.view_is
    (met_none c.self.inside.words c.self.inside.sectors c.args.start c.args.count within (λ k low high. c.loop-word.invariant k low high (omega (arith, c.div_ceil-word-end.ensures))))
