use Rattle.std.proofs.Common.{◌∙◌, ◌≤◌, ◌+◌, sym, ap, subst, ℕ, List, Bool, length, arith}
use Rattle.std.proofs.Common.{bit_or}
use Rattle.script_overlap.specs.Span.{Adds}
use Rattle.script_overlap.proofs.Bitmaps.{length-marks_of, marks_of, Sets, set_further, set_outside, adds_bits}
use Rattle.script_overlap.proofs.span.Touched.add.Goals as goal

pub get-requires : goal.get-requires
get-requires c = omega (arith, c.self.invariant, ap length c.self.view_is, length-marks_of c.self.inside.words c.self.inside.sectors, c.requires, c.div_ceil-word-end.ensures)

pub set-requires : goal.set-requires
set-requires c = omega (arith, c.self.invariant, ap length c.self.view_is, length-marks_of c.self.inside.words c.self.inside.sectors, c.requires, c.div_ceil-word-end.ensures)

pub loop-word-preserved : goal.loop-word-preserved
loop-word-preserved c =
    let old : List ℕ = c.loop-word.self-inside.words in
    let new : List ℕ = c.set.new.self in
    let word : ℕ = c.loop-word.word in
    let start : ℕ = c.args.start in
    let end : ℕ = c.args.start + c.args.count in
    let sets : Sets old new start end word = record { here = c.set.ensures.here ∙ ap (λ (v : ℕ). bit_or v c.mask.result) c.get.ensures ∙ ap (bit_or _) c.mask.ensures; others = c.set.ensures.others } in
    record {
      count = c.set.ensures.count ∙ c.loop-word.invariant.count;
      sectors = c.loop-word.invariant.sectors;
      inside = set_further old new start end word sets c.loop-word.invariant.inside;
      outside = λ k out. set_outside old new start end word k sets (omega (arith, c.div_ceil-word-end.ensures)) out ∙ c.loop-word.invariant.outside k out;
    }

pub returns : goal.returns
returns c =
    let words : List ℕ = c.loop-word.self-inside.words in
    let within : c.args.start + c.args.count ≤ c.self.inside.sectors = omega (arith, ap length c.self.view_is, length-marks_of c.self.inside.words c.self.inside.sectors, c.requires) in
    let P : List Bool → Type 0 = λ marks. Adds marks (marks_of words c.loop-word.self-inside.sectors) c.args.start c.args.count in
    let Q : ℕ → Type 0 = λ sectors. Adds (marks_of c.self.inside.words c.self.inside.sectors) (marks_of words sectors) c.args.start c.args.count in
    subst P c.self.view_is
    (subst Q (sym c.loop-word.invariant.sectors)
    (adds_bits c.self.inside.words words c.self.inside.sectors c.args.start c.args.count within
    (λ k low high. c.loop-word.invariant.inside k low high (omega (arith, c.div_ceil-word-end.ensures))) c.loop-word.invariant.outside))
