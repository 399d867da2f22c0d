use Rattle.std.proofs.Common.{◌≡◌, ◌∙◌, sym, ap, arith, ℕ, List, ◌∷◌, ◌+◌, ◌-◌, length, take, drop}
use Rattle.std.proofs.lemmas.List.{take_all, length-drop}
use Rattle.std.specs.Str.Lines.{strip_carriage_return}
use Rattle.line_text.specs.Text.{lines_of}
use Rattle.line_text.proofs.LineLemmas.{lines-first, lines-last, is_false}
use Rattle.line_text.proofs.statements.first_line.Goals as goal

pub returns-in-Some : goal.returns-in-Some
returns-in-Some c =
    let text = c.args.text.now in
    let first = lines-first c.args.text.now c.in-Some.end c.in-Some.ensures.0.high
    (λ k low. is_false _ (c.in-Some.ensures.0.before k (omega arith) low)) c.in-Some.ensures.1 in
    let all : take (length c.args.text.now - (c.in-Some.end + 1)) (drop (c.in-Some.end + 1) c.args.text.now) ≡ drop (c.in-Some.end + 1) c.args.text.now
    = take_all _ _ (omega (arith, length-drop (c.in-Some.end + 1) c.args.text.now)) in
    first ∙ ap (λ (r : List ℕ). strip_carriage_return (take c.in-Some.end c.args.text.now) ∷ lines_of r) (sym all)

pub returns-in-None : goal.returns-in-None
returns-in-None c = lines-last c.args.text.now c.requires (λ k low. is_false _ (c.in-None.ensures k (omega arith) low))
