use Rattle.std.proofs.Common.{◌∙◌, sym, ap, arith, length, ℕ, List, ◌∷◌, ◌<◌, drop}
use Rattle.line_text.specs.Text.{words_of}
use Rattle.line_text.proofs.WordLemmas.{words-first, word-some}
use Rattle.line_text.proofs.word_list.WordsIterator.next.Goals as goal

pub returns-clause-steps : goal.returns-clause-steps
returns-clause-steps c =
    let some : 0 < c.word_len.result = word-some c.without_blanks-line.result.now c.word_len.result c.without_blanks-line.ensures.begins (sym c.if-is_empty.false ∙ c.is_empty.ensures) c.word_len.ensures.ends in
    sym c.self.view_is ∙ sym c.without_blanks-line.ensures.words
    ∙ words-first c.without_blanks-line.result.now c.word_len.result some c.word_len.ensures.within c.word_len.ensures.word c.word_len.ensures.ends
    ∙ ap (λ (w : List ℕ). w ∷ words_of (drop c.word_len.result c.without_blanks-line.result.now)) (sym c.split_at.ensures.front)
    ∙ ap (λ (r : List ℕ). c.split_at.result.0.now ∷ words_of r) (sym c.split_at.ensures.back)

pub returns-clause-goes : goal.returns-clause-goes
returns-clause-goes c =
    let e = returns-clause-steps c in
    record { on = λ f. (tt, tt, omega (arith, ap length e)); keeps = tt; rests = λ f. tt }
