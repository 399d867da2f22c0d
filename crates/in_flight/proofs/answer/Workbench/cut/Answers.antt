use Rattle.std.proofs.Common.{◌≡◌, ◌∙◌, ℕ, List, [], ◌∷◌, ◌++◌, sym, ap, subst}
use Rattle.std.specs.Iterator.{Drains, YieldsFirst}
use Rattle.queue_limits.specs.Pieces.{IsSplit}
use Rattle.in_flight.proofs.answer.Workbench.cut.Goals as goal

-- an iterator that shows what is left has given all of it
drained : (xs s : List ℕ) → Drains (YieldsFirst {S = List ℕ} {A = ℕ} (λ left. left)) s xs → xs ≡ s
drained [] s d = sym (d.1.1 ∙ d.1.2.0)
drained (x ∷ xs) s d = ap (λ rest. x ∷ rest) (drained xs d.1.1.0 (d.0, (d.1.0, d.1.1.2, d.1.2))) ∙ sym d.1.1.1

pub returns-clause-cut : goal.returns-clause-cut
returns-clause-cut c =
    let ran = c.in_ok-extend.ensures.ran in
    let all : c.extend.new.self.items ≡ c.pieces.result = ran.3.0 ∙ ap (λ items. items ++ ran.1) c.clear-2.ensures.items ∙ drained ran.1 ran.0 ran.4 ∙ ran.2 in
    subst (λ start. IsSplit c.args.limits start c.args.count c.extend.new.self.items) c.from.ensures
    (subst (IsSplit c.args.limits c.from.result c.args.count) (sym all) c.pieces.ensures)
