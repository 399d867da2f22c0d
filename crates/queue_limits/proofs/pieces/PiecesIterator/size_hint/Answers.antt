use Rattle.std.proofs.Common.{◌≡◌, ℕ, ◌*◌, ◌/◌, ◌%◌, min, ◌+◌, ◌≤◌, length, List, subst, arith, ◌∙◌, ap, sum, sym, Some}
use Rattle.queue_limits.proofs.Splits.{fewest_pieces, most_pieces, ceil_fewest, ceil_some, greedy_splits}
use Rattle.queue_limits.proofs.pieces.PiecesIterator.size_hint.Goals as goal

pub returns-clause-lower : goal.returns-clause-lower
returns-clause-lower c = λ f.
    let P : List ℕ → Type 0 = λ ns. c.self.inside.left ≤ c.self.inside.limits.max * length ns in
    let few = subst P c.self.view_is (fewest_pieces c.self.inside.limits c.self.inside.start c.self.inside.left c.self.invariant.0.some_sector) in
    let value : c.max.result ≡ c.self.inside.limits.max = c.max.ensures.value in
    let least : c.div_ceil-least.result ≡ c.self.inside.left / c.self.inside.limits.max + min 1 (c.self.inside.left % c.self.inside.limits.max)
    = c.div_ceil-least.ensures ∙ ap (λ (m : ℕ). c.self.inside.left / m + min 1 (c.self.inside.left % m)) value in
    omega (arith, least, ceil_fewest c.self.inside.left c.self.inside.limits.max (length c.args.self.now) c.self.invariant.0.some_sector few)

pub returns-clause-upper : goal.returns-clause-upper
returns-clause-upper c =
    let P : List ℕ → Type 0 = λ ns. length ns ≤ c.self.inside.left in
    (tt, subst P c.self.view_is (most_pieces c.self.inside.limits c.self.inside.start c.self.inside.left c.self.invariant.0.some_sector))

pub returns-clause-sectors : goal.returns-clause-sectors
returns-clause-sectors c =
    let P : List ℕ → Type 0 = λ ns. sum ns ≡ c.self.inside.left in
    let joined = subst P c.self.view_is ((greedy_splits c.self.inside.left c.self.inside.limits c.self.inside.start c.self.inside.left c.self.invariant.0.some_sector (omega arith)).joined) in
    ap Some (sym joined)

pub returns-clause-some : goal.returns-clause-some
returns-clause-some c = λ some.
    let P : List ℕ → Type 0 = λ ns. length ns ≤ c.self.inside.left in
    let few = subst P c.self.view_is (most_pieces c.self.inside.limits c.self.inside.start c.self.inside.left c.self.invariant.0.some_sector) in
    let value : c.max.result ≡ c.self.inside.limits.max = c.max.ensures.value in
    let least : c.div_ceil-least.result ≡ c.self.inside.left / c.self.inside.limits.max + min 1 (c.self.inside.left % c.self.inside.limits.max)
    = c.div_ceil-least.ensures ∙ ap (λ (m : ℕ). c.self.inside.left / m + min 1 (c.self.inside.left % m)) value in
    omega (arith, least, ceil_some c.self.inside.left c.self.inside.limits.max c.self.invariant.0.some_sector (omega arith))
