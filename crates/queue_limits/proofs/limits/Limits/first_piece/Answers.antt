use Rattle.std.proofs.Common.{◌≡◌, ◌+◌, ◌-◌, bit_and, ap, ◌∙◌, arith, ℕ}
use Rattle.queue_limits.specs.Bounds.{Bounds}
use Rattle.queue_limits.specs.Greedy.{reach}
use Rattle.queue_limits.proofs.Blocks.{first_by_mask}
use Rattle.queue_limits.proofs.limits.Limits.first_piece.Goals as goal

pub returns-then-past-from-clause-length : goal.returns-then-past-from-clause-length
returns-then-past-from-clause-length c =
    let same : c.reach-reach.result ≡ reach c.args.self.now c.args.start = c.reach-reach.ensures.length in
    let reached : c.from.result ≡ reach c.args.self.now c.args.start = c.from.ensures ∙ same in
    let physical : c.from-2.result ≡ c.args.self.now.physical = c.from-2.ensures ∙ ap (λ (b : Bounds). b.physical) c.self.view_is in
    let past : bit_and (c.args.start + c.from.result) (c.from-2.result - 1) ≡ bit_and (c.args.start + reach c.args.self.now c.args.start) (c.args.self.now.physical - 1) = cc in
    let found = first_by_mask c.args.self.now c.args.start c.args.left (bit_and (c.args.start + c.from.result) (c.from-2.result - 1)) c.reach-reach.ensures.allowed.physical_size (omega arith) past in
    ap (λ (r : ℕ). r - bit_and (c.args.start + c.from.result) (c.from-2.result - 1)) same ∙ found.0 (omega arith)

pub returns-else-past-from-clause-length : goal.returns-else-past-from-clause-length
returns-else-past-from-clause-length c =
    let same : c.reach-reach.result ≡ reach c.args.self.now c.args.start = c.reach-reach.ensures.length in
    let reached : c.from.result ≡ reach c.args.self.now c.args.start = c.from.ensures ∙ same in
    let physical : c.from-2.result ≡ c.args.self.now.physical = c.from-2.ensures ∙ ap (λ (b : Bounds). b.physical) c.self.view_is in
    let past : bit_and (c.args.start + c.from.result) (c.from-2.result - 1) ≡ bit_and (c.args.start + reach c.args.self.now c.args.start) (c.args.self.now.physical - 1) = cc in
    let found = first_by_mask c.args.self.now c.args.start c.args.left (bit_and (c.args.start + c.from.result) (c.from-2.result - 1)) c.reach-reach.ensures.allowed.physical_size (omega arith) past in
    same ∙ found.1 (omega arith)
