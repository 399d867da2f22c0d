use Rattle.std.proofs.Common.{◌≤◌, ◌-◌, ◌^◌, min, arith}
use Rattle.std.proofs.Math.Nat.{pow-le-pow_right}
use Rattle.script_overlap.proofs.span.mask.Goals as goal

pub overflow_sub-result : goal.overflow_sub-result
overflow_sub-result c =
    let low = c.args.start - c.args.first in
    let high = min (c.args.end - c.args.first) 64 in
    let more : 2 ^ c.saturating_sub.result ≤ 2 ^ c.min.result = pow-le-pow_right {n = 2} (omega arith) {i = c.saturating_sub.result} {j = c.min.result} (omega arith) in
    omega arith
