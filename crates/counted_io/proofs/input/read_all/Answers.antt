use Rattle.std.proofs.Common.{◌≡◌, ◌+◌, ◌≤◌, length, take, arith, rules, length-take}
use Rattle.std.specs.Io.KnownBytes.{Consumes, IsAtEnd}
use Rattle.counted_io.proofs.Taking.{LosesUpTo-more, whole_input, full_input}
use Rattle.counted_io.proofs.input.read_all.Goals as goal

pub returns-in_err-read_more-clause-taken : goal.returns-in_err-read_more-clause-taken
returns-in_err-read_more-clause-taken g c =
    let fits : length c.loop-input.input.items + length (take c.min-wanted.result c.loop-input.room) ≤ c.args.most =
    simp length-take (omega (arith, c.loop-input.input.ok.0, c.min-wanted.ensures)) in
    LosesUpTo-more _ _ _ c.loop-input.input.items _ c.args.most c.loop-input.invariant.0 c.in_err-read_more.ensures.taken fits

pub returns-then-branch-eq0-clause-input : goal.returns-then-branch-eq0-clause-input
returns-then-branch-eq0-clause-input g c =
    let whole : Consumes (g.R.Read.remaining c.args.reader.now.inner) (g.R.Read.remaining c.read_more.new.reader.inner) c.read_more.new.input.items = search rules in
    let end : IsAtEnd (g.R.Read.remaining c.read_more.new.reader.inner) = search rules in
    let few : length c.read_more.new.input.items ≤ c.args.most = omega (arith, c.read_more.new.input.ok.0, c.in_ok-read_more.ensures.count) in
    whole_input _ _ c.read_more.new.input.items c.args.most whole end few

pub returns-clause-input : goal.returns-clause-input
returns-clause-input g c =
    let full : length c.loop-input.input.items ≡ c.args.most = omega (arith, c.loop-input.input.ok.0) in
    full_input _ _ c.loop-input.input.items c.args.most c.loop-input.invariant.0 full
