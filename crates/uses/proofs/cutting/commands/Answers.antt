use Rattle.std.proofs.Common.{sym, ap, ◌++◌, arith, subst, sum}
use Rattle.queue_limits.specs.Pieces.{IsSplit}
use Rattle.uses.specs.declared.cutting.Command.{Command}
use Rattle.uses.specs.Commands.{lengths, AreInARow}
use Rattle.uses.proofs.Rows.{row-push, sum-push, split-push}
use Rattle.uses.proofs.cutting.commands.Goals as goal

-- the piece that the iterator gave is the command that was pushed
pub loop-sectors-preserved : goal.loop-sectors-preserved
loop-sectors-preserved c =
    let made = c.loop-sectors.made.items in
    let next : Command = record { first = c.loop-sectors.first; sectors = c.in-Some.sectors } in
    let pushed = c.in_ok-push.ensures.items in
    let (can_next, finite, row, first, split) = c.loop-sectors.invariant in
    let now_split = split-push _ _ _ made next _ (subst (λ xs. IsSplit c.args.limits.now c.args.start c.args.count (lengths made ++ xs)) c.in-Some.ensures.steps split) in (
      tt,
      tt,
      subst (AreInARow c.args.start) (sym pushed) (row-push _ made next row first),
      omega (arith, ap (λ xs. sum (lengths xs)) pushed, sum-push made next, first, c.from-first.ensures),
      subst (λ xs. IsSplit c.args.limits.now c.args.start c.args.count (lengths xs ++ c.next.new.self)) (sym pushed) now_split,
    )
