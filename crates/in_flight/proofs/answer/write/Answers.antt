use Rattle.std.proofs.Common.{subst, rules}
use Rattle.queue_limits.specs.Pieces.{IsSplit}
use Rattle.script_meaning.specs.declared.reply.Reply.TheVariants.{Written}
use Rattle.in_flight.proofs.answer.write.Goals as goal

pub returns : goal.returns
returns c =
    let pieces = c.cut.new.self.pieces.items in
    record {
      reply = Written pieces;
      told = search rules;
      right = λ s limits. subst (λ l. IsSplit l c.args.start c.args.count pieces) limits c.in_ok-cut.ensures.cut;
      leaves = search rules;
    }
