use Rattle.std.proofs.Common.{◌∙◌, sym, ap, subst, ◌∷◌, [], length, Some}
use Rattle.std.proofs.lemmas.List.{length-append}
use Rattle.blk_workers.specs.Progress.{AreAwaited}
use Rattle.blk_workers.proofs.Awaited.{awaited_replied}
use Rattle.blk_workers.proofs.submitter.reply_now.Goals as goal

pub returns : goal.returns
returns c = record {
  replied = record {
    stands = c.in_ok-reply.ensures.stands;
    lines = ap length c.in_ok-reply.ensures.told ∙ length-append c.args.table.now.replies (Some c.in_ok-text.text.items ∷ []);
    awaited = λ given collected is awaited.
        subst (λ replies. AreAwaited c.args.script.now replies given collected) (sym c.in_ok-reply.ensures.told)
        (awaited_replied c.args.script.now c.args.table.now.replies given collected c.in_ok-text.text.items is awaited);
  };
  memory = tt;
}
