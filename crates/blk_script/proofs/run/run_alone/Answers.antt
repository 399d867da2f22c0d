use Rattle.std.proofs.Common.{◌≡◌, ◌∙◌, sym, ap, subst, arith, ◌+◌, List, [], ◌∷◌, ◌++◌, take}
use Rattle.std.proofs.lemmas.List.{take_more}
use Rattle.script_meaning.specs.declared.script.Line.{Line}
use Rattle.blk_script.specs.Machine.{state_of}
use Rattle.script_meaning.specs.Meaning.{start_of}
use Rattle.blk_script.proofs.Replies.{Told, told_more}
use Rattle.blk_script.proofs.run.run_alone.Goals as goal

pub loop-line-preserved : goal.loop-line-preserved
loop-line-preserved c =
    let lines : List Line = c.lines-line-items.result.now in
    let line : Line = c.line-item.result in
    let more : take (c.loop-line.line-index + 1) c.lines-line-items.result.now ≡ take c.loop-line.line-index c.lines-line-items.result.now ++ c.line-item.result ∷ []
    = take_more c.lines-line-items.result.now c.loop-line.line-index c.line-item.result c.loop-line-test.true ∙ ap (λ (l : Line). take c.loop-line.line-index c.lines-line-items.result.now ++ l ∷ []) (sym c.line-item.is) in
    let P : List Line → Type 0 = λ ls. Told (start_of c.args.script.now) ls c.push_line.new.out.items (state_of c.reply.new.self) in
    record {
      told = subst P (sym more) (told_more (start_of c.args.script.now) (take c.loop-line.line-index c.lines-line-items.result.now) c.loop-line.out.items (state_of c.loop-line.machine) (state_of c.reply.new.self)
          c.line-item.result c.in_ok-reply.reply c.push_line.new.out.items c.loop-line.invariant.told c.in_ok-reply.ensures.reply c.in_ok-reply.ensures.after c.in_ok-push_line.ensures);
      counts = omega (arith, c.in_ok-reply.ensures.counts, c.loop-line.invariant.counts);
    }
