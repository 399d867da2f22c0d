use Rattle.std.proofs.Common.{◌≡◌, ◌∙◌, refl, true, sym, ap, subst, ◌+◌, ◌++◌, ◌∷◌, [], length, Some}
use Rattle.std.proofs.lemmas.List.{length-set}
use Rattle.script_meaning.specs.Script.{Meant}
use Rattle.blk_workers.specs.Progress.{AreAwaited}
use Rattle.in_flight.specs.Table.{Stands, is_owed, owed_count}
use Rattle.in_flight.specs.Requests.{IsAcceptedAt}
use Rattle.blk_workers.proofs.Awaited.{awaited_fewer, awaited_taken}
use Rattle.in_flight.proofs.Places.{count_set}
use Rattle.blk_workers.proofs.handing.take_completion.Goals as goal

pub returns-in_err-answer-clause-taken : goal.returns-in_err-answer-clause-taken
returns-in_err-answer-clause-taken g c = record {
  stands = c.requires.stands;
  lines = refl;
  awaited = λ given collected awaited. awaited_fewer g.J.Run.script c.args.table.now.replies given c.args.completion.number collected awaited;
}

pub returns-clause-taken : goal.returns-clause-taken
returns-clause-taken g c =
    let here = c.into_parts-position.result.0 in
    let at : IsAcceptedAt g.J.Run.script c.args.completion.number here = subst (IsAcceptedAt g.J.Run.script c.args.completion.number) (sym c.into_parts-position.ensures.position) c.into_parts-position.ensures.request in
    let owed : is_owed c.args.table.now.replies here ≡ true = ap (is_owed c.args.table.now.replies) c.into_parts-position.ensures.position ∙ c.requires.owed in
    record {
      stands = subst (λ (s : Meant). Stands s c.complete.new.self.replies c.complete.new.self.disk) (c.script.ensures ∙ c.context.invariant.0.its_script) c.complete.ensures.stands;
      lines = ap length c.complete.ensures.taken ∙ length-set c.args.table.now.replies here (Some c.in_ok-answer.answer.text);
      awaited = λ given collected awaited.
          subst (λ replies. AreAwaited g.J.Run.script replies given (collected ++ c.args.completion.number ∷ [])) (sym c.complete.ensures.taken)
          (awaited_taken g.J.Run.script c.args.table.now.replies given c.args.completion.number here c.in_ok-answer.answer.text collected at owed awaited);
    }

pub returns-clause-filled : goal.returns-clause-filled
returns-clause-filled g c =
    let replies = c.args.table.now.replies in
    let here = c.into_parts-position.result.0 in
    ap (λ rs. owed_count rs + 1) c.complete.ensures.taken ∙ count_set replies here c.in_ok-answer.answer.text (ap (is_owed replies) c.into_parts-position.ensures.position ∙ c.requires.owed)
