use Rattle.std.proofs.Common.{◌≡◌, lit<, refl}
use Rattle.std.proofs.KnownBytes.{Keeps-refl}
use Rattle.counted_io.proofs.Taking.{LosesUpTo-none}
use Rattle.races_run.proofs.program.command.Goals as goal

pub returns-in-Answer-clause-told : goal.returns-in-Answer-clause-told
returns-in-Answer-clause-told g c = λ form most asked.
    let same = (c.in-Answer.ensures form most).1 asked in
    let its_form : form ≡ c.in-Answer.form = cc in
    let its_most : most ≡ c.in-Answer.most = cc in
    rw (its_form, its_most) c.outcomes_reported.ensures.told

pub returns-in-Answer-clause-usage : goal.returns-in-Answer-clause-usage
returns-in-Answer-clause-usage g c = λ none. absurd (none (c.in-Answer.form, c.in-Answer.most, (c.in-Answer.ensures c.in-Answer.form c.in-Answer.most).0 refl))

pub returns-in-Answer-clause-unread : goal.returns-in-Answer-clause-unread
returns-in-Answer-clause-unread g c = λ none. absurd (none (c.in-Answer.form, c.in-Answer.most, (c.in-Answer.ensures c.in-Answer.form c.in-Answer.most).0 refl))

pub returns-in-Answer-clause-unwritten : goal.returns-in-Answer-clause-unwritten
returns-in-Answer-clause-unwritten g c = λ none. absurd (none (c.in-Answer.form, c.in-Answer.most, (c.in-Answer.ensures c.in-Answer.form c.in-Answer.most).0 refl))

pub returns-in-Usage-clause-statuses : goal.returns-in-Usage-clause-statuses
returns-in-Usage-clause-statuses g c = (2, lit< tt, refl)

pub returns-in-Usage-clause-told : goal.returns-in-Usage-clause-told
returns-in-Usage-clause-told g c = λ form most asked. let same = (c.in-Usage.ensures form most).1 asked in cc

pub returns-in-Usage-clause-taken : goal.returns-in-Usage-clause-taken
returns-in-Usage-clause-taken g c = LosesUpTo-none _ _ _ (Keeps-refl _)
