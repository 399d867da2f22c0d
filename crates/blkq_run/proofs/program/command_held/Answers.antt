use Rattle.std.proofs.Common.{lit<, refl, inl}
use Rattle.std.proofs.KnownBytes.{Keeps-refl}
use Rattle.counted_io.proofs.Taking.{LosesUpTo-none}
use Rattle.blkq_run.proofs.program.command_held.Goals as goal

pub returns-in-Run-clause-usage : goal.returns-in-Run-clause-usage
returns-in-Run-clause-usage g c = λ none. absurd (none (inl (c.in-Run.config, (c.in-Run.ensures.run c.in-Run.config).0 refl)))

pub returns-in-Run-clause-unread : goal.returns-in-Run-clause-unread
returns-in-Run-clause-unread g c = λ none. absurd (none (inl (c.in-Run.config, (c.in-Run.ensures.run c.in-Run.config).0 refl)))

pub returns-in-Run-clause-unwritten : goal.returns-in-Run-clause-unwritten
returns-in-Run-clause-unwritten g c = λ none. absurd (none (inl (c.in-Run.config, (c.in-Run.ensures.run c.in-Run.config).0 refl)))

pub returns-in-Usage-clause-statuses : goal.returns-in-Usage-clause-statuses
returns-in-Usage-clause-statuses g c = (3, lit< tt, refl)

pub returns-in-Usage-clause-taken : goal.returns-in-Usage-clause-taken
returns-in-Usage-clause-taken g c = LosesUpTo-none _ _ _ (Keeps-refl _)
