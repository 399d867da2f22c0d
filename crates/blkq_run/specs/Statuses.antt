-- What the program's status means for a run, and for a replay. `left` has the bytes that a reader has left, and `held` those that a writer holds, if they are
-- known.
use Rattle.std.specs.Prelude.{◌≡◌, ◌⊎◌, [], ◌∷◌, ℕ, ◌<◌, List, Option, Contains, IsErr, IsOkAnd, length, take}
use Rattle.counted_io.specs.Failures.{GivesUp, HasFailed}
use Rattle.counted_io.specs.Reading.{IfKnown}
use Rattle.counted_io.specs.Tally.{Tally}
use Rattle.counted_io.specs.declared.TheConstants.{TRIES}
use Rattle.counted_io.specs.Writing.{Takes, TakesNothing, TakesPart}
use Rattle.gate_replay.specs.Shown.{EndsSo, shown_by}
use Rattle.gate_replay.specs.declared.replay.Replayed.TheVariants.{Whole, Stuck}
use Rattle.blkq_run.specs.Answer.{IsAnsweredBy, IsRefusedBy}
use Rattle.blkq_run.specs.Faults.{status_of}

-- the writer failed, other than by an interruption or as often as an interrupted write is tried
abbrev pub HasGivenUp : {W : Type 0} → Tally W → Tally W → Type 0
HasGivenUp old new = HasFailed old new × GivesUp TRIES old new

-- of the answer to what the reader had, the writer took the first `written` bytes, which aren't all, and nothing else
abbrev pub WritesPart : {R W : Type 0} → (R → Option (List ℕ)) → (W → Option (List ℕ)) → Tally R → Tally W → Tally W → ℕ → Type 0
WritesPart left held reader old new written =
    IfKnown left reader (λ input. IsAnsweredBy input (λ text. (written < length text) × Takes held old new (take written text)))

-- the same for what the replay of its schedule shows
abbrev pub ShowsPart : {R W : Type 0} → (R → Option (List ℕ)) → (W → Option (List ℕ)) → Tally R → Tally W → Tally W → ℕ → Type 0
ShowsPart left held reader old new written =
    IfKnown left reader (λ input. IsOkAnd (shown_by input) (λ shown. (written < length shown.text) × Takes held old new (take written shown.text)))

-- what the status of a run means: 0 that the script's answer is a text and exactly that text was written; 2 and 3 that the script is refused for a fault of
-- that status, and nothing was written; 4 that nothing was written, or that the writer failed for good after it took the first bytes of the answer, not all
pub record TellsRun {R W : Type 0} (left : R → Option (List ℕ)) (held : W → Option (List ℕ)) (reader : Tally R) (old new : Tally W) (status : ℕ) : Type 0 where
  pub statuses : Contains (0 ∷ 2 ∷ 3 ∷ 4 ∷ []) status
  pub success : status ≡ 0 → IfKnown left reader (λ input. IsAnsweredBy input (Takes held old new))
  pub refused : (status ≡ 2) ⊎ (status ≡ 3) → IfKnown left reader (λ input. IsRefusedBy input (λ fault. status_of fault ≡ status))
  pub untouched : (status ≡ 2) ⊎ (status ≡ 3) → TakesNothing held old new
  pub partly : status ≡ 4 → TakesNothing held old new
      ⊎ (HasGivenUp old new × IfKnown left reader (λ input. IsAnsweredBy input (TakesPart held old new)))

-- what the status of a replay means: 0 and 3 that exactly what the schedule's replay shows was written, and it ends whole or stuck; 2 that the input is no
-- schedule, and nothing was written; 4 the same as for a run
pub record TellsReplay {R W : Type 0} (left : R → Option (List ℕ)) (held : W → Option (List ℕ)) (reader : Tally R) (old new : Tally W) (status : ℕ) : Type 0 where
  pub statuses : Contains (0 ∷ 2 ∷ 3 ∷ 4 ∷ []) status
  pub whole : status ≡ 0 → IfKnown left reader (λ input. EndsSo input Whole (Takes held old new))
  pub stuck : status ≡ 3 → IfKnown left reader (λ input. EndsSo input Stuck (Takes held old new))
  pub no_schedule : status ≡ 2 → IfKnown left reader (λ input. IsErr (shown_by input))
  pub untouched : status ≡ 2 → TakesNothing held old new
  pub partly : status ≡ 4 → TakesNothing held old new
      ⊎ (HasGivenUp old new × IfKnown left reader (λ input. IsOkAnd (shown_by input) (λ shown. TakesPart held old new shown.text)))
