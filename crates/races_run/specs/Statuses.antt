-- The meaning of the program's status. `left` has the bytes that a reader has left, and `held` those that a writer holds, if they are known.
use Rattle.std.specs.Prelude.{◌≡◌, ◌⊎◌, [], ◌∷◌, ℕ, ◌<◌, List, Option, Contains, IfSome, length, take}
use Rattle.counted_io.specs.Failures.{GivesUp, HasFailed}
use Rattle.counted_io.specs.Reading.{IfKnown}
use Rattle.counted_io.specs.Tally.{Tally}
use Rattle.counted_io.specs.declared.TheConstants.{TRIES}
use Rattle.counted_io.specs.Writing.{Takes, TakesNothing, TakesPart}
use Rattle.races_run.specs.Answer.{IsAnsweredBy, IsRefused, IsWithin}
use Rattle.races_run.specs.Requests.{Asks}
use Rattle.races_run.specs.declared.writing.Form.{Form}

-- the writer failed, with a fault other than an interruption or after the maximum number of interrupted tries
abbrev pub HasGivenUp : {W : Type 0} → Tally W → Tally W → Type 0
HasGivenUp old new = HasFailed old new × GivesUp TRIES old new

-- the writer took exactly this many first bytes of the answer to the reader's input, and not all
abbrev pub WritesPart : {R W : Type 0} → Form → (R → Option (List ℕ)) → (W → Option (List ℕ)) → Tally R → Tally W → Tally W → ℕ → Type 0
WritesPart form left held reader old new written =
    IfKnown left reader (λ input. IsAnsweredBy form input (λ text. (written < length text) × Takes held old new (take written text)))

-- the meaning of the status: 0, exactly the answer to the race was written, in this form, and the number of states that are kept is within the bound,
-- if there is one; 2, the input is no race, and nothing was written; 4, nothing was written, or the writer failed for good after it had taken
-- the first bytes of the answer, not all
pub record TellsOutcomes {R W : Type 0} (form : Form) (left : R → Option (List ℕ)) (held : W → Option (List ℕ)) (most : Option ℕ) (reader : Tally R) (old new : Tally W) (status : ℕ) : Type 0 where
  pub statuses : Contains (0 ∷ 2 ∷ 4 ∷ []) status
  pub success : status ≡ 0 → IfKnown left reader (λ input. IsAnsweredBy form input (Takes held old new))
  pub within : status ≡ 0 → IfSome most (λ most. IfKnown left reader (IsWithin most))
  pub refused : status ≡ 2 → IfKnown left reader (IsRefused form)
  pub untouched : status ≡ 2 → TakesNothing held old new
  pub partly : status ≡ 4 → TakesNothing held old new
      ⊎ (HasGivenUp old new × IfKnown left reader (λ input. IsAnsweredBy form input (TakesPart held old new)))

-- whatever the arguments ask for, with any bound or none, the status has this meaning
abbrev pub TellsAsAsked : {R W : Type 0} → List (List ℕ) → (R → Option (List ℕ)) → (W → Option (List ℕ)) → Tally R → Tally W → Tally W → ℕ → Type 0
TellsAsAsked words left held reader old new status = (form : Form) (most : Option ℕ) → Asks words form most → TellsOutcomes form left held most reader old new status
