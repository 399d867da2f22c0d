-- What the program's status tells where a run or a replay ends with a fault.
use Rattle.std.proofs.Common.{◌≡◌, ◌⊎◌, ap, ℕ, true, List, Option, None, Some, is_some, IfSome, IfNone, OnSome, IsErr, IsOkAnd, Result, Ok, Err, lit<, refl, inl, inr, arith}
use Rattle.std.proofs.lemmas.Bool.{false≢true}
use Rattle.line_text.specs.declared.fault.ParseFault.{ParseFault}
use Rattle.counted_io.specs.Failures.{GivesUp, HasFailed}
use Rattle.counted_io.specs.Reading.{IfKnown}
use Rattle.counted_io.specs.Tally.{Tally}
use Rattle.counted_io.specs.declared.TheConstants.{TRIES}
use Rattle.counted_io.specs.Writing.{TakesNothing, TakesPart}
use Rattle.gate_replay.specs.Shown.{Shown, shown_by}
use Rattle.blkq_run.specs.Answer.{IsAnswer, IsAnsweredBy}
use Rattle.blkq_run.specs.Faults.{IsOfReplay, IsRefusal, refusal_of, status_of, written_of}
use Rattle.blkq_run.specs.Statuses.{HasGivenUp, ShowsPart, TellsReplay, TellsRun, WritesPart}
use Rattle.blkq_run.specs.declared.fault.Fault.{Fault}
use Rattle.blkq_run.specs.declared.fault.Fault.TheVariants.{Memory, Thread, Read, Write, Parse, Overlap}

-- what holds of an input that is known holds where each such fact gives another
map_known : (known : Option (List ℕ)) (P Q : List ℕ → Type 0) → ((input : List ℕ) → P input → Q input) → IfSome known P → IfSome known Q
map_known None P Q f p = tt
map_known (Some input) P Q f p = f input p

-- the status of the faults by which a broken reader and a broken writer are answered
pub four_at_read : {A : Type 0} (result : Result A Fault) (fault : Fault) → result ≡ Err fault → result ≡ Err Read → status_of fault ≡ 4
four_at_read result fault is read = let same : fault ≡ Read = cc in ap status_of same

pub four_at_write : (fault : Fault) → is_some (written_of fault) ≡ true → status_of fault ≡ 4
four_at_write Memory some = refl
four_at_write Thread some = refl
four_at_write Read some = refl
four_at_write (Write written) some = refl
four_at_write (Parse fault) some = absurd (false≢true some)
four_at_write (Overlap pair) some = absurd (false≢true some)

no_refusal : (status : ℕ) → status ≡ 4 → (status ≡ 2) ⊎ (status ≡ 3) → ⊥
no_refusal status four (inl is) = omega (arith, four, is)
no_refusal status four (inr is) = omega (arith, four, is)

module _ {R W : Type 0} (left : R → Option (List ℕ)) (held : W → Option (List ℕ)) (reader : Tally R) (old new : Tally W) where
  short_run : TakesNothing held old new ⊎ (HasGivenUp old new × IfKnown left reader (λ input. IsAnsweredBy input (TakesPart held old new)))
      → TellsRun left held reader old new 4
  short_run short = record {
    statuses = (3, lit< tt, refl);
    success = λ is. absurd (omega (arith, is));
    refused = λ is. absurd (no_refusal 4 refl is);
    untouched = λ is. absurd (no_refusal 4 refl is);
    partly = λ is. short;
  }

  -- the status of a run that ended with this fault
  pub run_at_fault : (fault : Fault) → (IsRefusal fault → IfKnown left reader (λ input. IsAnswer input (Err fault)))
      → IfSome (written_of fault) (WritesPart left held reader old new) → IfNone (written_of fault) (TakesNothing held old new)
      → OnSome (written_of fault) (HasFailed old new) → OnSome (written_of fault) (GivesUp TRIES old new)
      → TellsRun left held reader old new (status_of fault)
  run_at_fault Memory refusal part none failed gave_up = short_run (inl none)
  run_at_fault Thread refusal part none failed gave_up = short_run (inl none)
  run_at_fault Read refusal part none failed gave_up = short_run (inl none)
  run_at_fault (Write written) refusal part none failed gave_up =
      short_run (inr ((failed, gave_up), map_known (left reader.inner) _ _ (λ input p. (p.0, p.1, (written, p.2.0, p.2.1))) part))
  run_at_fault (Parse fault) refusal part none failed gave_up = record {
    statuses = (1, lit< tt, refl);
    success = λ is. absurd (omega (arith, is));
    refused = λ is. map_known (left reader.inner) _ _ (λ input p. (Parse fault, p, refl)) (refusal tt);
    untouched = λ is. none;
    partly = λ is. absurd (omega (arith, is));
  }
  run_at_fault (Overlap pair) refusal part none failed gave_up = record {
    statuses = (2, lit< tt, refl);
    success = λ is. absurd (omega (arith, is));
    refused = λ is. map_known (left reader.inner) _ _ (λ input p. (Overlap pair, p, refl)) (refusal tt);
    untouched = λ is. none;
    partly = λ is. absurd (omega (arith, is));
  }

  short_replay : TakesNothing held old new
      ⊎ (HasGivenUp old new × IfKnown left reader (λ input. IsOkAnd (shown_by input) (λ shown. TakesPart held old new shown.text)))
      → TellsReplay left held reader old new 4
  short_replay short = record {
    statuses = (3, lit< tt, refl);
    whole = λ is. absurd (omega (arith, is));
    stuck = λ is. absurd (omega (arith, is));
    no_schedule = λ is. absurd (omega (arith, is));
    untouched = λ is. absurd (omega (arith, is));
    partly = λ is. short;
  }

  ok_and : (shown : Result Shown ParseFault) (P Q : Shown → Type 0) → ((s : Shown) → P s → Q s) → IsOkAnd shown P → IsOkAnd shown Q
  ok_and (Ok s) P Q f p = f s p
  ok_and (Err e) P Q f p = absurd p

  refused_schedule : (shown : Result Shown ParseFault) (fault : ParseFault) → shown ≡ Err fault → IsErr shown
  refused_schedule shown fault is = rw is refl

  -- the status of a replay that ended with this fault
  pub replay_at_fault : (fault : Fault) → IfSome (refusal_of fault) (λ refusal. IfKnown left reader (λ input. shown_by input ≡ Err refusal))
      → IsOfReplay fault → IfSome (written_of fault) (ShowsPart left held reader old new) → IfNone (written_of fault) (TakesNothing held old new)
      → OnSome (written_of fault) (HasFailed old new) → OnSome (written_of fault) (GivesUp TRIES old new)
      → TellsReplay left held reader old new (status_of fault)
  replay_at_fault Memory refusal kind part none failed gave_up = short_replay (inl none)
  replay_at_fault Thread refusal kind part none failed gave_up = absurd kind
  replay_at_fault Read refusal kind part none failed gave_up = short_replay (inl none)
  replay_at_fault (Write written) refusal kind part none failed gave_up =
      short_replay (inr ((failed, gave_up), map_known (left reader.inner) _ _ (λ input p. ok_and (shown_by input) _ _ (λ s q. (written, q.0, q.1)) p) part))
  replay_at_fault (Parse fault) refusal kind part none failed gave_up = record {
    statuses = (1, lit< tt, refl);
    whole = λ is. absurd (omega (arith, is));
    stuck = λ is. absurd (omega (arith, is));
    no_schedule = λ is. map_known (left reader.inner) _ _ (λ input p. refused_schedule (shown_by input) fault p) refusal;
    untouched = λ is. none;
    partly = λ is. absurd (omega (arith, is));
  }
  replay_at_fault (Overlap pair) refusal kind part none failed gave_up = absurd kind
