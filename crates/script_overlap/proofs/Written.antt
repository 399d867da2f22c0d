-- The requests that are written of the lines before a position, of one line more, and of all.
use Rattle.std.proofs.Common.{◌≡◌, ◌∙◌, refl, sym, ap, subst, ℕ, zero, suc, ◌+◌, ◌<◌, ◌≤◌, arith, List, [], ◌∷◌, ◌++◌, length, Option, inl, inr}
use Rattle.std.proofs.lemmas.Bool.{cases_lt}
use Rattle.std.proofs.lemmas.List.{length-append}
use Rattle.std.proofs.lemmas.Option.{slice_get_past}
use Rattle.std.specs.Option.{option_and_then}
use Rattle.script_meaning.specs.Requests.{accepted_at, queue_at}
use Rattle.script_meaning.specs.Script.{Meant}
use Rattle.script_meaning.specs.Taken.{accepted}
use Rattle.script_meaning.specs.declared.script.Line.{Line}
use Rattle.script_meaning.specs.declared.reply.Request.{Request}
use Rattle.script_overlap.specs.Decided.{AreWritten, written_at}

-- of each line before a position its request is written, if it has one, and of no other
pub record AreWrittenUpTo (script : Meant) (position : ℕ) (requests : List (Option Request)) : Type 0 where
  pub many : length requests ≡ position
  pub each : (i : ℕ) → i < position → written_at requests i ≡ accepted_at script i

written_last : (requests : List (Option Request)) (request : Option Request) → written_at (requests ++ request ∷ []) (length requests) ≡ request
written_last [] request = refl
written_last (first ∷ requests) request = written_last requests request

written_before : (requests : List (Option Request)) (request : Option Request) (i : ℕ) → i < length requests → written_at (requests ++ request ∷ []) i ≡ written_at requests i
written_before [] request i inside = absurd (omega (arith, inside))
written_before (first ∷ requests) request zero inside = refl
written_before (first ∷ requests) request (suc i) inside = written_before requests request i (omega (arith, inside))

-- one line more
pub written_more : (script : Meant) (position : ℕ) (requests : List (Option Request)) (request : Option Request) → accepted_at script position ≡ request
    → AreWrittenUpTo script position requests → AreWrittenUpTo script (position + 1) (requests ++ request ∷ [])
written_more script position requests request is so_far = record {
  many = length-append requests (request ∷ []) ∙ ap (λ n. n + 1) so_far.many;
  each = λ i inside.
      elim (cases_lt i position) [
        | inl before ↦ written_before requests request i (omega (arith, before, so_far.many)) ∙ so_far.each i before
        | inr last ↦
            let here : position ≡ i = omega (arith, inside, last) in
            subst (λ p. written_at (requests ++ request ∷ []) p ≡ accepted_at script p) here
            (ap (written_at (requests ++ request ∷ [])) (sym so_far.many) ∙ written_last requests request ∙ sym is)
      ];
}

-- past the last line all are written
pub all_written : (script : Meant) (position : ℕ) (requests : List (Option Request)) → length script.lines ≤ position → AreWrittenUpTo script position requests
    → AreWritten script requests
all_written script position requests last so_far = λ i.
    elim (cases_lt i position) [
      | inl before ↦ so_far.each i before
      | inr past ↦
          ap (option_and_then (λ (r : Option Request). r)) (slice_get_past requests i (omega (arith, past, so_far.many)))
          ∙ sym (ap (option_and_then (λ (l : Line). accepted (queue_at script i) l.what)) (slice_get_past script.lines i (omega (arith, past, last))))
    ]
