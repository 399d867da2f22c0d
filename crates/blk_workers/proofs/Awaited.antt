-- Which replies are owed once a completion is collected, or a line taken: those of the accepted requests whose completions weren't collected.
use Rattle.std.proofs.Common.{◌≡◌, ◌≢◌, ◌∙◌, sym, ap, subst, ℕ, ◌+◌, ◌<◌, inl, inr, true, arith, List, [], ◌∷◌, ◌++◌, length, set, Option, Some, None, is_some}
use Rattle.std.proofs.lemmas.Bool.{cases_eq, cases_lt}
use Rattle.std.proofs.lemmas.List.{length-append}
use Rattle.atomic_table.specs.Seated.{TableId}
use Rattle.run_queues.specs.Numbers.{times, one_at}
use Rattle.run_queues.specs.Parts.{CollectorFacts}
use Rattle.run_queues.proofs.Increasing.{one_at_itself, times_append}
use Rattle.script_meaning.specs.Requests.{accepted_at, accepted_before}
use Rattle.script_meaning.specs.Script.{Meant}
use Rattle.script_meaning.specs.declared.reply.Request.{Request}
use Rattle.script_meaning.proofs.Numbers.{in_order}
use Rattle.blk_workers.specs.Progress.{AreAwaited, HasTakenCompletion, IsCollecting}
use Rattle.in_flight.specs.Table.{is_owed}
use Rattle.in_flight.specs.Requests.{IsAcceptedAt}
use Rattle.in_flight.specs.declared.table.InFlightTable.{InFlightTable}
use Rattle.in_flight.proofs.Places.{count_push_none, count_push_some, count_set, owed_push, owed_at, owed_set_other}
use Rattle.in_flight.proofs.Numbering.{before_grows}

-- a request whose number is below the count before a position stands before it
stands_before : (script : Meant) (number position here : ℕ) → IsAcceptedAt script number position → number < accepted_before script here → position < here
stands_before script number position here at less =
    elim (cases_lt position here) [ inl before ↦ before | inr behind ↦ absurd (omega (arith, at.count, less, before_grows script here position behind)) ]

-- a number is that of one request
one_position : (script : Meant) (number p q : ℕ) → IsAcceptedAt script number p → IsAcceptedAt script number q → p ≡ q
one_position script number p q first second =
    elim (cases_eq p q) [
      | inl same ↦ same
      | inr other ↦ elim (cases_lt p q) [
        | inl less ↦ absurd (omega (arith, first.count, second.count, in_order script p q less first.accepted))
        | inr more ↦ absurd (omega (arith, first.count, second.count, in_order script q p (omega (arith, more, other)) second.accepted))
      ]
    ]

-- a number that wasn't collected after one more wasn't before, and is another
not_before : (number last : ℕ) (collected : List ℕ) → times number (collected ++ last ∷ []) ≡ 0 → times number collected ≡ 0
not_before number last collected none = omega (arith, none, times_append number collected (last ∷ []))

is_another : (number last : ℕ) (collected : List ℕ) → times number (collected ++ last ∷ []) ≡ 0 → number ≢ last
is_another number last collected none = λ same.
    let here : one_at number last ≡ 1 = subst (λ n. one_at number n ≡ 1) same (one_at_itself number) in
    omega (arith, none, here, times_append number collected (last ∷ []))

-- a collector that collected more, twice
pub same_but_collected : (first second third : CollectorFacts) (xs : List ℕ) → second ≡ record first { collected = second.collected } → third ≡ record second { collected = xs }
    → third ≡ record first { collected = third.collected }
same_but_collected first second third xs once again =
    again ∙ ap (λ (k : CollectorFacts). record k { collected = xs }) once ∙ ap (λ (numbers : List ℕ). record first { collected = numbers }) (sym (ap (λ (k : CollectorFacts). k.collected) again))

-- a completion is collected and taken, and more may be
pub collects_on : (script : Meant) (completions : TableId) (before after : InFlightTable) (first second : CollectorFacts) (number : ℕ) → IsCollecting script completions before first
    → second ≡ record first { collected = first.collected ++ number ∷ [] } → HasTakenCompletion script number before after → IsCollecting script completions after second
collects_on script completions before after first second number collecting is taken = record {
  stands = taken.stands;
  own = ap (λ (k : CollectorFacts). k.queue) is ∙ collecting.own;
  awaited = subst (λ (k : CollectorFacts). AreAwaited script after.replies k.given k.collected) (sym is) (taken.awaited first.given first.collected collecting.awaited);
}

-- a completion is collected that brings no answer, and one that does
pub awaited_fewer : (script : Meant) (replies : List (Option (List ℕ))) (given last : ℕ) (collected : List ℕ) → AreAwaited script replies given collected → AreAwaited script replies given (collected ++ last ∷ [])
awaited_fewer script replies given last collected awaited = record {
  each = λ number position at less none. awaited.each number position at less (not_before number last collected none);
  no_more = omega (arith, awaited.no_more, length-append collected (last ∷ []));
}

pub awaited_taken : (script : Meant) (replies : List (Option (List ℕ))) (given last here : ℕ) (text : List ℕ) (collected : List ℕ) → IsAcceptedAt script last here → is_owed replies here ≡ true
    → AreAwaited script replies given collected → AreAwaited script (set replies here (Some text)) given (collected ++ last ∷ [])
awaited_taken script replies given last here text collected done owed awaited = record {
  each = λ number position at less none.
      let other : position ≢ here = λ same. is_another number last collected none (sym at.count ∙ ap (accepted_before script) same ∙ done.count) in
      owed_set_other replies here position (Some text) other ∙ awaited.each number position at less (not_before number last collected none);
  no_more = omega (arith, awaited.no_more, count_set replies here text owed, length-append collected (last ∷ []));
}

-- a line is taken that is no accepted request, and one that is
pub awaited_replied : (script : Meant) (replies : List (Option (List ℕ))) (given : ℕ) (collected : List ℕ) (text : List ℕ) → given ≡ accepted_before script (length replies)
    → AreAwaited script replies given collected → AreAwaited script (replies ++ Some text ∷ []) given collected
awaited_replied script replies given collected text is awaited = record {
  each = λ number position at less none.
      owed_push replies (Some text) position (stands_before script number position (length replies) at (omega (arith, less, is))) ∙ awaited.each number position at less none;
  no_more = omega (arith, awaited.no_more, count_push_some replies text);
}

pub awaited_submitted : (script : Meant) (replies : List (Option (List ℕ))) (given : ℕ) (collected : List ℕ) (request : Request) → given ≡ accepted_before script (length replies)
    → accepted_at script (length replies) ≡ Some request → AreAwaited script replies given collected → AreAwaited script (replies ++ None ∷ []) (given + 1) collected
awaited_submitted script replies given collected request is accepted awaited = record {
  each = λ number position at less none.
      elim (cases_lt number given) [
        | inl before ↦ owed_push replies None position (stands_before script number position (length replies) at (omega (arith, before, is))) ∙ awaited.each number position at before none
        | inr last ↦
            let mine : IsAcceptedAt script number (length replies) = record { accepted = ap is_some accepted; count = omega (arith, is, last, less) } in
            ap (is_owed (replies ++ None ∷ [])) (one_position script number position (length replies) at mine) ∙ owed_at replies None
      ];
  no_more = omega (arith, awaited.no_more, count_push_none replies);
}
