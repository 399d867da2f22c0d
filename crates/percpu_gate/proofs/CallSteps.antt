-- The steps of a call, put together from those of its parts.
use Rattle.std.proofs.Common.{◌≡◌, ℕ, Bool, true, false, not, ◌∷◌, inl, inr, refl, ap, sym, ◌∙◌, subst}
use Rattle.percpu_core.specs.declared.pass_event.PassEvent.{PassEvent}
use Rattle.percpu_core.specs.declared.pass_event.PassEvent.TheVariants as events
use Rattle.percpu_gate.specs.declared.tried.Put.{Put}
use Rattle.percpu_gate.specs.declared.tried.Tried.{Tried}
use Rattle.percpu_gate.specs.Rule.{Steps}
use Rattle.percpu_gate.specs.Seats.{tried, left, marked}
use Rattle.percpu_gate.specs.Calls.{is_refused}
use Rattle.percpu_gate.specs.Steps.{SubtractsOnce, EndsPut, TakesBack, TryAddsOnce, TrySteps}

-- a subtraction, and what comes of the zero that it left
pub put_steps : (e : PassEvent) (r : Put) (to_mark : Bool) (old mid new : Steps) → mid ≡ (e, left to_mark) ∷ old → EndsPut to_mark r mid new → SubtractsOnce e r old new
put_steps e r true old mid new is end = inr (end ∙ ap (λ (s : Steps). (events.Mark, marked r) ∷ s) is)
put_steps e r false old mid new is end = inl (end.0, end.1 ∙ is)

given_is : (r : Tried) → is_refused r ≡ false → r ≡ Tried.Given
given_is Tried.Given is = refl
given_is (Tried.Refused r) is = cc

ends_given : (r : Tried) (mid new : Steps) → is_refused r ≡ false → TakesBack r mid new → new ≡ mid
ends_given Tried.Given mid new is end = end
ends_given (Tried.Refused r) mid new is end = cc

not_true : (b : Bool) → b ≡ true → not b ≡ false
not_true b is = ap not is

not_not : (b : Bool) → not (not b) ≡ b
not_not true = refl
not_not false = refl

-- the count of a try, and what it takes back
pub try_steps : (e : PassEvent) (slot : ℕ) (b : Bool) (r : Tried) (old mid new : Steps) → TryAddsOnce e slot b old mid → is_refused r ≡ not b → TakesBack r mid new → TrySteps e slot r old new
try_steps e slot b r old mid new t same end = record {
  behind = t.behind;
  is_won = t.is_won;
  slot = t.slot;
  won = λ won. let w = t.won won in let given = same ∙ not_true b w.0 in (given_is r given, ends_given r mid new given end ∙ w.1);
  lost = λ lost. subst (λ (s : Steps). TakesBack r s new) (t.lost lost ∙ ap (λ (x : Bool). (e, tried x) ∷ t.behind) (sym (ap not same ∙ not_not b))) end;
}
