-- A run that goes on by one event.
use Rattle.std.proofs.Common.{◌≡◌, List, [], ◌∷◌, ◌++◌, None, refl, subst}
use Rattle.percpu_core.specs.declared.event.Event.{Event}
use Rattle.percpu_core.specs.declared.reply.Reply.{Reply}
use Rattle.percpu_core.specs.Machine.{State, refusal, reply, after, Run}

pub Run-more : (old : State) (es : List Event) (rs : List Reply) (mid : State) (e : Event) → Run old es rs mid → refusal mid e ≡ None → Run old (es ++ e ∷ []) (rs ++ reply mid e ∷ []) (after mid e)
Run-more old [] [] mid e run free = let is : mid ≡ old = run in
    subst (λ (s : State). Run s (e ∷ []) (reply mid e ∷ []) (after mid e)) is (free, refl, refl)
Run-more old [] (r ∷ rs) mid e run free = absurd run
Run-more old (x ∷ es) [] mid e run free = absurd run
Run-more old (x ∷ es) (r ∷ rs) mid e run free = (run.0, run.1, Run-more (after old x) es rs mid e run.2 free)
