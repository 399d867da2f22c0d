-- Steps that were read, in front of those that are still to come.
use Rattle.std.proofs.Common.{◌≡◌, ◌∙◌, ap, ℕ, List, [], ◌∷◌, ◌++◌, Result, Ok}
use Rattle.line_text.proofs.Fronts.{with_front, with_front-more}
use Rattle.line_text.specs.Numbers.{◌>>=◌}
use Rattle.line_text.specs.Answers.{at_line}
use Rattle.line_text.specs.declared.fault.Why.{Why}
use Rattle.line_text.specs.declared.fault.ParseFault.{ParseFault}
use Rattle.percpu_core.specs.declared.event.Event.{Event}
use Rattle.gate_replay.specs.Schedules.{told_by, events_of}

-- a step more in front
pub events_more : (front : List (ℕ × Event)) (line : ℕ) (said : Result (List (List ℕ)) Why) (more : List (ℕ × Result (List (List ℕ)) Why)) (event : Event)
    → at_line line (told_by said) ≡ Ok event → with_front front (events_of ((line, said) ∷ more)) ≡ with_front (front ++ (line, event) ∷ []) (events_of more)
events_more front line said more event told =
    ap (λ (r : Result Event ParseFault). with_front front (r >>= λ e. events_of more >>= λ events. Ok ((line, e) ∷ events))) told
    ∙ with_front-more front (line, event) (events_of more)
