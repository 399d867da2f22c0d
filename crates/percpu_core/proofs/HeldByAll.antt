-- What all passes hold, counted in a world and over the views.
use Rattle.std.proofs.Common.{◌≡◌, ℕ, ◌≤◌, List, [], ◌∷◌, map, refl, arith, ◌∙◌, subst}
use Rattle.std.specs.Prelude.{sum_by}
use Rattle.std.proofs.lemmas.List.Sums.{sum_by-cons}
use Rattle.percpu_core.specs.declared.view.View.{View}
use Rattle.percpu_core.specs.declared.view.View.TheVariants.{OfControl, OfPass, Spent}
use Rattle.percpu_core.specs.Views.{of_pass, held_by_all, passes_left}
use Rattle.percpu_core.specs.Machine.{State, held_in, held_in_all}
use Rattle.percpu_core.specs.Snapshots.{Snapshot, standing_of, IsLawful}
use Rattle.percpu_core.proofs.Passes.{over_passes-most}

held_of : (v : View) → held_in (standing_of v) ≡ of_pass (λ p. p.standing.held) v
held_of (OfPass p) = refl
held_of (OfControl c) = refl
held_of Spent = refl

pub held_same : (vs : List View) → sum_by held_in (map standing_of vs) ≡ held_by_all vs
held_same [] = refl
held_same (v ∷ vs) = let r = held_same vs in let h = held_of v in sum_by-cons held_in (standing_of v) (map standing_of vs) ∙ (omega arith)

pub few_held : (s : State) → IsLawful s → held_in_all s ≤ 67107840
few_held s l = let m : Snapshot = l.1 in let most = over_passes-most (λ p. p.standing.held) 65535 m.others l.3.limit.held in let few : passes_left m.others ≤ 1024 = subst (λ (n : ℕ). n ≤ 1024) l.3.release.passes l.3.limit.passes in
    let same = held_same m.others in subst (λ (s : State). held_in_all s ≤ 67107840) l.2 (omega arith)
