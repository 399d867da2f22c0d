-- What taking in a pass that nobody asked for leaves: one pass fewer is out.
use Rattle.std.proofs.Common.{◌≡◌, ℕ, ◌+◌, ◌-◌, ◌≤◌, Bool, true, false, nat_lt, if◌then◌else◌, refl, ap, ◌∙◌, arith}
use Rattle.std.specs.Prelude.{◌||◌}
use Rattle.std.proofs.Math.Bool.{or-false}
use Rattle.std.proofs.lemmas.Bool.{ltb-false}
use Rattle.percpu_core.specs.declared.view.ControlView.{ControlView}
use Rattle.percpu_core.specs.ControlLearns.{joined}
use Rattle.percpu_core.specs.Snapshots.{first_pass}
use Rattle.percpu_gate.specs.Rule.{after_retire}
use Rattle.percpu_gate.specs.Seats.{GateFacts, PassFacts, ControlFacts, fresh_pass}
use Rattle.percpu_gate_c.specs.ControlCalls.{with_passes}

joined_fresh : (v : ControlView) → joined v first_pass ≡ record v { passes = v.passes - 1 }
joined_fresh v =
    let none : v.releases + 0 ≡ v.releases = omega arith in
    ap (λ (r : ℕ). record v { releases = r; passes = v.passes - 1; found_dead = v.found_dead || false; found_zero = v.found_zero || false }) none
    ∙ ap (λ (d : Bool). record v { passes = v.passes - 1; found_dead = d; found_zero = v.found_zero || false }) (or-false v.found_dead)
    ∙ ap (λ (z : Bool). record v { passes = v.passes - 1; found_zero = z }) (or-false v.found_zero)

by_out : (v : ControlView) (out : Bool) → nat_lt 0 v.passes ≡ out → (if out then joined v first_pass else v) ≡ record v { passes = v.passes - 1 }
by_out v true some = joined_fresh v
by_out v false none = let at_zero : v.passes ≤ 0 = ltb-false 0 v.passes none in let same : v.passes ≡ v.passes - 1 = omega arith in ap (λ (n : ℕ). record v { passes = n }) same

after_fresh : (v : ControlView) → after_retire first_pass v ≡ record v { passes = v.passes - 1 }
after_fresh v = by_out v (nat_lt 0 v.passes) refl

pub taken : {gate : GateFacts} {pass : PassFacts} (old : ControlFacts) {new : ControlFacts} → new ≡ record old { view = after_retire pass.view old.view } → pass ≡ fresh_pass gate → new ≡ with_passes (old.view.passes - 1) old
taken {pass = pass} old is fresh =
    is ∙ ap (λ (v : ControlView). record old { view = v }) (ap (λ (p : PassFacts). after_retire p.view old.view) fresh ∙ after_fresh old.view)
