use Rattle.std.proofs.Common.{◌≡◌, ◌+◌, ℕ, zero, suc, ◌∷◌, [], ◌++◌, Option, List, refl, subst, ◌∙◌, arith}
use Rattle.std.specs.Prelude.{IfSome, replicate}
use Rattle.std.proofs.lemmas.List.Elements.{All-pop}
use Rattle.percpu_gate.specs.Seats.{GateFacts, PassFacts, fresh_pass}
use Rattle.queue_core.specs.Queue.{TagFacts, first_tag}
use Rattle.bias_lanes.specs.Rule.{new_owner}
use Rattle.bias_lanes.specs.Seats.{LanesFacts, LaneFacts}
use Rattle.queue_core.specs.declared.parked.ParkedPass.{ParkedPass}
use Rattle.queue_core.proofs.queue.make_tags.Goals as goal

snoc : (n : ℕ) (x : TagFacts) → replicate n x ++ x ∷ [] ≡ replicate (suc n) x
snoc zero x = refl
snoc (suc n) x = λ j. x ∷ snoc n x j

grown : (n : ℕ) (x t : TagFacts) (made new : List TagFacts) → new ≡ made ++ t ∷ [] → made ≡ replicate n x → t ≡ x → new ≡ replicate (n + 1) x
grown n x t made new e is one = let next : suc n ≡ n + 1 = omega arith in
    subst (λ (k : ℕ). new ≡ replicate k x) next (e ∙ (λ j. is j ++ one j ∷ []) ∙ snoc n x)

module _ (gate : GateFacts) (hardware : ℕ) (on : LanesFacts GateFacts) where
  fresh : (pass : PassFacts) (lane : LaneFacts ParkedPass GateFacts) (n : ℕ) (t : TagFacts)
      → t ≡ first_tag (record { gate = pass.gate; hardware = hardware; lanes = lane.lanes }) → pass ≡ fresh_pass gate → lane ≡ record { lanes = on; view = new_owner n }
      → t ≡ first_tag (record { gate = gate; hardware = hardware; lanes = on })
  fresh pass lane n t made new is = made ∙ (λ i. first_tag (record { gate = (new i).gate; hardware = hardware; lanes = (is i).lanes }))

pub loop-number-preserved : goal.loop-number-preserved
loop-number-preserved c =
    let g = c.args.gate.now in
    let left = All-pop (λ (p : PassFacts). p ≡ fresh_pass g) _ _ _ c.pop.ensures.items c.loop-number.invariant.0 in
    let pass = subst (λ (r : Option PassFacts). IfSome r (λ p. p ≡ fresh_pass g)) c.in-Some-Some.is-0 left.1 in
    let lane = subst (λ (r : Option (LaneFacts ParkedPass GateFacts)). IfSome r (λ l. l ≡ record { lanes = c.args.lanes.now; view = new_owner c.loop-number.number })) c.in-Some-Some.is-1 c.owner.ensures.owner in
    (left.0, grown c.loop-number.number _ _ _ _ c.in_ok-push.ensures.items c.loop-number.invariant.1 (fresh g c.args.hardware c.args.lanes.now _ _ _ _ c.new.ensures pass lane))
