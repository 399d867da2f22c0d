use Rattle.std.proofs.Common.{◌≡◌, Bool, true, false, Option, refl, ap, sym, ◌∙◌, subst}
use Rattle.percpu_core.specs.declared.view.View.TheVariants.{OfPass}
use Rattle.percpu_gate.specs.Seats.{PassFacts, Moment, zero_at}
use Rattle.percpu_gate.proofs.Known.{moment_knows, control_knows}
use Rattle.queue_core.specs.Readings.{is_in, tag_facts}
use Rattle.queue_core.proofs.ToldLimits.{told_is_now, limits_told-in}
use Rattle.queue_core.proofs.HoldsOff.{holds_off}
use Rattle.bias_lanes.specs.Lanes.{IsParked}
use Rattle.bias_lanes.specs.Seats.{owner_view}
use Rattle.bias_lanes.proofs.Moments.{entered_is_parked}
use Rattle.queue_core.specs.declared.parked.ParkedPass.{ParkedPass}
use Rattle.queue_core.specs.Biased.{Fits}
use Rattle.queue_core.specs.BiasedTags.{BiasedFacts, HasTold, is_unbiased}
use Rattle.queue_core.specs.BiasedLaws.{HoldsAtGate}
use Rattle.queue_core.proofs.laws.biased_holds_off.Goals as goal

not_both : (z : Bool) → z ≡ true → z ≡ false → ⊥
not_both z t f = let both : false ≡ true = sym f ∙ t in cc

holds : (t : BiasedFacts) (pass : PassFacts) → HasTold t.bias.lanes.key t.hardware t.limits pass → is_in pass.view ≡ true → HoldsAtGate pass t
holds t pass told inside =
    let read = told.told inside in
    let off : (m : Moment pass.gate (OfPass pass.view)) → zero_at m ≡ false = holds_off (tag_facts pass t.hardware t.bias.lanes) refl inside in
    record {
      own = told.own;
      still = λ m. told_is_now t.hardware pass.view t.limits m.cells.words read ((moment_knows pass.view m).read (limits_told-in t.hardware pass.view t.limits read));
      off = off;
      undrained = λ f is drained m stood. not_both m.cells.shared.zero ((control_knows _ m.cells m.views stood.0 f.seat m.lawful stood.1).zero (sym is.known ∙ drained)) (off m);
    }

pub returns : goal.returns
returns c = λ t is in_lane m.
    let was = is.parked (ap is_unbiased in_lane) in (
      was.what,
      subst (λ (o : Option ParkedPass). IsParked m.state.words m.state.homes t.bias.view.lane o) was.is (entered_is_parked Fits (owner_view t.bias) m t.bias.view (m.seat, owner_view t.bias, m.sees, refl) in_lane),
      holds t was.what.pass was.told was.entered,
    )
