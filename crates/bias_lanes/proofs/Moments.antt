-- The laws at a moment.
use Rattle.std.proofs.Common.{◌≡◌, ◌≢◌, ℕ, ◌%◌, ◌≤◌, get_or, sym, ◌∙◌, subst, arith}
use Rattle.bias_lanes.specs.declared.views.Stage.{Stage}
use Rattle.bias_lanes.specs.declared.views.Stage.TheVariants.{Unbiased, Idle, Entered}
use Rattle.bias_lanes.specs.declared.views.Mark.TheVariants.{Watched, Out}
use Rattle.bias_lanes.specs.declared.views.LaneView.{LaneView}
use Rattle.bias_lanes.specs.declared.views.View.{View}
use Rattle.bias_lanes.specs.Lanes.{lane_place, IsParked, LaneFits}
use Rattle.bias_lanes.specs.Rule.{OwnerFits, mark_at}
use Rattle.bias_lanes.specs.Steps.{Moment}
use Rattle.bias_lanes.specs.Laws.{IsThere}
use Rattle.bias_lanes.proofs.Stages as stages

module _ {T K : Type 0} (Fits : K → T → Type 0) where
  module _ (v : View T K) (m : Moment Fits v) (o : LaneView T) (h : IsThere Fits m o) where
    abbrev e : ℕ
    e = m.ruled.freezer.epoch

    abbrev Held : Type 0
    Held = IsParked m.state.words m.state.homes o.lane o.parked

    abbrev w : ℕ
    w = get_or m.state.words (lane_place o.lane) 0

    known : OwnerFits o m.ruled.freezer m.state.words m.state.homes
    known = m.ruled.owned h.0 h.1 o h.2 h.3

    pub entered_is_parked : o.stage ≡ Entered → Held
    entered_is_parked is = stages.held o.bias e w Held (subst (λ (x : Stage). LaneFits x o.bias e w Held) is known.lane)

    pub bias_even : o.stage ≢ Unbiased → o.bias % 2 ≡ 0
    bias_even n = (stages.bias_of o.bias e w Held o.stage n known.lane).even

    pub bias_begun : o.bias ≤ get_or m.state.words 0 0
    bias_begun = subst (λ (x : ℕ). o.bias ≤ x) (sym m.ruled.epoch) (stages.not_later o.bias e w Held o.stage known.lane)

    odd_apart : e % 2 ≡ 1 → o.stage ≢ Unbiased → o.bias ≢ get_or m.state.words 0 0
    odd_apart odd n is = let even = bias_even n in let same : o.bias ≡ e = is ∙ m.ruled.epoch in omega arith

    pub out_stays_out : mark_at m.ruled.freezer o.lane ≡ Out → (o.stage ≢ Entered) × (o.stage ≢ Unbiased → o.bias ≢ get_or m.state.words 0 0)
    out_stays_out is = let told = stages.out_of_mark (mark_at m.ruled.freezer o.lane) e o.stage is known.mark in (told.1, odd_apart told.0)

    pub watched_is_not_at_rest : mark_at m.ruled.freezer o.lane ≡ Watched → (o.stage ≢ Idle) × (o.stage ≢ Unbiased → o.bias ≢ get_or m.state.words 0 0)
    watched_is_not_at_rest is = let told = stages.watched_of_mark (mark_at m.ruled.freezer o.lane) e o.stage is known.mark in (told.1, odd_apart told.0)
