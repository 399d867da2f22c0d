-- What a try met: one addition of its call found its mark or not, or none was made if a slot gave.
use Rattle.std.proofs.Common.{◌≡◌, ℕ, ◌+◌, Bool, true, false, not, ◌⊎◌, inl, inr, [], refl, ap, sym, ◌∙◌, subst, arith}
use Rattle.percpu_core.specs.declared.pass_event.PassEvent.TheVariants as events
use Rattle.percpu_core.specs.declared.view.PassView.{PassView}
use Rattle.percpu_core.specs.Cells.{Cells}
use Rattle.percpu_core.specs.Views.{count}
use Rattle.percpu_gate.specs.declared.tried.Tried.{Tried}
use Rattle.percpu_gate.specs.declared.tried.Tried.TheVariants.{Given, Refused}
use Rattle.percpu_gate.specs.Calls.{is_refused, after_try, has_dead, has_zero, FindsNothing, OneAddition, TryMeets}
use Rattle.percpu_gate.specs.Counts.{SlotTake}
use Rattle.percpu_gate.specs.Seats.{GateFacts, PassStep, tried, dead_at, zero_at}
use Rattle.percpu_gate.proofs.Known.{moment_knows}
use Rattle.percpu_gate.proofs.SlotCounts.{moment_before}

none_then : (old mid new : PassView) → FindsNothing old mid → FindsNothing mid new → FindsNothing old new
none_then old mid new a b = record { looks = b.looks ∙ a.looks; dead = b.dead ∙ a.dead; zero = b.zero ∙ a.zero }

abbrev one_then : {g : GateFacts} (old mid new : PassView) → OneAddition g old mid → FindsNothing mid new → OneAddition g old new
one_then old mid new a b = record { moment = a.moment; looks = b.looks ∙ a.looks; dead = b.dead ∙ a.dead; zero = b.zero ∙ a.zero }

-- the steps after the addition of a try find nothing
end_finds_nothing : (mid new : PassView) (r : Tried) → new ≡ after_try r mid → FindsNothing mid new
end_finds_nothing mid new Given is = record { looks = ap (λ (v : PassView). v.looks) is; dead = ap (λ (v : PassView). v.found_dead_times) is; zero = ap (λ (v : PassView). v.found_zero_times) is }
end_finds_nothing mid new (Refused r) is = record { looks = ap (λ (v : PassView). v.looks) is; dead = ap (λ (v : PassView). v.found_dead_times) is; zero = ap (λ (v : PassView). v.found_zero_times) is }

meets_then : {g : GateFacts} (mark : Cells → Bool) (old mid new : PassView) (refused : Bool) → TryMeets g mark old mid refused → FindsNothing mid new → TryMeets g mark old new refused
meets_then mark old mid new refused (inl none) n = inl (none.0, none_then old mid new none.1 n)
meets_then mark old mid new refused (inr one) n = inr (one_then old mid new one.0 n, one.1)

pub try_meets : {g : GateFacts} (mark : Cells → Bool) (old mid new : PassView) (b : Bool) (r : Tried) → TryMeets g mark old mid (not b) → new ≡ after_try r mid → is_refused r ≡ not b → TryMeets g mark old new (is_refused r)
try_meets {g} mark old mid new b r t is same = subst (λ (refused : Bool). TryMeets g mark old new refused) (sym same) (meets_then mark old mid new (not b) t (end_finds_nothing mid new r is))

-- the addition of a try, and which marks it found
pub try_added : {g : GateFacts} (old new : PassView) (b : Bool) (s : PassStep g events.AddTry old new (tried b)) → zero_at s.moment ≡ not b → TryMeets g has_zero old new (not b)
try_added old new b s found = inr (
  record { moment = s.moment; looks = ap (λ (v : PassView). v.looks) s.learned; dead = ap (λ (v : PassView). v.found_dead_times) s.learned; zero = ap (λ (v : PassView). v.found_zero_times) s.learned },
  found,
)

pub live_added : {g : GateFacts} (old new : PassView) (b : Bool) (s : PassStep g events.AddLive old new (tried b)) → dead_at s.moment ≡ not b → TryMeets g has_dead old new (not b)
live_added old new b s found = inr (
  record { moment = s.moment; looks = ap (λ (v : PassView). v.looks) s.learned; dead = ap (λ (v : PassView). v.found_dead_times) s.learned; zero = ap (λ (v : PassView). v.found_zero_times) s.learned },
  found,
)

-- if a slot gives nothing is added
pub slot_meets : {g : GateFacts} (mark : Cells → Bool) (slot : ℕ) (old new : PassView) → SlotTake g slot 1 old new true → TryMeets g mark old new false
slot_meets mark slot old new t = let is = t.won refl in inl (
  refl,
  record { looks = ap (λ (v : PassView). v.looks) is; dead = ap (λ (v : PassView). v.found_dead_times) is; zero = ap (λ (v : PassView). v.found_zero_times) is },
)

-- an exchange that wasn't won leaves the counts
abbrev Unwon : PassView → PassView → Type 0
Unwon old mid = (mid ≡ old) ⊎ ((old.standing.held ≡ 0) × (mid ≡ record old { read = [] }))

loss_finds_nothing : (old mid : PassView) → Unwon old mid → FindsNothing old mid
loss_finds_nothing old mid (inl is) = record { looks = ap (λ (v : PassView). v.looks) is; dead = ap (λ (v : PassView). v.found_dead_times) is; zero = ap (λ (v : PassView). v.found_zero_times) is }
loss_finds_nothing old mid (inr none) = record { looks = ap (λ (v : PassView). v.looks) none.1; dead = ap (λ (v : PassView). v.found_dead_times) none.1; zero = ap (λ (v : PassView). v.found_zero_times) none.1 }

pub meets_after_loss : (g : GateFacts) (mark : Cells → Bool) (old mid new : PassView) (refused : Bool) → Unwon old mid → TryMeets g mark mid new refused → TryMeets g mark old new refused
meets_after_loss g mark old mid new refused lost (inl none) = inl (none.0, none_then old mid new (loss_finds_nothing old mid lost) none.1)
meets_after_loss g mark old mid new refused lost (inr one) = let before = moment_before g old mid lost one.0.moment in let same = loss_finds_nothing old mid lost in inr (
  record {
    moment = before.0;
    looks = one.0.looks ∙ same.looks;
    dead = one.0.dead ∙ ap (λ (n : ℕ). n + count (dead_at one.0.moment)) same.dead ∙ ap (λ (cells : Cells). old.found_dead_times + count cells.shared.dead) (sym before.1);
    zero = one.0.zero ∙ ap (λ (n : ℕ). n + count (zero_at one.0.moment)) same.zero ∙ ap (λ (cells : Cells). old.found_zero_times + count cells.shared.zero) (sym before.1);
  },
  ap mark before.1 ∙ one.1,
)

-- so a try finds its mark once more if and only if it is refused
no_more : (n : ℕ) (refused : Bool) → refused ≡ false → n ≡ n + count refused
no_more n true is = cc
no_more n false is = omega arith

pub zero_times : {g : GateFacts} (old new : PassView) (refused : Bool) → TryMeets g has_zero old new refused → new.found_zero_times ≡ old.found_zero_times + count refused
zero_times old new refused (inl none) = none.1.zero ∙ no_more old.found_zero_times refused none.0
zero_times old new refused (inr one) = one.0.zero ∙ ap (λ (b : Bool). old.found_zero_times + count b) one.1

pub dead_times : {g : GateFacts} (old new : PassView) (refused : Bool) → TryMeets g has_dead old new refused → new.found_dead_times ≡ old.found_dead_times + count refused
dead_times old new refused (inl none) = none.1.dead ∙ no_more old.found_dead_times refused none.0
dead_times old new refused (inr one) = one.0.dead ∙ ap (λ (b : Bool). old.found_dead_times + count b) one.1

-- a pass that found ZERO found DEAD too
pub both_times : {g : GateFacts} (old new : PassView) (refused : Bool) → TryMeets g has_zero old new refused → refused ≡ true → new.found_dead_times ≡ old.found_dead_times + 1
both_times old new refused (inl none) is = let no = none.0 in cc
both_times old new refused (inr one) is = one.0.dead ∙ ap (λ (b : Bool). old.found_dead_times + count b) ((moment_knows old one.0.moment).zero_is_dead (one.1 ∙ is))
