-- A step of the control keeps the laws of the other views if it goes by its own.
use Rattle.std.proofs.Common.{◌≡◌, ℕ, ◌+◌, ◌*◌, ◌%◌, ◌<◌, ◌≤◌, ◌⊎◌, ⊎_elim, true, List, [], ◌∷◌, length, arith, sym, ◌∙◌, subst}
use Rattle.percpu_core.specs.declared.phase.Phase.TheVariants.{Opening}
use Rattle.percpu_core.specs.declared.view.ControlView.{ControlView}
use Rattle.percpu_core.specs.declared.view.View.{View}
use Rattle.percpu_core.specs.declared.view.View.TheVariants.{OfControl, OfPass, Spent}
use Rattle.percpu_words.specs.SharedWord.{SharedWord}
use Rattle.percpu_core.specs.Cells.{Cells, is_dead_alone}
use Rattle.percpu_core.specs.Phases.{holds_base, has_bias, is_dead_in, is_killing_in, is_open_in, may_be_zero, is_coming_back, has_odd_front, closed_so_far}
use Rattle.percpu_core.specs.Views.{count, held_by_all, additions_to_undo, zeros_to_mark, EachPass}
use Rattle.percpu_core.specs.SumLaw.{SumLaw}
use Rattle.percpu_core.specs.GuardLaw.{AreNow}
use Rattle.percpu_core.specs.ReleaseLaw.{Origin}
use Rattle.percpu_core.specs.LimitLaw.{fronts_due}
use Rattle.percpu_core.specs.declared.limits.TheConstants.{KILL_LIMIT}
use Rattle.percpu_core.specs.Laws.{Laws}
use Rattle.percpu_core.proofs.Passes.{EachPass-map}
use Rattle.percpu_core.proofs.Counting.{balance}

-- what a step of the control may do
pub record ControlChange (o : Origin) (cells : Cells) (c : ControlView) (vs : List View) (s : SharedWord) (front : ℕ) (words : List ℕ) (d : ControlView) : Type 0 where
  pub sum : s.value + count (holds_base c.standing.phase) ≡ cells.shared.value + count (holds_base d.standing.phase)
  -- what the phases say of the slots stays
  pub bias : has_bias d.standing.phase ≡ has_bias c.standing.phase
  pub open_slots : (k : ℕ) → is_open_in d.standing.phase k ≡ is_open_in c.standing.phase k
  pub closed : closed_so_far d.standing.phase ≡ closed_so_far c.standing.phase
  pub opening : (k : ℕ) → d.standing.phase ≡ Opening k → k < length cells.slots
  pub uncollected : d.standing.uncollected ≡ c.standing.uncollected
  pub dead : s.dead ≡ is_dead_in d.standing.phase d.killing
  pub killing : d.killing ≡ is_killing_in d.standing.phase d.killing
  pub after_drop : s.zero ≡ true → may_be_zero d.standing.phase ≡ true
  pub nothing_held : s.zero ≡ true → held_by_all vs ≡ 0
  pub known : d.knows_zero ≡ true → s.zero ≡ true
  pub settled : is_coming_back d.standing.phase ≡ true → d.knows_zero ≡ s.zero
  pub mark : is_dead_alone s ≡ true → 1 ≤ count d.standing.to_mark + zeros_to_mark vs
  pub guarded : (words ≡ cells.words) ⊎ (held_by_all vs ≡ 0)
  pub words_known : d.words ≡ words
  pub parity : front % 2 ≡ count (has_odd_front d.standing.phase)
  pub front_known : d.front ≡ front
  pub front_grows : cells.front ≤ front
  pub releases : d.releases + c.zeros_cleared + count cells.shared.zero ≡ c.releases + d.zeros_cleared + count s.zero
  pub zeros : d.zeros_cleared ≤ d.revivals
  pub zeros_grow : c.zeros_cleared + count cells.shared.zero ≤ d.zeros_cleared + count s.zero
  pub kills : d.revivals + count s.dead + c.standing.kills ≡ c.revivals + count cells.shared.dead + d.standing.kills
  pub dead_grows : c.revivals + count cells.shared.dead ≤ d.revivals + count s.dead
  pub passes : d.passes ≡ c.passes
  pub found_dead : d.found_dead ≡ c.found_dead
  pub found_zero : d.found_zero ≡ c.found_zero
  pub few_kills : d.standing.kills ≤ KILL_LIMIT
  pub due : d.front + fronts_due d.standing.phase d.killing + 2 * c.standing.kills ≡ c.front + fronts_due c.standing.phase c.killing + 2 * d.standing.kills

-- if nothing is held each pass holds nothing
unheld : (words : List ℕ) (vs : List View) → held_by_all vs ≡ 0 → EachPass (λ p. p.standing.held ≤ 65535) vs → EachPass (λ p. 0 < p.standing.held → AreNow words p.read) vs
unheld words [] none e = tt
unheld words (OfPass p ∷ vs) none e = ((λ some. absurd (omega arith)), unheld words vs (omega arith) e.1)
unheld words (OfControl c ∷ vs) none e = absurd e.0
unheld words (Spent ∷ vs) none e = (tt, unheld words vs (omega arith) e.1)

module _ (o : Origin) (cells : Cells) (c : ControlView) (vs : List View) (l : Laws o cells c vs)
    (s : SharedWord) (front : ℕ) (words : List ℕ) (d : ControlView) (g : ControlChange o cells c vs s front words d) where
  abbrev cells' : Cells
  cells' = record { shared = s; front = front; slots = cells.slots; words = words }

  sum : SumLaw cells' d vs
  sum = let base : ℕ = count (holds_base c.standing.phase) in let base' : ℕ = count (holds_base d.standing.phase) in let e = g.sum in
      rw (g.bias, g.uncollected) (balance cells.shared.value s.value (base + held_by_all vs + additions_to_undo vs) (base' + held_by_all vs + additions_to_undo vs) _ _ _ l.sum (omega arith))

  pub control_keeps : Laws o cells' d vs
  control_keeps = record {
    sum = sum;
    phase = record { slots = λ k t e. l.phase.slots k t e ∙ sym (g.open_slots k); closed = rw g.closed l.phase.closed; dead = g.dead; killing = g.killing; opening = g.opening };
    zero = record { after_drop = g.after_drop; nothing_held = g.nothing_held; known = g.known; settled = g.settled };
    mark = g.mark;
    guard = record {
      passes = ⊎_elim (λ same. subst (λ (ws : List ℕ). EachPass (λ p. 0 < p.standing.held → AreNow ws p.read) vs) (sym same) l.guard.passes) (λ none. unheld words vs none l.limit.held) g.guarded;
      known = g.words_known;
    };
    front = record { parity = g.parity; known = g.front_known; floors = let grows = g.front_grows in EachPass-map _ _ (λ q h. (let low = h.0 in omega arith, h.1)) vs l.front.floors };
    release = let more_dead = g.dead_grows in let more_zeros = g.zeros_grow in record {
      releases = let e = l.release.releases in let f = g.releases in omega arith;
      zeros = g.zeros;
      kills = let e = l.release.kills in let f = g.kills in omega arith;
      passes = g.passes ∙ l.release.passes;
      found_dead = EachPass-map _ _ (λ q f h. let n = f h in omega arith) vs l.release.found_dead;
      found_zero = EachPass-map _ _ (λ q f h. let n = f h in omega arith) vs l.release.found_zero;
      control_found_dead = λ h. let n = l.release.control_found_dead (sym g.found_dead ∙ h) in omega arith;
      control_found_zero = λ h. let n = l.release.control_found_zero (sym g.found_zero ∙ h) in omega arith;
    };
    limit = record {
      passes = subst (λ (n : ℕ). n ≤ 1024) (sym g.passes) l.limit.passes;
      held = l.limit.held;
      some_slot = l.limit.some_slot;
      slots = l.limit.slots;
      deltas = l.limit.deltas;
      uncollected_most = rw (g.uncollected, g.closed) l.limit.uncollected_most;
      uncollected_least = rw (g.uncollected, g.closed) l.limit.uncollected_least;
      kills = g.few_kills;
      front = let e = l.limit.front in let f = g.due in omega arith;
    };
  }
