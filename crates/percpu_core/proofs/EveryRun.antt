-- The laws after every run.
use Rattle.std.proofs.Common.{◌≡◌, ◌+◌, ◌^◌, ◌<◌, ◌≤◌, Bool, true, false, List, [], ◌∷◌, None, refl, arith, ap, sym, ◌∙◌, subst}
use Rattle.std.specs.Prelude.{sum_by, unsigned_abs, slice_index_or}
use Rattle.std.proofs.lemmas.List.Sums.{sum_by-cons}
use Rattle.percpu_core.specs.declared.event.Event.{Event}
use Rattle.percpu_core.specs.declared.event.Event.TheVariants.{Pass, Control}
use Rattle.percpu_core.specs.declared.control_event.ControlEvent.TheVariants as control
use Rattle.percpu_core.specs.declared.view.ControlView.{ControlView}
use Rattle.percpu_core.specs.declared.view.View.{View}
use Rattle.percpu_core.specs.declared.view.View.TheVariants.{OfControl, OfPass, Spent}
use Rattle.percpu_core.specs.declared.reply.Reply.{Reply}
use Rattle.percpu_core.specs.declared.reply.Reply.TheVariants.{Last}
use Rattle.percpu_core.specs.Views.{count, releases_of_passes}
use Rattle.percpu_core.specs.LimitLaw.{AreSmall}
use Rattle.percpu_core.specs.ReleaseLaw.{Origin}
use Rattle.percpu_core.specs.Machine.{State, refusal, reply, after, won, held_in_all, Run}
use Rattle.percpu_core.specs.Starts.{first_state}
use Rattle.percpu_core.specs.Snapshots.{Snapshot, control_taking, snapshot_after, snapshot_after_all, first_snapshot, origin_of, kept}
use Rattle.percpu_core.specs.Interleavings.{LawsAlways, ReleasedAtZero, ReleasedOncePerKill, kill, ReleasedOnceInALife, MovesOfTheCounter, NumbersStaySmall}
use Rattle.percpu_core.specs.CounterMoves.{counter_of, move_of, MayMove}
use Rattle.percpu_core.specs.Phases.{holds_base}
use Rattle.percpu_core.proofs.Moves.{event_moves, released_at_zero}
use Rattle.percpu_core.proofs.Opening.{first_lawful, first_kept}
use Rattle.percpu_core.proofs.Counting.{value-most, count-most}
use Rattle.percpu_core.proofs.PassEvents.{zero_dead}
use Rattle.percpu_core.proofs.Kept.{Holds, event_goes}
use Rattle.percpu_core.proofs.Room.{few_fronts, sum_few}

along : (o : Origin) (m : Snapshot) → Holds o m → (events : List Event) (replies : List Reply) (last : State) → Run (kept m) events replies last
    → Holds o (snapshot_after_all m events) × (kept (snapshot_after_all m events) ≡ last)
along o m l [] [] last run = (l, sym run)
along o m l [] (r ∷ rs) last run = absurd run
along o m l (e ∷ es) [] last run = absurd run
along o m l (e ∷ es) (r ∷ rs) last run = let goes = event_goes o m l e run.0 in
    along o (snapshot_after m e) goes.0 es rs last (subst (λ (s : State). Run s es rs last) (sym goes.1) run.2)

pub laws_always : LawsAlways
laws_always o events replies last reach = along (origin_of o) (first_snapshot o) (first_lawful o reach.within) events replies last
    (subst (λ (s : State). Run s events replies last) (sym (first_kept o)) reach.run)

pub won_along : (s : State) (events : List Event) (replies : List Reply) (last : State) → Run s events replies last → last.releases ≡ s.releases + sum_by won replies
won_along s [] [] last run = let same = ap (λ (s : State). s.releases) run in omega arith
won_along s [] (r ∷ rs) last run = absurd run
won_along s (e ∷ es) [] last run = absurd run
won_along s (e ∷ es) (r ∷ rs) last run = let more = won_along (after s e) es rs last run.2 in let is = ap won run.1 in let sum = sum_by-cons won r rs in
    let step : (after s e).releases ≡ s.releases + won (reply s e) = counted e in omega arith
  where
    counted : (e : Event) → (after s e).releases ≡ s.releases + won (reply s e)
    counted (Pass k e) = refl
    counted (Control e) = refl

zero_counts : (zero dead : Bool) → (zero ≡ true → dead ≡ true) → count zero ≤ count dead
zero_counts false dead h = omega arith
zero_counts true dead h = let e = ap count (h refl) in omega arith

pub zero_if_dead : (o : Origin) (m : Snapshot) → Holds o m → count m.cells.shared.zero ≤ count m.cells.shared.dead
zero_if_dead o m l = zero_counts m.cells.shared.zero m.cells.shared.dead (λ h. l.phase.dead ∙ zero_dead m.control.standing.phase m.control.killing (l.zero.after_drop h))

pub few : (o : Origin) (m : Snapshot) → Holds o m → m.control.releases + releases_of_passes m.others + o.kills ≤ m.control.standing.kills
few o m l = let r = l.release.releases in let z = l.release.zeros in let k = l.release.kills in
    let d = zero_if_dead o m l in omega arith

pub released_once_per_kill : ReleasedOncePerKill
released_once_per_kill o events replies last reach = let m : Snapshot = snapshot_after_all (first_snapshot o) events in let h = laws_always o events replies last reach in
    let counts = won_along (first_state o) events replies last reach.run in let less = few (origin_of o) m h.0 in
    let releases = ap (λ (s : State). s.releases) h.1 in let kills = ap (λ (s : State). s.control.kills) h.1 in omega arith

-- the kills of a part of a run
kill_counts : (s : State) (e : Event) → (after s e).control.kills ≡ s.control.kills + kill e
kill_counts s (Pass k e) = omega arith
kill_counts s (Control (control.Join k)) = omega arith
kill_counts s (Control control.ClearDead) = omega arith
kill_counts s (Control control.MarkDead) = omega arith
kill_counts s (Control control.Close) = omega arith
kill_counts s (Control control.Collect) = omega arith
kill_counts s (Control control.Confirm) = omega arith
kill_counts s (Control control.DropBase) = omega arith
kill_counts s (Control control.Mark) = omega arith
kill_counts s (Control control.TakeBase) = omega arith
kill_counts s (Control control.NextFront) = omega arith
kill_counts s (Control control.AddBias) = omega arith
kill_counts s (Control control.OpenNext) = omega arith
kill_counts s (Control (control.StoreWord k v)) = omega arith
kill_counts s (Control control.LookShared) = omega arith

pub kills_along : (s : State) (events : List Event) (replies : List Reply) (last : State) → Run s events replies last → last.control.kills ≡ s.control.kills + sum_by kill events
kills_along s [] [] last run = let same = ap (λ (s : State). s.control.kills) run in omega arith
kills_along s [] (r ∷ rs) last run = absurd run
kills_along s (e ∷ es) [] last run = absurd run
kills_along s (e ∷ es) (r ∷ rs) last run = let more = kills_along (after s e) es rs last run.2 in let one = kill_counts s e in let sum = sum_by-cons kill e es in omega arith

-- a gate is brought back at least as often as from zero
pub taken_zeros : (v : View) (c : ControlView) → ((control_taking v c).zeros_cleared ≡ c.zeros_cleared) × ((control_taking v c).revivals ≡ c.revivals)
taken_zeros (OfPass p) c = (refl, refl)
taken_zeros (OfControl d) c = (refl, refl)
taken_zeros Spent c = (refl, refl)

abbrev FewerZeros : Snapshot → Snapshot → Type 0
FewerZeros m n = n.control.zeros_cleared + m.control.revivals ≤ m.control.zeros_cleared + n.control.revivals

zeros_step : (m : Snapshot) (e : Event) → FewerZeros m (snapshot_after m e)
zeros_step m (Pass k e) = omega arith
zeros_step m (Control (control.Join k)) = let same = taken_zeros (slice_index_or m.others k Spent) m.control in omega arith
zeros_step m (Control control.ClearDead) = let one = count-most m.cells.shared.zero in omega arith
zeros_step m (Control control.MarkDead) = omega arith
zeros_step m (Control control.Close) = omega arith
zeros_step m (Control control.Collect) = omega arith
zeros_step m (Control control.Confirm) = omega arith
zeros_step m (Control control.DropBase) = omega arith
zeros_step m (Control control.Mark) = omega arith
zeros_step m (Control control.TakeBase) = omega arith
zeros_step m (Control control.NextFront) = omega arith
zeros_step m (Control control.AddBias) = omega arith
zeros_step m (Control control.OpenNext) = omega arith
zeros_step m (Control (control.StoreWord k v)) = omega arith
zeros_step m (Control control.LookShared) = omega arith

zeros_along : (m : Snapshot) (events : List Event) → FewerZeros m (snapshot_after_all m events)
zeros_along m [] = omega arith
zeros_along m (e ∷ es) = let one = zeros_step m e in let more = zeros_along (snapshot_after m e) es in omega arith

pub released_once_in_a_life : ReleasedOnceInALife
released_once_in_a_life o events replies mid reach more answers last run = let m : Snapshot = snapshot_after_all (first_snapshot o) events in let h = laws_always o events replies mid reach in
    let n : Snapshot = snapshot_after_all m more in let g = along (origin_of o) m h.0 more answers last (subst (λ (s : State). Run s more answers last) (sym h.1) run) in
    let counts = won_along mid more answers last run in let kills = kills_along mid more answers last run in let zeros = zeros_along m more in
    let before = h.0.release.releases in let after = g.0.release.releases in let killed = h.0.release.kills in let killed' = g.0.release.kills in
    let z = zero_if_dead (origin_of o) m h.0 in let z' = zero_if_dead (origin_of o) n g.0 in let one = count-most m.cells.shared.dead in
    let r = ap (λ (s : State). s.releases) h.1 in let r' = ap (λ (s : State). s.releases) g.1 in let k = ap (λ (s : State). s.control.kills) h.1 in let k' = ap (λ (s : State). s.control.kills) g.1 in omega arith

pub numbers_stay_small : NumbersStaySmall
numbers_stay_small o events replies last reach = let m : Snapshot = snapshot_after_all (first_snapshot o) events in let h = laws_always o events replies last reach in
    let less = few (origin_of o) m h.0 in let most : m.control.standing.kills ≤ 2 ^ 40 = h.0.limit.kills in
    let sum = sum_few (origin_of o) m h.0 in
    subst (λ (s : State). (s.cells.shared.value < 2 ^ 49) × (s.cells.front < 2 ^ 42) × (s.releases ≤ 2 ^ 40) × AreSmall s.cells.slots × (unsigned_abs s.control.uncollected ≤ 536870912)) h.1
    (value-most (origin_of o) m.cells m.control m.others h.0, few_fronts (origin_of o) m h.0, omega arith, h.0.limit.deltas, omega arith)

pub moves_of_the_counter : MovesOfTheCounter
moves_of_the_counter o events replies last e reach free = let m : Snapshot = snapshot_after_all (first_snapshot o) events in let h = laws_always o events replies last reach in
    subst (λ (s : State). MayMove (counter_of s) (move_of e (reply s e)) (counter_of (after s e))) h.1
    (event_moves (origin_of o) m h.0 e (subst (λ (s : State). refusal s e ≡ None) (sym h.1) free))

pub released_only_at_zero : ReleasedAtZero
released_only_at_zero o events replies last e reach free wins = let m : Snapshot = snapshot_after_all (first_snapshot o) events in let h = laws_always o events replies last reach in
    subst (λ (s : State). (holds_base s.control.phase ≡ false) × (held_in_all s ≡ 0)) h.1
    (released_at_zero (origin_of o) m h.0 e (subst (λ (s : State). reply s e ≡ Last) (sym h.1) wins))
