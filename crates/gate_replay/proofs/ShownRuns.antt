-- What a replay shows is a run of the gate's machine, by induction on its steps.
use Rattle.std.proofs.Common.{◌≡◌, ◌∙◌, ap, sym, ℕ, None, Option, List, [], ◌∷◌, ◌++◌, map, append_assoc}
use Rattle.std.specs.List.{flat_map}
use Rattle.percpu_core.specs.declared.not_enabled.NotEnabled.{NotEnabled}
use Rattle.percpu_core.specs.declared.reply.Reply.{Reply}
use Rattle.percpu_core.specs.Machine.{State, refusal, reply, after}
use Rattle.percpu_core.specs.Starts.{first_state}
use Rattle.percpu_core.proofs.Endings.{runs_lose_nothing}
use Rattle.gate_replay.specs.Schedules.{opening_in}
use Rattle.gate_replay.specs.Laws.{step_of, WholeRunsAreShown, StuckRunsAreShown, EndedReplaysLoseNothing}
use Rattle.gate_replay.specs.ReplyLines.{reply_line, stuck_line, end_line}
use Rattle.gate_replay.specs.Shown.{Shown, then_shown, step_shown, shown_from}
use Rattle.gate_replay.specs.declared.replay.Replayed.{Replayed}
use Rattle.gate_replay.specs.declared.replay.Replayed.TheVariants.{Whole, Stuck}

-- one step that is taken, in front of what is shown after it
step_first : (line : ℕ) (o : Option NotEnabled) (here told : Reply) (rest : Shown) (replies : List Reply) (text : List ℕ) (ended : Replayed)
    → o ≡ None → told ≡ here → rest ≡ record { text = flat_map reply_line replies ++ text; ended = ended }
    → step_shown o line here rest ≡ record { text = flat_map reply_line (told ∷ replies) ++ text; ended = ended }
step_first line o here told rest replies text ended free is shown =
    ap (λ (p : Option NotEnabled). step_shown p line here rest) free
    ∙ ap (λ (s : Shown). then_shown (reply_line here) s) shown
    ∙ ap (λ (r : Reply). then_shown (reply_line r) (record { text = flat_map reply_line replies ++ text; ended = ended })) (sym is)
    ∙ ap (λ (t : List ℕ). record { text = t; ended = ended }) (sym (append_assoc (reply_line told) (flat_map reply_line replies) text))

pub whole_runs : WholeRunsAreShown
whole_runs first [] [] last run = ap (λ (s : State). record { text = end_line s; ended = Whole }) (sym run)
whole_runs first [] (r ∷ replies) last run = absurd run
whole_runs first (e ∷ events) [] last run = absurd run
whole_runs first (e ∷ events) (r ∷ replies) last run =
    step_first e.0 (refusal first e.1) (reply first e.1) r (shown_from (after first e.1) events) replies (end_line last) Whole
    run.0 run.1 (whole_runs (after first e.1) events replies last run.2)

pub stuck_runs : StuckRunsAreShown
stuck_runs first [] [] here line event why later run refused =
    ap (λ (s : State). shown_from s ((line, event) ∷ later)) (sym run)
    ∙ ap (λ (o : Option NotEnabled). step_shown o line (reply here event) (shown_from (after here event) later)) refused
stuck_runs first [] (r ∷ replies) here line event why later run refused = absurd run
stuck_runs first (e ∷ before) [] here line event why later run refused = absurd run
stuck_runs first (e ∷ before) (r ∷ replies) here line event why later run refused =
    step_first e.0 (refusal first e.1) (reply first e.1) r (shown_from (after first e.1) (before ++ (line, event) ∷ later)) replies (stuck_line line why) Stuck
    run.0 run.1 (stuck_runs (after first e.1) before replies here line event why later run.2 refused)

pub ended_replays : EndedReplaysLoseNothing
ended_replays schedule replies last within run over = (
  whole_runs (first_state (opening_in schedule)) schedule.events replies last run,
  runs_lose_nothing (opening_in schedule) (map step_of schedule.events) replies last (record { within = within; run = run }) over,
)
