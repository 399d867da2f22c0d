-- Tags that wait, and tags that try to enter.
use Rattle.std.proofs.Common.{◌≡◌, ℕ, true, false, Option, List, [], ◌∷◌, ◌++◌, All, refl, sym, ap, ◌∙◌, subst}
use Rattle.std.specs.Prelude.{not}
use Rattle.std.proofs.lemmas.List.Elements.{All-push, All-weaker}
use Rattle.percpu_gate.specs.Seats.{PassFacts}
use Rattle.bias_lanes.specs.declared.views.Stage.{Stage}
use Rattle.bias_lanes.specs.declared.views.Stage.TheVariants.{Unbiased, Parked, Idle, Trying, Entered}
use Rattle.bias_lanes.specs.Seats.{at, FindsParked}
use Rattle.queue_core.specs.declared.biased.BiasedEntry.{BiasedEntry}
use Rattle.queue_core.specs.Biased.{Fits}
use Rattle.queue_core.specs.BiasedTags.{BiasedFacts, IsPlainTag, queue_of, stage, is_plain, in_now, at_stage, says_in, says_in_hand, in_at}
use Rattle.queue_core.specs.BiasedSteps.{EntersByGate}
use Rattle.queue_core.specs.Queue.{QueueFacts, TagFacts}
use Rattle.c_answers.specs.declared.drawn_number.DrawnNumber.{DrawnNumber}
use Rattle.freeze_queue_c.specs.Opened.{TagOpened, Waits}
use Rattle.freeze_queue_c.specs.TagCalls.{TriedToEnter}

pub grown : (queue : QueueFacts) (old new : List TagFacts) (t : TagFacts) → new ≡ old ++ t ∷ [] → All (Waits queue) old → Waits queue t → All (Waits queue) new
grown queue old new t e all is = subst (All (Waits queue)) (sym e) (All-push (Waits queue) old t all is)

-- a tag with no bias that isn't in waits as the plain tag that it is
pub plain_waits : (queue : QueueFacts) (t : BiasedFacts) (plain : TagFacts) → IsPlainTag t plain → queue_of t ≡ queue → in_now t ≡ false → Waits queue plain
plain_waits queue t plain is own out = record {
  own = is.own ∙ own;
  out = ap (λ (p : TagFacts). p.entered) is.is ∙ subst (λ (o : Option PassFacts). in_at Unbiased o ≡ false) is.in_hand (subst (λ (s : Stage). in_at s t.pass ≡ false) is.unbiased out);
}

pub all_own : (queue : QueueFacts) (ts : List TagFacts) → All (Waits queue) ts → All (λ t. t.queue ≡ queue) ts
all_own queue ts all = All-weaker (Waits queue) (λ t. t.queue ≡ queue) (λ t w. w.own) ts all

pub all_out : (queue : QueueFacts) (ts : List TagFacts) → All (Waits queue) ts → All (λ t. t.entered ≡ false) ts
all_out queue ts all = All-weaker (Waits queue) (λ t. t.entered ≡ false) (λ t w. w.out) ts all

pub tried_to_enter : {slot : ℕ} {number : DrawnNumber} {queue there : QueueFacts} {old new : BiasedFacts} {before : TagOpened} {r : BiasedEntry}
    → before ≡ record { number = number; queue = queue; tag = old } → there ≡ queue
    → queue_of new ≡ queue_of old → in_now new ≡ says_in r
    → (stage new ≡ Entered → new ≡ at_stage Entered old) → (stage new ≡ Entered → FindsParked Fits (at Trying old.bias))
    → (says_in r ≡ false → is_plain new ≡ not (says_in_hand r))
    → (says_in_hand r ≡ true → new ≡ at_stage Parked old) → (is_plain new ≡ true → EntersByGate slot there r old new)
    → TriedToEnter slot before (record { number = number; queue = queue; tag = new }) r
tried_to_enter {slot = slot} {number = number} {queue = queue} {old = old} {new = new} {r = r} was at_queue own entered by_lane held by_gate in_hand steps =
    subst (λ (b : TagOpened). TriedToEnter slot b (record { number = number; queue = queue; tag = new }) r) (sym was) (record {
      same = (refl, refl);
      own = own;
      entered = entered;
      by_lane = by_lane;
      held = held;
      by_gate = by_gate;
      in_hand = in_hand;
      steps = subst (λ (q : QueueFacts). is_plain new ≡ true → EntersByGate slot q r old new) at_queue steps;
    })
