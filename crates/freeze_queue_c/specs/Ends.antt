-- The end of a queue.
use Rattle.std.specs.Prelude.{◌≡◌, ℕ, ◌-◌, ◌⊎◌, ◌==◌, ◌&&◌, nat_le, if◌then◌else◌, Option, Some, None, Result, MatchResult, length}
use Rattle.queue_limits.specs.Words.{to_words}
use Rattle.queue_core.specs.declared.fault.FreezeFault.{FreezeFault}
use Rattle.queue_core.specs.declared.fault.FreezeFault.TheVariants.{TagsOut, WornOut}
use Rattle.percpu_core.specs.declared.limits.TheConstants.{KILL_LIMIT}
use Rattle.queue_core.specs.Queue.{FreezerFacts, remove_refusal}
use Rattle.queue_core.specs.Removal.{HasEnded}
use Rattle.c_answers.specs.declared.misuse.Misuse.TheVariants.{Memory, InUse}
use Rattle.freeze_queue_c.specs.declared.life.Final.{Final}
use Rattle.freeze_queue_c.specs.declared.open_freezer.ends.KeptFreezer.{KeptFreezer}
use Rattle.freeze_queue_c.specs.declared.refusal.Refusal.{Refusal}
use Rattle.freeze_queue_c.specs.declared.refusal.Refusal.TheVariants.{OfQueue, OfMisuse}
use Rattle.freeze_queue_c.specs.Numbers.{refusal_number}
use Rattle.freeze_queue_c.specs.Opened.{FreezerOpened}
use Rattle.freeze_queue_c.specs.PlainLimits.{as_bounds}

-- why a queue may not end: tags that were given out aren't back, or the kill that it needs is refused
abbrev pub end_refusal : FreezerOpened → Option FreezeFault
end_refusal f = remove_refusal f.freezer (length f.waiting)

-- the refusal of the kill that a live queue needs in order to end
abbrev pub worn_out : FreezerFacts → Option FreezeFault
worn_out f = if f.depth == 0 && nat_le KILL_LIMIT f.kills then Some WornOut else None

-- the last facts of a queue that has ended, with its limits instead of the words that encode them
pub record IsFinal (f : FreezerOpened) (left : Final) : Type 0 where
  pub limits : as_bounds left.limits ≡ f.freezer.limits
  pub ended : HasEnded f.queue.gate f.freezer f.waiting (record { dead = left.dead; kills = left.kills; releases = left.releases; words = to_words f.freezer.limits })

-- the number of tags that were given out and aren't back
abbrev pub missing_tags : FreezerOpened → ℕ
missing_tags f = f.freezer.tags - length f.waiting

-- a queue that may end has ended, with these last facts
abbrev pub IsEnd : FreezerOpened → Final → Type 0
IsEnd f left = (end_refusal f ≡ None) × IsFinal f left

-- a refused queue is unchanged, or gone if there is no memory for it
abbrev pub IsPutBack : FreezerOpened → FreezeFault → Option FreezerOpened → Refusal → Type 0
IsPutBack f fault (Some back) why = (back ≡ f) × (why ≡ OfQueue fault)
IsPutBack f fault None why = why ≡ OfMisuse Memory

-- a queue that hasn't ended is unchanged, and refused for its reason or because somebody has a share of it; or it is gone if there is no memory
abbrev pub IsKeptAs : FreezerOpened → Option FreezerOpened → Refusal → Type 0
IsKeptAs f (Some back) why = (back ≡ f) × ((why ≡ OfMisuse InUse) ⊎ ((fault : FreezeFault) × (end_refusal f ≡ Some fault) × (why ≡ OfQueue fault)))
IsKeptAs f None why = why ≡ OfMisuse Memory

-- the result of ending a queue: its last facts, or why it hasn't ended
abbrev pub EndsOrIsKept : FreezerOpened → Result Final KeptFreezer → Type 0
EndsOrIsKept f result = MatchResult result (IsEnd f) (λ kept. IsKeptAs f kept.freezer kept.why)

-- somebody has a share of the queue, which is unchanged, or gone if there is no memory to put it back. No use of handles leads there
abbrev pub IsKept : FreezerOpened → Option FreezerOpened → ℕ → Type 0
IsKept f new result = ((new ≡ Some f) × (result ≡ 37)) ⊎ ((new ≡ None) × (result ≡ 36))

-- the handle after a refused queue is put back into it, by the number that C gets
abbrev pub Restores : Option FreezerOpened → Refusal → Option FreezerOpened → ℕ → Type 0
Restores None why new result = (new ≡ None) × (result ≡ refusal_number why)
Restores (Some back) why new result = ((new ≡ Some back) × (result ≡ refusal_number why)) ⊎ ((new ≡ None) × (result ≡ 36))

-- the effect of ending a queue: it is refused with everything unchanged, or it has ended
abbrev pub RemovesOpen : Option FreezeFault → FreezerOpened → Option FreezerOpened → Final → Final → ℕ → Type 0
RemovesOpen (Some (TagsOut n)) f new there here result = (result ≡ 20) × (new ≡ Some f) × (here ≡ there)
RemovesOpen (Some WornOut) f new there here result = (here ≡ there) × (((new ≡ Some f) × (result ≡ 21)) ⊎ IsKept f new result)
RemovesOpen (Some why) f new there here result = ⊥
RemovesOpen None f new there here result = ((new ≡ None) × (result ≡ 0) × IsFinal f here) ⊎ ((here ≡ there) × IsKept f new result)

abbrev pub Removes : Option FreezerOpened → Option FreezerOpened → Final → Final → ℕ → Type 0
Removes None new there here result = (result ≡ 32) × (new ≡ None) × (here ≡ there)
Removes (Some f) new there here result = RemovesOpen (end_refusal f) f new there here result
