-- The atomic steps of a pass's calls, each with its reply, the last one first.
use Rattle.std.specs.Prelude.{◌≡◌, ℕ, ℤ, pos, ◌+ℤ◌, ◌-ℤ◌, ◌<◌, ◌⊎◌, Bool, true, false, not, ◌∷◌, unsigned_abs}
use Rattle.percpu_words.specs.SharedWord.{SharedWord, parts}
use Rattle.percpu_words.specs.SlotWord.{most_delta}
use Rattle.percpu_core.specs.declared.pass_event.PassEvent.{PassEvent}
use Rattle.percpu_core.specs.declared.pass_event.PassEvent.TheVariants as events
use Rattle.percpu_core.specs.declared.reply.Reply.TheVariants.{Given, NotLast, ToMark, Opened, Closed, Shared}
use Rattle.percpu_gate.specs.declared.tried.Put.{Put}
use Rattle.percpu_gate.specs.declared.tried.Put.TheVariants as Put
use Rattle.percpu_gate.specs.declared.tried.Tried.{Tried}
use Rattle.percpu_gate.specs.declared.tried.Tried.TheVariants as Tried
use Rattle.percpu_gate.specs.Rule.{Steps}
use Rattle.percpu_gate.specs.Seats.{tried, exchanged, marked}
use Rattle.percpu_gate.specs.Calls.{is_refused}

-- the delta is beyond its limit
abbrev pub IsBeyond : ℤ → Type 0
IsBeyond d = most_delta < unsigned_abs d

-- one look at this slot, and one exchange of the delta that it saw, won or lost, unless the slot is closed or the new delta would be beyond its limit
abbrev pub LooksAndExchanges : ℕ → (ℤ → ℤ) → (ℤ → PassEvent) → Steps → Steps → Bool → Type 0
LooksAndExchanges slot becomes exchange old new is_won =
    ((is_won ≡ false) × (new ≡ (events.Look slot, Closed) ∷ old))
    ⊎ (((d : ℤ) × (is_won ≡ false) × IsBeyond (becomes d) × (new ≡ (events.Look slot, Opened d) ∷ old))
    ⊎ ((d : ℤ) × (new ≡ (exchange d, exchanged is_won) ∷ (events.Look slot, Opened d) ∷ old)))

abbrev pub TakeOnSlot : ℕ → ℕ → Steps → Steps → Bool → Type 0
TakeOnSlot slot n = LooksAndExchanges slot (λ d. d +ℤ pos n) (λ d. events.Take slot d n)

abbrev pub GiveOnSlot : ℕ → ℕ → Steps → Steps → Bool → Type 0
GiveOnSlot slot n = LooksAndExchanges slot (λ d. d -ℤ pos n) (λ d. events.Give slot d n)

-- a count ends on its slot if the exchange was won, with this result; otherwise it goes on to the shared word
pub record CountsOnSlot (on_slot : Steps → Steps → Bool → Type 0) (answers : Type 0) (on_shared : Steps → Steps → Type 0) (old new : Steps) : Type 0 where
  pub behind : Steps
  pub is_won : Bool
  pub slot : on_slot old behind is_won
  pub won : is_won ≡ true → answers × (new ≡ behind)
  pub lost : is_won ≡ false → on_shared behind new

-- one subtraction from the shared word, and if that left a zero to mark, one exchange that marks it
abbrev pub SubtractsOnce : PassEvent → Put → Steps → Steps → Type 0
SubtractsOnce e r old new = ((r ≡ Put.NotLast) × (new ≡ (e, NotLast) ∷ old)) ⊎ (new ≡ (events.Mark, marked r) ∷ (e, ToMark) ∷ old)

-- the end of a subtraction that has left a zero to mark, or none
abbrev pub EndsPut : Bool → Put → Steps → Steps → Type 0
EndsPut true r old new = new ≡ (events.Mark, marked r) ∷ old
EndsPut false r old new = (r ≡ Put.NotLast) × (new ≡ old)

-- a refused try takes back what it added
abbrev pub TakesBack : Tried → Steps → Steps → Type 0
TakesBack Tried.Given old new = new ≡ old
TakesBack (Tried.Refused r) old new = SubtractsOnce events.Undo r old new

-- one addition to the shared word, which a refused try takes back
abbrev pub AddsOnce : PassEvent → Tried → Steps → Steps → Type 0
AddsOnce e r old new = TakesBack r ((e, tried (not (is_refused r))) ∷ old) new

-- the count of a try on this slot, whose addition is this event, before a refused one is taken back
abbrev pub TryAddsOnce : PassEvent → ℕ → Bool → Steps → Steps → Type 0
TryAddsOnce e slot is_given = CountsOnSlot (TakeOnSlot slot 1) (is_given ≡ true) (λ old new. new ≡ (e, tried is_given) ∷ old)

-- the steps of a try on this slot, whose addition is this event
abbrev pub TrySteps : PassEvent → ℕ → Tried → Steps → Steps → Type 0
TrySteps e slot r = CountsOnSlot (TakeOnSlot slot 1) (r ≡ Tried.Given) (AddsOnce e r)

-- the steps by which a pass takes n more references on this slot
abbrev pub GetSteps : ℕ → ℕ → Steps → Steps → Type 0
GetSteps slot n = CountsOnSlot (TakeOnSlot slot n) (Unit {0}) (λ old new. new ≡ (events.AddGet n, Given) ∷ old)

-- the steps by which a pass drops n references on this slot
abbrev pub PutSteps : ℕ → ℕ → Put → Steps → Steps → Type 0
PutSteps slot n r = CountsOnSlot (GiveOnSlot slot n) (r ≡ Put.NotLast) (SubtractsOnce (events.Sub n) r)

-- one load of the shared word, which found this mark set, or clear
abbrev pub LookSteps : (SharedWord → Bool) → Bool → Steps → Steps → Type 0
LookSteps mark is_set old new = (found : ℕ) × (mark (parts found) ≡ is_set) × (new ≡ (events.LookShared, Shared found) ∷ old)
