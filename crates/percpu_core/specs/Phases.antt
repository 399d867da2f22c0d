-- What each phase of the control means for the memory.
use Rattle.std.specs.Prelude.{ℕ, Bool, true, false, nat_lt, nat_le}
use Rattle.percpu_core.specs.declared.phase.Phase.{Phase}
use Rattle.percpu_core.specs.declared.phase.Phase.TheVariants.{LiveSlots, LiveAtomic, Closing, Collected, Confirmed, Dead, Reviving, Fronted, Opening}
use Rattle.percpu_words.specs.declared.mode.Mode.{Mode}
use Rattle.percpu_words.specs.declared.mode.Mode.TheVariants.{Atomic, Slots}

-- the two phases are one, of those that count no slots
abbrev pub is_phase : Phase → Phase → Bool
is_phase LiveSlots LiveSlots = true
is_phase LiveAtomic LiveAtomic = true
is_phase Collected Collected = true
is_phase Confirmed Confirmed = true
is_phase Dead Dead = true
is_phase Reviving Reviving = true
is_phase Fronted Fronted = true
is_phase _ _ = false

-- live, on slots or on the shared word alone
abbrev pub is_live : Phase → Bool
is_live LiveSlots = true
is_live LiveAtomic = true
is_live _ = false

-- the phase of a live gate in this mode
abbrev pub live_in : Mode → Phase
live_in Atomic = LiveAtomic
live_in Slots = LiveSlots

-- from DEAD to the drop of the initial reference, and while a switch to the shared word closes slots
abbrev pub is_mid_switch : Phase → Bool
is_mid_switch (Closing i) = true
is_mid_switch Collected = true
is_mid_switch Confirmed = true
is_mid_switch _ = false

-- the initial reference is out in the phase dead alone
abbrev pub holds_base : Phase → Bool
holds_base Dead = false
holds_base _ = true

-- the bias is in the shared value while slots are open or being closed
abbrev pub has_bias : Phase → Bool
has_bias LiveSlots = true
has_bias (Closing i) = true
has_bias (Opening i) = true
has_bias _ = false

-- DEAD is clear while the gate is live or opens its slots, and set from a kill to the revival; while slots are being closed it is set if a kill closes them
abbrev pub is_dead_in : Phase → Bool → Bool
is_dead_in LiveSlots killing = false
is_dead_in LiveAtomic killing = false
is_dead_in (Opening i) killing = false
is_dead_in (Closing i) killing = killing
is_dead_in _ killing = true

-- a kill is under way from its begin to the drop of the initial reference
abbrev pub is_killing_in : Phase → Bool → Bool
is_killing_in (Closing i) killing = killing
is_killing_in Collected killing = true
is_killing_in Confirmed killing = true
is_killing_in _ killing = false

-- ZERO can be set from the drop of the initial reference to the clearing of DEAD
abbrev pub may_be_zero : Phase → Bool
may_be_zero Dead = true
may_be_zero Reviving = true
may_be_zero Fronted = true
may_be_zero _ = false

-- the initial reference is back and DEAD isn't cleared yet
abbrev pub is_coming_back : Phase → Bool
is_coming_back Reviving = true
is_coming_back Fronted = true
is_coming_back _ = false

-- the front is odd from the confirmation of a kill to the front of the next life
abbrev pub has_odd_front : Phase → Bool
has_odd_front Confirmed = true
has_odd_front Dead = true
has_odd_front Reviving = true
has_odd_front _ = false

-- whether the slot k is open
abbrev pub is_open_in : Phase → ℕ → Bool
is_open_in LiveSlots k = true
is_open_in (Closing i) k = nat_le i k
is_open_in (Opening i) k = nat_lt k i
is_open_in _ k = false

-- the slot that is closed or opened next
abbrev pub next_slot : Phase → ℕ
next_slot (Closing i) = i
next_slot (Opening i) = i
next_slot _ = 0

-- how many slots were closed and aren't collected yet
abbrev pub closed_so_far : Phase → ℕ
closed_so_far (Closing i) = i
closed_so_far _ = 0
