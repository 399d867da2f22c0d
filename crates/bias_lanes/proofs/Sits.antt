-- What an owner's fields and the freezer's say of their seats, and what a step tells them.
use Rattle.std.proofs.Common.{◌≡◌, ◌≢◌, ℕ, nat_eq, true, false, Option, Some, None, List, [], ◌∷◌, get_or, refl, ap, sym, ◌∙◌, subst, arith, ◌%◌}
use Rattle.std.proofs.lemmas.Bool.Decides.{nat_tests}
use Rattle.atomic_table.specs.Table.{Me, rest}
use Rattle.atomic_table.specs.Seated.{TableId}
use Rattle.bias_lanes.specs.declared.views.Stage.{Stage}
use Rattle.bias_lanes.specs.declared.views.Stage.TheVariants.{Unbiased, Parked, Idle, Trying, Entered, Leaving, Over}
use Rattle.bias_lanes.specs.declared.views.LaneView.{LaneView}
use Rattle.bias_lanes.specs.declared.views.FreezerView.{FreezerView}
use Rattle.bias_lanes.specs.declared.views.Part.TheVariants.{OfFreezer, OfLane}
use Rattle.bias_lanes.specs.declared.views.View.{View}
use Rattle.bias_lanes.specs.Lanes.{lane_place, cell_place, parked, vacant, IsParked, LaneFits}
use Rattle.bias_lanes.specs.Rule.{on_lane, at_stage, on_freezer, looked, nobody}
use Rattle.bias_lanes.specs.Steps.{Found, Stored, Took, Claimed, lane_of_word, in_hand}
use Rattle.bias_lanes.specs.Seats.{LaneFacts, FreezerFacts, at, CanRest, lane_of, freezer_of, lane_me, in_hand_at, owner_view, IsOwner, IsFreezer, LooksAtEpoch, FindsParked, LoadsEpoch, TakesIfParked, ClaimsIfVacant, LooksAt, FindsBusy}
use Rattle.bias_lanes.proofs.LaneSteps.{lane_is, cell_is}

module _ {T K : Type 0} (id : TableId) (me : Me (Option T) (View T K)) (number loaded : ℕ) (now : Stage) (own : IsOwner id me number loaded now) where
  abbrev pub known : LaneView T
  known = record { lane = number; bias = loaded; stage = now; parked = (lane_of me.0.part).parked }

  pub empty_hand : now ≡ Unbiased → me.1 ≡ (number, None) ∷ []
  empty_hand is = ap (λ (m : Me (Option T) (View T K)). m.1) own.sits ∙ (λ i. in_hand_at ((own.stage ∙ is) i) (own.lane i))

  pub sat : (key : K) → me.0.key ≡ key → me ≡ lane_me key known
  sat key same = own.sits ∙ (λ i. lane_me (same i) (record { lane = own.lane i; bias = own.bias i; stage = own.stage i; parked = (lane_of me.0.part).parked }))

  -- with a value in the cell's place
  pub filled : (key : K) → me.0.key ≡ key → now ≡ Unbiased → (y : Option T) (it : Me (Option T) (View T K)) → it ≡ (me.0, (number, y) ∷ rest me.1) → it ≡ (record { key = key; part = OfLane known }, (number, y) ∷ [])
  filled key same is y it e = e ∙ (λ i. ((sat key same i).0, (number, y) ∷ rest (empty_hand is i)))

module _ {T K : Type 0} (Fits : K → T → Type 0) (id : TableId) (me : Me (Option T) (View T K)) where
  module _ (key : K) (o : LaneView T) where
    abbrev facts : LaneFacts T K
    facts = record { lanes = record { id = id; key = key }; view = o }

    epoch_found_as : (after : ℕ → View T K → View T K) (n : ℕ) (new : Me (Option T) (View T K)) → Found Fits after 0 (lane_me key o) n new → LooksAtEpoch Fits facts (nat_eq n o.bias)
    epoch_found_as after n new h = record { moment = h.moment; answer = ap (λ (k : ℕ). nat_eq k o.bias) h.found_is }

    loaded_as : (after : ℕ → View T K → View T K) (n : ℕ) (new : Me (Option T) (View T K)) → Found Fits after 0 (lane_me key o) n new → LoadsEpoch Fits facts n
    loaded_as after n new h = record { moment = h.moment; loaded = h.found_is }

    held_found_as : (after : ℕ → View T K → View T K) (n : ℕ) (new : Me (Option T) (View T K)) → o.stage ≡ Trying → nat_eq n o.bias ≡ true → Found Fits after 0 (lane_me key o) n new → FindsParked Fits facts
    held_found_as after n new is same h =
        let m = h.moment in
        let here : get_or m.state.words 0 0 ≡ o.bias = (let a = h.found_is in let b : n ≡ o.bias = grind (arith, nat_tests) in omega arith) in
        let fits = m.ruled.owned m.seat (owner_view facts) o m.sees refl in
        let trying = subst (λ (st : Stage). LaneFits st o.bias m.ruled.freezer.epoch (get_or m.state.words (lane_place o.lane) 0) (IsParked m.state.words m.state.homes o.lane o.parked)) is fits.lane in
        record { moment = m; same = here; held = trying.2 (sym here ∙ m.ruled.epoch) }

  module _ (number loaded : ℕ) (now : Stage) (own : IsOwner id me number loaded now) where
    abbrev own_facts : LaneFacts T K
    own_facts = record { lanes = record { id = id; key = me.0.key }; view = lane_of me.0.part }

    pub epoch_found : (after : ℕ → View T K → View T K) (n : ℕ) (new : Me (Option T) (View T K)) → Found Fits after 0 me n new → LooksAtEpoch Fits own_facts (nat_eq n loaded)
    epoch_found after n new h = subst (λ (b : ℕ). LooksAtEpoch Fits own_facts (nat_eq n b)) own.bias
        (epoch_found_as me.0.key (lane_of me.0.part) after n new (subst (λ (m : Me (Option T) (View T K)). Found Fits after 0 m n new) own.sits h))

    pub epoch_loaded : (after : ℕ → View T K → View T K) (n : ℕ) (new : Me (Option T) (View T K)) → Found Fits after 0 me n new → LoadsEpoch Fits own_facts n
    epoch_loaded after n new h = loaded_as me.0.key (lane_of me.0.part) after n new (subst (λ (m : Me (Option T) (View T K)). Found Fits after 0 m n new) own.sits h)

    pub held_found : (after : ℕ → View T K → View T K) (n : ℕ) (new : Me (Option T) (View T K)) → (lane_of me.0.part).stage ≡ Trying → nat_eq n loaded ≡ true → Found Fits after 0 me n new → FindsParked Fits own_facts
    held_found after n new is same h = held_found_as me.0.key (lane_of me.0.part) after n new is (ap (nat_eq n) own.bias ∙ same) (subst (λ (m : Me (Option T) (View T K)). Found Fits after 0 m n new) own.sits h)

  module _ (v : View T K) (c : List (ℕ × Option T)) (sits : me ≡ (v, c)) (after : View T K → View T K) (lane n : ℕ) (new : Me (Option T) (View T K)) (h : Took Fits after (lane_of_word (cell_place lane)) me n new) where
    took_at : Took Fits after lane (v, c) n new
    took_at = subst (λ (m : Me (Option T) (View T K)). Took Fits after lane m n new) sits (subst (λ (l : ℕ). Took Fits after l me n new) (cell_is lane) h)

    -- what was parked there, which the seat has in hand then
    pub took_some : n ≡ parked → (x : T) × (new.1 ≡ (lane, Some x) ∷ c) × TakesIfParked Fits v lane (Some x)
    took_some is =
        let told = took_at in
        let taken = told.taken is in
        let one : get_or told.moment.state.words (cell_place lane) 0 ≡ 1 = (let at = told.found_is in omega arith) in
        (taken.0, ap (λ (m : Me (Option T) (View T K)). m.1) taken.3, record { moment = told.moment; answer = rw one refl; value = (one, taken.1) })

    pub took_none : n ≢ parked → TakesIfParked Fits v lane None
    took_none apart = let told = took_at in record {
      moment = told.moment;
      answer = let at = told.found_is in let not_one : get_or told.moment.state.words (cell_place lane) 0 ≢ 1 = (λ e. apart (at ∙ e)) in let f : nat_eq (get_or told.moment.state.words (cell_place lane) 0) 1 ≡ false = grind (arith, nat_tests) in sym f;
      value = tt;
    }

-- what an owner's fields say after its store
module _ {T K : Type 0} (Fits : K → T → Type 0) (id : TableId) (me : Me (Option T) (View T K)) where
  -- after a store of its own that leaves its hand as it is
  module _ (number loaded : ℕ) (now : Stage) (own : IsOwner id me number loaded now) (st : Stage) (hand : in_hand_at {T = T} now number ≡ in_hand_at st number)
      (n : ℕ) (new : Me (Option T) (View T K)) (h : Stored Fits (on_lane (at_stage st)) me n new) where
    abbrev stood : LaneView T
    stood = lane_of me.0.part

    abbrev facts_at : Me (Option T) (View T K) → LaneFacts T K
    facts_at it = record { lanes = record { id = id; key = it.0.key }; view = lane_of it.0.part }

    moved : new ≡ lane_me me.0.key (at_stage st stood)
    moved = h.learned ∙ (λ i. (on_lane (at_stage st) (own.sits i).0, (own.sits i).1))
        ∙ (λ i. (record { key = me.0.key; part = OfLane (at_stage st stood) }, in_hand_at (own.stage i) (own.lane i)))
        ∙ (λ i. (record { key = me.0.key; part = OfLane (at_stage st stood) }, hand i))
        ∙ (λ i. (record { key = me.0.key; part = OfLane (at_stage st stood) }, in_hand_at st (sym own.lane i)))

    facts_moved : facts_at new ≡ at st (facts_at me)
    facts_moved = λ i. facts_at (moved i)

    pub key_then : new.0.key ≡ me.0.key
    key_then = λ i. (moved i).0.key

    pub stored_own : IsOwner id new number loaded st
    stored_own = subst (λ (m : Me (Option T) (View T K)). IsOwner id m number loaded st) (sym moved)
        (record { sits = refl; lane = own.lane; bias = own.bias; stage = refl; even = own.even; there = own.there; size = own.size; few = own.few })

    epoch_as : (after : ℕ → View T K → View T K) (k : ℕ) (last : Me (Option T) (View T K)) → Found Fits after 0 new k last → LooksAtEpoch Fits (at st (facts_at me)) (nat_eq k loaded)
    epoch_as after k last f = subst (λ (l : LaneFacts T K). LooksAtEpoch Fits l (nat_eq k loaded)) facts_moved (epoch_found Fits id new number loaded st stored_own after k last f)

    pub epoch_same : (after : ℕ → View T K → View T K) (k : ℕ) (last : Me (Option T) (View T K)) → k ≡ loaded → Found Fits after 0 new k last → LooksAtEpoch Fits (at st (facts_at me)) true
    epoch_same after k last is f = subst (LooksAtEpoch Fits (at st (facts_at me))) (let t : nat_eq k loaded ≡ true = grind (arith, nat_tests) in t) (epoch_as after k last f)

    pub epoch_other : (after : ℕ → View T K → View T K) (k : ℕ) (last : Me (Option T) (View T K)) → k ≢ loaded → Found Fits after 0 new k last → LooksAtEpoch Fits (at st (facts_at me)) false
    epoch_other after k last apart f = subst (LooksAtEpoch Fits (at st (facts_at me))) (let t : nat_eq k loaded ≡ false = grind (arith, nat_tests) in t) (epoch_as after k last f)

    pub held_then : (after : ℕ → View T K → View T K) (k : ℕ) (last : Me (Option T) (View T K)) → st ≡ Trying → k ≡ loaded → Found Fits after 0 new k last → FindsParked Fits (at st (facts_at me))
    held_then after k last trying is f = subst (FindsParked Fits) facts_moved
        (held_found Fits id new number loaded st stored_own after k last (stored_own.stage ∙ trying) (let t : nat_eq k loaded ≡ true = grind (arith, nat_tests) in t) f)

-- what the exchange of a new seat found
module _ {T K : Type 0} (Fits : K → T → Type 0) (key : K) (me : Me (Option T) (View T K)) (sits : me ≡ (nobody key, [])) (lane n : ℕ) (new : Me (Option T) (View T K)) (h : Claimed Fits (lane_of_word (cell_place lane)) me n new) where
  claimed_at : Claimed Fits lane (nobody key, []) n new
  claimed_at = subst (λ (m : Me (Option T) (View T K)). Claimed Fits lane m n new) sits (subst (λ (l : ℕ). Claimed Fits l me n new) (cell_is lane) h)

  pub claim_some : n ≡ vacant → ClaimsIfVacant Fits key lane true
  claim_some is = let told = claimed_at in record { moment = told.moment; answer = let at = told.found_is in let two : get_or told.moment.state.words (cell_place lane) 0 ≡ 2 = omega arith in rw two refl }

  pub claim_none : n ≢ vacant → ClaimsIfVacant Fits key lane false
  claim_none apart = let told = claimed_at in record {
    moment = told.moment;
    answer = let at = told.found_is in let not_two : get_or told.moment.state.words (cell_place lane) 0 ≢ 2 = (λ e. apart (at ∙ e)) in let f : nat_eq (get_or told.moment.state.words (cell_place lane) 0) 2 ≡ false = grind (arith, nat_tests) in sym f;
  }

-- the value in hand is the one that an exchange finds
pub hand_is : {T : Type 0} (m c : List (ℕ × Option T)) (lane : ℕ) (x : Option T) → m ≡ (lane, x) ∷ c → m ≡ (lane, x) ∷ rest m
hand_is {T} m c lane x e = e ∙ ap (λ (r : List (ℕ × Option T)). (lane, x) ∷ r) (sym (ap rest e))

same_head : {T : Type 0} (c r : List (ℕ × Option T)) (lane : ℕ) (x y : Option T) → ◌≡◌ {A = List (ℕ × Option T)} ((lane, x) ∷ c) ((lane, y) ∷ r) → x ≡ y
same_head c r lane x y e = ap in_hand e

pub is_in_hand : {T : Type 0} (m c : List (ℕ × Option T)) (lane : ℕ) (x : T) (y : Option T) → m ≡ (lane, Some x) ∷ c → m ≡ (lane, y) ∷ rest m → y ≡ Some x
is_in_hand m c lane x y a b = sym (same_head c (rest m) lane (Some x) y (sym a ∙ b))

-- what an owner's exchange found in its cell
module _ {T K : Type 0} (Fits : K → T → Type 0) (id : TableId) (me : Me (Option T) (View T K)) (number loaded : ℕ) (now : Stage) (own : IsOwner id me number loaded now)
    (after : View T K → View T K) (n : ℕ) (new : Me (Option T) (View T K)) (h : Took Fits after (lane_of_word (cell_place number)) me n new) where
  abbrev o : LaneView T
  o = lane_of me.0.part

  abbrev seen : View T K
  seen = record { key = me.0.key; part = OfLane o }

  pub cell_none : n ≢ parked → TakesIfParked Fits seen o.lane None
  cell_none apart = subst (λ (l : ℕ). TakesIfParked Fits seen l None) (sym own.lane) (took_none Fits id me seen (in_hand_at o.stage o.lane) own.sits after number n new h apart)

  pub cell_some : n ≡ parked → (y : Option T) → new.1 ≡ (number, y) ∷ rest new.1 → TakesIfParked Fits seen o.lane y
  cell_some is y b = let told = took_some Fits id me seen (in_hand_at o.stage o.lane) own.sits after number n new h is in
      subst (TakesIfParked Fits seen o.lane) (sym (is_in_hand new.1 (in_hand_at o.stage o.lane) number told.0 y told.1 b))
      (subst (λ (l : ℕ). TakesIfParked Fits seen l (Some told.0)) (sym own.lane) told.2)

  pub cell_in_hand : n ≡ parked → (y : Option T) × (new.1 ≡ (number, y) ∷ rest new.1)
  cell_in_hand is = let told = took_some Fits id me seen (in_hand_at o.stage o.lane) own.sits after number n new h is in (Some told.0, hand_is new.1 (in_hand_at o.stage o.lane) number (Some told.0) told.1)

module _ {T K : Type 0} (Fits : K → T → Type 0) (id : TableId) (me : Me (Option T) (View T K)) (now : ℕ) (own : IsFreezer id me now) where
  abbrev pub freezer_known : FreezerView
  freezer_known = record { epoch = now; marks = (freezer_of me.0.part).marks }

  -- the freezer's seat
  pub freezer_sat : (key : K) → me.0.key ≡ key → me ≡ (record { key = key; part = OfFreezer freezer_known }, me.1)
  freezer_sat key same = λ i. ((own.sits ∙ (λ j. record { key = same j; part = OfFreezer (record { epoch = own.epoch j; marks = (freezer_of me.0.part).marks }) })) i, me.1)

  abbrev seen_by : View T K
  seen_by = record { key = me.0.key; part = OfFreezer (freezer_of me.0.part) }

  sits_so : me ≡ (seen_by, me.1)
  sits_so = λ i. (own.sits i, me.1)

  abbrev facts_then : TableId → Me (Option T) (View T K) → FreezerFacts T K
  facts_then nid it = record { lanes = record { id = nid; key = it.0.key }; view = freezer_of it.0.part; out = it.1 }

  look_found_as : (key : K) (f : FreezerView) (out : List (ℕ × Option T)) (lane n : ℕ) (new : Me (Option T) (View T K))
      → Found Fits (λ n. on_freezer (looked lane n)) (lane_place lane) (record { key = key; part = OfFreezer f }, out) n new
      → LooksAt Fits lane (record { lanes = record { id = id; key = key }; view = f; out = out }) (facts_then id new)
  look_found_as key f out lane n new h = record {
    moment = h.moment;
    leaves = (λ i. facts_then id (h.learned i)) ∙ ap (λ (k : ℕ). record { lanes = record { id = id; key = key }; view = looked lane k f; out = out }) h.found_is;
  }

  pub look_found : (lane n : ℕ) (nid : TableId) (new : Me (Option T) (View T K)) → nid ≡ id → Found Fits (λ n. on_freezer (looked (lane_of_word (lane_place lane)) n)) (lane_place lane) me n new
      → LooksAt Fits lane (facts_then id me) (facts_then nid new)
  look_found lane n nid new e h = subst (λ (t : TableId). LooksAt Fits lane (facts_then id me) (facts_then t new)) (sym e) (look_found_as me.0.key (freezer_of me.0.part) me.1 lane n new
      (subst (λ (m : Me (Option T) (View T K)). Found Fits (λ n. on_freezer (looked lane n)) (lane_place lane) m n new) sits_so
      (subst (λ (k : ℕ). Found Fits (λ n. on_freezer (looked k n)) (lane_place lane) me n new) (lane_is lane) h)))

  busy_as : (lane n : ℕ) (nid : TableId) (new : Me (Option T) (View T K)) → n % 2 ≡ 1 → Found Fits (λ n. on_freezer (looked lane n)) (lane_place lane) (seen_by, me.1) n new → FindsBusy Fits (facts_then nid new)
  busy_as lane n nid new odd h = subst (λ (m : Me (Option T) (View T K)). FindsBusy Fits (facts_then nid m)) (sym h.learned)
      (record { lane = lane; seen = freezer_of me.0.part; same = refl; moment = h.moment; busy = ap (λ (k : ℕ). k % 2) (sym h.found_is) ∙ odd })

  pub look_busy : (lane n : ℕ) (nid : TableId) (new : Me (Option T) (View T K)) → nat_eq (n % 2) 1 ≡ true
      → Found Fits (λ n. on_freezer (looked (lane_of_word (lane_place lane)) n)) (lane_place lane) me n new → FindsBusy Fits (facts_then nid new)
  look_busy lane n nid new is h = busy_as lane n nid new (let odd : n % 2 ≡ 1 = grind (arith, nat_tests) in odd)
      (subst (λ (m : Me (Option T) (View T K)). Found Fits (λ n. on_freezer (looked lane n)) (lane_place lane) m n new) sits_so
      (subst (λ (k : ℕ). Found Fits (λ n. on_freezer (looked k n)) (lane_place lane) me n new) (lane_is lane) h))

  -- what its exchange found in a cell
  module _ (after : View T K → View T K) (lane n : ℕ) (new : Me (Option T) (View T K)) (h : Took Fits after (lane_of_word (cell_place lane)) me n new) where
    pub reclaim_none : n ≢ parked → TakesIfParked Fits seen_by lane None
    reclaim_none apart = took_none Fits id me seen_by me.1 sits_so after lane n new h apart

    pub reclaim_some : n ≡ parked → (y : Option T) → new.1 ≡ (lane, y) ∷ rest new.1 → TakesIfParked Fits seen_by lane y
    reclaim_some is y b = let told = took_some Fits id me seen_by me.1 sits_so after lane n new h is in
        subst (TakesIfParked Fits seen_by lane) (sym (is_in_hand new.1 me.1 lane told.0 y told.1 b)) told.2

    pub reclaim_in_hand : n ≡ parked → (y : Option T) × (new.1 ≡ (lane, y) ∷ rest new.1)
    reclaim_in_hand is = let told = took_some Fits id me seen_by me.1 sits_so after lane n new h is in (Some told.0, hand_is new.1 me.1 lane (Some told.0) told.1)

  -- with a value in a cell's place
  pub refilled : (key : K) → me.0.key ≡ key → (lane : ℕ) (y : Option T) (it : Me (Option T) (View T K)) → me.1 ≡ (lane, None) ∷ [] → it ≡ (me.0, (lane, y) ∷ rest me.1)
      → it ≡ (record { key = key; part = OfFreezer freezer_known }, (lane, y) ∷ [])
  refilled key same lane y it out e = e ∙ (λ i. ((freezer_sat key same i).0, (lane, y) ∷ rest (out i)))

-- who can rest has nothing in hand
pub rests_empty : {T : Type 0} (s : Stage) (lane : ℕ) → CanRest s → in_hand_at {T = T} s lane ≡ in_hand_at Leaving lane
rests_empty Unbiased lane can = absurd (can.0 refl)
rests_empty Parked lane can = refl
rests_empty Idle lane can = refl
rests_empty Trying lane can = refl
rests_empty Entered lane can = refl
rests_empty Leaving lane can = refl
rests_empty Over lane can = refl
