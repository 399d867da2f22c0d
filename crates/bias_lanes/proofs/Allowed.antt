-- A step is allowed by the rule where the rule holds after it.
use Rattle.std.proofs.Common.{◌≡◌, ℕ, ◌<◌, Option, Some, None, List, [], ◌∷◌, length, get_or, set, nat_eq, refl, sym, subst}
use Rattle.std.proofs.lemmas.List.{set-get_or}
use Rattle.atomic_table.proofs.Lists.{exchanged, set_again}
use prog.Atomic.{either}
use mathlib.Core.Option.{some, none}
use lib.ListN.{get_elem?}
use Rattle.atomic_table.specs.Table.{Me, Act, Valid, Allows, Enters, stepped, carried_after, keeps, takes, gives}
use Rattle.bias_lanes.specs.declared.views.Part.{Part}
use Rattle.bias_lanes.specs.declared.views.Part.TheVariants.{OfLane}
use Rattle.bias_lanes.specs.declared.views.View.{View}
use Rattle.bias_lanes.specs.Lanes.{cell_place, parked, vacant}
use Rattle.bias_lanes.specs.Rule.{Table, Ruled, nobody, new_owner}
use Rattle.bias_lanes.specs.Steps.{Moment, Found, Stored, Gave, Took, Claimed}
use Rattle.bias_lanes.proofs.Keeps.{nobody_comes}

module _ {T K : Type 0} (Fits : K → T → Type 0) (key : K) (slots id : ℕ) (part : Part T) where
  abbrev v : View T K
  v = record { key = key; part = part }

  abbrev moment : (s : Table T K) → Ruled Fits key s → get_elem? s.views id ≡ some v → Moment Fits v
  moment s r at = record { state = s; ruled = r; seat = id; sees = at }

  -- whatever the table is, the rule holds after the step
  abbrev pub LoadKeeps : ℕ → (ℕ → View T K → View T K) → Type 0
  LoadKeeps place after = (s : Table T K) → Ruled Fits key s → get_elem? s.views id ≡ some v → length s.homes ≡ slots → Ruled Fits key (record { words = s.words; homes = s.homes; views = set s.views id (after (get_or s.words place 0) v) })

  abbrev pub StoreKeeps : ℕ → ℕ → (View T K → View T K) → Type 0
  StoreKeeps place n after = (s : Table T K) → Ruled Fits key s → get_elem? s.views id ≡ some v → length s.homes ≡ slots → Ruled Fits key (record { words = set s.words place n; homes = s.homes; views = set s.views id (after v) })

  abbrev pub GiveKeeps : ℕ → Option T → View T K → Type 0
  GiveKeeps lane x w = (s : Table T K) → Ruled Fits key s → get_elem? s.views id ≡ some v → length s.homes ≡ slots
      → Ruled Fits key (record { words = set s.words (cell_place lane) parked; homes = set s.homes lane (some x); views = set s.views id w })

  abbrev pub TakeKeeps : ℕ → ℕ → View T K → Type 0
  TakeKeeps lane old w = (s : Table T K) → Ruled Fits key s → get_elem? s.views id ≡ some v → length s.homes ≡ slots → get_or s.words (cell_place lane) 0 ≡ old
      → Ruled Fits key (record { words = set s.words (cell_place lane) 0; homes = set s.homes lane none; views = set s.views id w })

  loads_as : (c : List (ℕ × Option T)) (place : ℕ) (after : ℕ → View T K → View T K) → LoadKeeps place after → Allows (Ruled Fits key) slots id (v, c) place (λ n. n) (Found Fits after place (v, c))
  loads_as c place after keep s r many at _ = (
    after (get_or s.words place 0) v,
    keeps,
    tt,
    subst (λ (ws : List ℕ). Ruled Fits key (record { words = ws; homes = s.homes; views = set s.views id (after (get_or s.words place 0) v) })) (sym (set-get_or s.words place 0)) (keep s r at many),
    record { moment = moment s r at; found_is = refl; learned = refl },
  )

  stores_as : (c : List (ℕ × Option T)) (place n : ℕ) (after : View T K → View T K) → StoreKeeps place n after → Allows (Ruled Fits key) slots id (v, c) place (λ _. n) (λ _. Stored Fits after (v, c) n)
  stores_as c place n after keep s r many at _ = (after v, keeps, tt, keep s r at many, record { moment = moment s r at; learned = refl })

  gives_as : (lane : ℕ) (x : Option T) (after : Option T → View T K → View T K) → GiveKeeps lane x (after x v)
      → Allows (Ruled Fits key) slots id (v, (lane, x) ∷ []) (cell_place lane) (λ _. parked) (λ _. Gave Fits after (v, (lane, x) ∷ []) parked)
  gives_as lane x after keep s r many at _ = (after x v, gives, tt, keep s r at many, record { moment = moment s r at; learned = refl })

  -- an exchange of 0 for what the cell's word is expected to be
  module _ (lane old : ℕ) (s : Table T K) (r : Ruled Fits key s) (at : get_elem? s.views id ≡ some v) (Then : ℕ → Me (Option T) (View T K) → Type 0) where
    abbrev n : ℕ
    n = get_or s.words (cell_place lane) 0

    abbrev Done : List (ℕ × Option T) → ℕ → Type 0
    Done c m = (w : View T K) × (a : Act (Option T)) × Valid s.homes c a × Ruled Fits key (stepped s (cell_place lane) m id c w a) × Then n (w, carried_after c a)

    pub misses : (c : List (ℕ × Option T)) → Then n (v, c) → Done c n
    misses c told = (
      v,
      keeps,
      tt,
      subst (λ (ws : List ℕ). Ruled Fits key (record { words = ws; homes = s.homes; views = set s.views id v })) (sym (set-get_or s.words (cell_place lane) 0))
          (subst (λ (vs : List (View T K)). Ruled Fits key (record { words = s.words; homes = s.homes; views = vs })) (sym (set_again s.views id v at)) r),
      told,
    )

    pub hits : (c : List (ℕ × Option T)) (w : View T K) (x : Option T) → get_elem? s.homes lane ≡ some (some x) → Ruled Fits key (record { words = set s.words (cell_place lane) 0; homes = set s.homes lane none; views = set s.views id w })
        → Then n (w, (lane, x) ∷ c) → Done c 0
    hits c w x lies keep told = (w, takes lane x, lies, keep, told)

  took_as : (lane : ℕ) (c : List (ℕ × Option T)) (after : View T K → View T K) → lane < slots → TakeKeeps lane parked (after v)
      → Allows (Ruled Fits key) slots id (v, c) (cell_place lane) (λ n. either (nat_eq n parked) 0 n) (Took Fits after lane (v, c))
  took_as lane c after there keep s r many at _ = exchanged (get_or s.words (cell_place lane) 0) parked 0 (Done lane parked s r at (Took Fits after lane (v, c)) c)
      (λ is. let lies = (r.cells lane (subst (λ (k : ℕ). lane < k) (sym many) there)).0 is in
      hits lane parked s r at (Took Fits after lane (v, c)) c (after v) (Some lies.0) lies.1 (keep s r at many is)
      (record { moment = moment s r at; found_is = refl; taken = λ _. (lies.0, lies.1, lies.2, refl); missed = λ n. absurd (n is) }))
      (λ n. misses lane parked s r at (Took Fits after lane (v, c)) c (record { moment = moment s r at; found_is = refl; taken = λ is. absurd (n is); missed = λ _. refl }))

  claimed_as : (lane : ℕ) → lane < slots → TakeKeeps lane vacant (record { key = key; part = OfLane (new_owner lane) })
      → Allows (Ruled Fits key) slots id (v, []) (cell_place lane) (λ n. either (nat_eq n vacant) 0 n) (Claimed Fits lane (v, []))
  claimed_as lane there keep s r many at _ = exchanged (get_or s.words (cell_place lane) 0) vacant 0 (Done lane vacant s r at (Claimed Fits lane (v, [])) [])
      (λ is. let lies = (r.cells lane (subst (λ (k : ℕ). lane < k) (sym many) there)).1 is in
      hits lane vacant s r at (Claimed Fits lane (v, [])) [] (record { key = key; part = OfLane (new_owner lane) }) None lies (keep s r at many is)
      (record { moment = moment s r at; found_is = refl; claimed = λ _. refl; missed = λ n. absurd (n is) }))
      (λ n. misses lane vacant s r at (Claimed Fits lane (v, [])) [] (record { moment = moment s r at; found_is = refl; claimed = λ is. absurd (n is); missed = λ _. refl }))

  -- the same at a seat's own words
  pub loads : (me : Me (Option T) (View T K)) (c : List (ℕ × Option T)) (place : ℕ) (after : ℕ → View T K → View T K) → me ≡ (v, c) → LoadKeeps place after
      → Allows (Ruled Fits key) slots id me place (λ n. n) (Found Fits after place me)
  loads me c place after is keep = subst (λ (m : Me (Option T) (View T K)). Allows (Ruled Fits key) slots id m place (λ n. n) (Found Fits after place m)) (sym is) (loads_as c place after keep)

  pub stores : (me : Me (Option T) (View T K)) (c : List (ℕ × Option T)) (place n : ℕ) (after : View T K → View T K) → me ≡ (v, c) → StoreKeeps place n after
      → Allows (Ruled Fits key) slots id me place (λ _. n) (λ _. Stored Fits after me n)
  stores me c place n after is keep = subst (λ (m : Me (Option T) (View T K)). Allows (Ruled Fits key) slots id m place (λ _. n) (λ _. Stored Fits after m n)) (sym is) (stores_as c place n after keep)

  pub gave : (me : Me (Option T) (View T K)) (lane : ℕ) (x : Option T) (after : Option T → View T K → View T K) → me ≡ (v, (lane, x) ∷ []) → GiveKeeps lane x (after x v)
      → Allows (Ruled Fits key) slots id me (cell_place lane) (λ _. parked) (λ _. Gave Fits after me parked)
  gave me lane x after is keep = subst (λ (m : Me (Option T) (View T K)). Allows (Ruled Fits key) slots id m (cell_place lane) (λ _. parked) (λ _. Gave Fits after m parked)) (sym is) (gives_as lane x after keep)

  pub took : (me : Me (Option T) (View T K)) (c : List (ℕ × Option T)) (lane : ℕ) (after : View T K → View T K) → me ≡ (v, c) → lane < slots → TakeKeeps lane parked (after v)
      → Allows (Ruled Fits key) slots id me (cell_place lane) (λ n. either (nat_eq n parked) 0 n) (Took Fits after lane me)
  took me c lane after is there keep = subst (λ (m : Me (Option T) (View T K)). Allows (Ruled Fits key) slots id m (cell_place lane) (λ n. either (nat_eq n parked) 0 n) (Took Fits after lane m)) (sym is) (took_as lane c after there keep)

  pub claimed : (me : Me (Option T) (View T K)) (lane : ℕ) → me ≡ (v, []) → lane < slots → TakeKeeps lane vacant (record { key = key; part = OfLane (new_owner lane) })
      → Allows (Ruled Fits key) slots id me (cell_place lane) (λ n. either (nat_eq n vacant) 0 n) (Claimed Fits lane me)
  claimed me lane is there keep = subst (λ (m : Me (Option T) (View T K)). Allows (Ruled Fits key) slots id m (cell_place lane) (λ n. either (nat_eq n vacant) 0 n) (Claimed Fits lane m)) (sym is) (claimed_as lane there keep)

-- a new seat is nobody's
pub comes : {T K : Type 0} (Fits : K → T → Type 0) (key : K) (slots place : ℕ) → Enters (Ruled Fits key) slots place (λ n w. ◌≡◌ {A = Me (Option T) (View T K)} (w, []) (nobody key, []))
comes Fits key slots place s r many bound = (nobody key, nobody_comes Fits key s r, refl)
