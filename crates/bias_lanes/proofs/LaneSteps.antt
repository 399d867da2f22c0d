-- The steps of an owner are allowed, and what they tell.
use Rattle.std.proofs.Common.{◌≡◌, ◌≢◌, ℕ, ◌+◌, ◌-◌, ◌*◌, ◌%◌, ◌<◌, ◌==◌, nat_eq, if◌then◌else◌, Option, Some, List, [], ◌∷◌, length, get_or, set, refl, sym, ◌∙◌, subst, arith}
use Rattle.std.proofs.Math.ListN.{length-set}
use Rattle.std.proofs.lemmas.List.{get_or-set_same, get_or-set_other}
use Rattle.atomic_table.proofs.Lists.{set_here, set_else}
use prog.Atomic.{either}
use mathlib.Core.Option as maybe
use mathlib.Core.Option.{some, none}
use lib.ListN.{get_elem?}
use Rattle.atomic_table.specs.Table.{Me, Allows}
use Rattle.bias_lanes.specs.declared.views.Stage.{Stage}
use Rattle.bias_lanes.specs.declared.views.Stage.TheVariants.{Unbiased, Parked, Idle, Trying, Entered, Leaving, Over}
use Rattle.bias_lanes.specs.declared.views.LaneView.{LaneView}
use Rattle.bias_lanes.specs.declared.views.FreezerView.{FreezerView}
use Rattle.bias_lanes.specs.declared.views.Part.TheVariants.{OfLane}
use Rattle.bias_lanes.specs.declared.views.View.{View}
use Rattle.bias_lanes.specs.Lanes.{lane_place, cell_place, parked, vacant, IsParked, LaneFits, MarkFits, CellFits}
use Rattle.bias_lanes.specs.Rule.{Table, Ruled, OwnerFits, mark_at, on_lane, at_stage, begun, has_parked, confirmed, stayed}
use Rattle.bias_lanes.specs.Steps.{Found, Stored, Gave, Took, lane_of_word}
use Rattle.bias_lanes.specs.Seats.{CanRest, CanEnd}
use Rattle.bias_lanes.proofs.Stages as stages
use Rattle.bias_lanes.proofs.Keeps.{not_both, fits_by, seat_keeps}
use Rattle.bias_lanes.proofs.Allowed as allowed

pub lane_is : (lane : ℕ) → lane_of_word (lane_place lane) ≡ lane
lane_is lane = omega arith

pub cell_is : (lane : ℕ) → lane_of_word (cell_place lane) ≡ lane
cell_is lane = omega arith

pub words_in : (lane homes words : ℕ) → lane < homes → words ≡ homes * 2 + 1 → (lane * 2 + 1 < words) × (lane * 2 + 2 < words)
words_in lane homes words lt size = (omega arith, omega arith)

pub odd_apart : (a b : ℕ) → a * 2 + 1 ≡ b * 2 + 2 → ⊥
odd_apart a b e = omega arith

pub lane_apart : (a b : ℕ) → a ≢ b → a * 2 + 1 ≡ b * 2 + 1 → ⊥
lane_apart a b n e = n (omega arith)

pub cell_apart : (a b : ℕ) → a ≢ b → a * 2 + 2 ≡ b * 2 + 2 → ⊥
cell_apart a b n e = n (omega arith)

pub one_not_two : (n : ℕ) → n ≡ parked → n ≢ vacant
one_not_two n a b = omega arith

pub zero_not_two : (n : ℕ) → n ≡ 0 → n ≢ vacant
zero_not_two n a b = omega arith

pub zero_not_one : (n : ℕ) → n ≡ 0 → n ≢ parked
zero_not_one n a b = omega arith

module _ {T K : Type 0} (Fits : K → T → Type 0) (key : K) (slots id : ℕ) (o : LaneView T) (there : o.lane < slots) where
  abbrev v : View T K
  v = record { key = key; part = OfLane o }

  module _ (s : Table T K) (r : Ruled Fits key s) (at : get_elem? s.views id ≡ some v) (many : length s.homes ≡ slots) where
    abbrev f : FreezerView
    f = r.freezer

    abbrev w : ℕ
    w = get_or s.words (lane_place o.lane) 0

    abbrev Held : Type 0
    Held = IsParked s.words s.homes o.lane o.parked

    pub known : OwnerFits o f s.words s.homes
    known = r.owned id v o at refl

    pub known_at : (st : Stage) → o.stage ≡ st → LaneFits st o.bias f.epoch w Held
    known_at st is = subst (λ (x : Stage). LaneFits x o.bias f.epoch w Held) is known.lane

    lies : o.lane < length s.homes
    lies = omega arith

    owned : get_or s.words (cell_place o.lane) 0 ≢ vacant
    owned is = r.vacant o.lane is id v o at refl refl

    -- the owner's view changes, and no word
    pub load_keeps : (b : ℕ) (st : Stage) → LaneFits st b f.epoch w Held → MarkFits (mark_at f o.lane) f.epoch st
        → Ruled Fits key (record { words = s.words; homes = s.homes; views = set s.views id (record { key = key; part = OfLane (record o { bias = b; stage = st }) }) })
    load_keeps b st new mark = seat_keeps Fits key s r id v at (λ g e. not_both g o (sym e)) (record o { bias = b; stage = st }) (λ j u q h is e. r.one j id u v q o h at is refl e)
        s.words s.homes refl refl refl (λ l n. refl) (λ l n. refl) (λ l n. refl) lies (record { lane = new; mark = mark }) (r.cells o.lane lies) owned

    abbrev stored : ℕ → List ℕ
    stored n = set s.words (lane_place o.lane) n

    abbrev emptied : ℕ → List ℕ
    emptied n = set s.words (cell_place o.lane) n

    abbrev put : maybe.Option (Option T) → List (maybe.Option (Option T))
    put y = set s.homes o.lane y

    -- its lane's word changes
    pub store_keeps : (n : ℕ) (st : Stage) → LaneFits st o.bias f.epoch n Held → MarkFits (mark_at f o.lane) f.epoch st
        → Ruled Fits key (record { words = set s.words (lane_place o.lane) n; homes = s.homes; views = set s.views id (record { key = key; part = OfLane (at_stage st o) }) })
    store_keeps n st new mark = seat_keeps Fits key s r id v at (λ g e. not_both g o (sym e)) (at_stage st o) (λ j u q h is e. r.one j id u v q o h at is refl e)
        (stored n) s.homes (length-set s.words (lane_place o.lane) n) refl (get_or-set_other s.words (lane_place o.lane) 0 n 0 (λ e. omega arith))
        (λ l m. get_or-set_other s.words (lane_place o.lane) (lane_place l) n 0 (lane_apart l o.lane m)) (λ l m. cell l) (λ l m. refl) lies
        (fits_by (at_stage st o) f (stored n) s.homes n (get_or s.words (cell_place o.lane) 0) (get_elem? s.homes o.lane) here (cell o.lane) refl new mark)
        (subst (λ (c : ℕ). CellFits (Fits key) c (get_elem? s.homes o.lane)) (sym (cell o.lane)) (r.cells o.lane lies)) (λ is. owned (sym (cell o.lane) ∙ is))
      where
        here : get_or (stored n) (lane_place o.lane) 0 ≡ n
        here = get_or-set_same s.words (lane_place o.lane) n 0 (words_in o.lane (length s.homes) (length s.words) lies r.size).0

        cell : (l : ℕ) → get_or (stored n) (cell_place l) 0 ≡ get_or s.words (cell_place l) 0
        cell l = get_or-set_other s.words (lane_place o.lane) (cell_place l) n 0 (λ e. odd_apart o.lane l (sym e))

    -- its cell changes
    pub cell_keeps : (n : ℕ) (y : maybe.Option (Option T)) (st : Stage) (x : Option T) → LaneFits st o.bias f.epoch w ((n ≡ parked) × (some y ≡ some (some x))) → MarkFits (mark_at f o.lane) f.epoch st
        → CellFits (Fits key) n (some y) → n ≢ vacant
        → Ruled Fits key (record { words = set s.words (cell_place o.lane) n; homes = set s.homes o.lane y; views = set s.views id (record { key = key; part = OfLane (record o { stage = st; parked = x }) }) })
    cell_keeps n y st x new mark fits busy = seat_keeps Fits key s r id v at (λ g e. not_both g o (sym e)) (record o { stage = st; parked = x }) (λ j u q h is e. r.one j id u v q o h at is refl e)
        (emptied n) (put y) (length-set s.words (cell_place o.lane) n) (length-set s.homes o.lane y) (get_or-set_other s.words (cell_place o.lane) 0 n 0 (λ e. omega arith))
        (λ l m. lane l) (λ l m. get_or-set_other s.words (cell_place o.lane) (cell_place l) n 0 (cell_apart l o.lane m)) (λ l m. set_else s.homes o.lane l y m) (let size = length-set s.homes o.lane y in let lt = lies in omega arith)
        (fits_by (record o { stage = st; parked = x }) f (emptied n) (put y) w n (some y) (lane o.lane) here home new mark)
        (subst (λ (c : ℕ). CellFits (Fits key) c (get_elem? (put y) o.lane)) (sym here) (subst (λ (z : maybe.Option (maybe.Option (Option T))). CellFits (Fits key) n z) (sym home) fits)) (λ is. busy (sym here ∙ is))
      where
        here : get_or (emptied n) (cell_place o.lane) 0 ≡ n
        here = get_or-set_same s.words (cell_place o.lane) n 0 (words_in o.lane (length s.homes) (length s.words) lies r.size).1

        home : get_elem? (put y) o.lane ≡ some y
        home = set_here s.homes o.lane y lies

        lane : (l : ℕ) → get_or (emptied n) (lane_place l) 0 ≡ get_or s.words (lane_place l) 0
        lane l = get_or-set_other s.words (cell_place o.lane) (lane_place l) n 0 (odd_apart l o.lane)

  module _ (c : List (ℕ × Option T)) (me : Me (Option T) (View T K)) (sits : me ≡ (v, c)) where
    pub begins : o.stage ≡ Unbiased → Allows (Ruled Fits key) slots id me 0 (λ n. n) (Found Fits (λ n. on_lane (begun n)) 0 me)
    begins is = allowed.loads Fits key slots id (OfLane o) me c 0 (λ n. on_lane (begun n)) sits (λ s r at many.
        subst (λ (st : Stage). Ruled Fits key (record { words = s.words; homes = s.homes; views = set s.views id (record { key = key; part = OfLane (record o { bias = get_or s.words 0 0 - get_or s.words 0 0 % 2; stage = st }) }) })) (sym is)
        (load_keeps s r at many (get_or s.words 0 0 - get_or s.words 0 0 % 2) Unbiased
        (subst (λ (e : ℕ). LaneFits Unbiased (e - e % 2) r.freezer.epoch (w s r at many) (Held s r at many)) (sym r.epoch) (stages.begins o.bias r.freezer.epoch (w s r at many) (Held s r at many) (known_at s r at many Unbiased is)))
        (subst (λ (st : Stage). MarkFits (mark_at r.freezer o.lane) r.freezer.epoch st) is (known s r at many).mark)))

    pub says_idle : CanRest o.stage → Allows (Ruled Fits key) slots id me (lane_place o.lane) (λ _. o.bias) (λ _. Stored Fits (on_lane (at_stage Leaving)) me o.bias)
    says_idle can = allowed.stores Fits key slots id (OfLane o) me c (lane_place o.lane) o.bias (on_lane (at_stage Leaving)) sits (λ s r at many.
        store_keeps s r at many o.bias Leaving (stages.says_idle o.bias r.freezer.epoch (w s r at many) (Held s r at many) o.stage can (known s r at many).lane)
        (stages.mark_moves r.freezer.epoch o.stage Leaving (mark_at r.freezer o.lane) (λ x. cc) (λ x. cc) (known s r at many).mark))

    pub says_busy : o.stage ≡ Idle → Allows (Ruled Fits key) slots id me (lane_place o.lane) (λ _. o.bias + 1) (λ _. Stored Fits (on_lane (at_stage Trying)) me (o.bias + 1))
    says_busy is = allowed.stores Fits key slots id (OfLane o) me c (lane_place o.lane) (o.bias + 1) (on_lane (at_stage Trying)) sits (λ s r at many.
        store_keeps s r at many (o.bias + 1) Trying (stages.says_busy o.bias r.freezer.epoch (w s r at many) (Held s r at many) (known_at s r at many Idle is))
        (stages.mark_moves r.freezer.epoch o.stage Trying (mark_at r.freezer o.lane) (λ x. cc) (λ x. cc) (known s r at many).mark))

    pub gives_up : CanEnd o.stage → Allows (Ruled Fits key) slots id me (lane_place o.lane) (λ _. 0) (λ _. Stored Fits (on_lane (at_stage Parked)) me 0)
    gives_up can = allowed.stores Fits key slots id (OfLane o) me c (lane_place o.lane) 0 (on_lane (at_stage Parked)) sits (λ s r at many.
        store_keeps s r at many 0 Parked (stages.gives_up o.bias r.freezer.epoch (w s r at many) (Held s r at many) o.stage can (known s r at many).lane)
        (stages.mark_moves r.freezer.epoch o.stage Parked (mark_at r.freezer o.lane) (λ x. cc) (λ x. cc) (known s r at many).mark))

    pub confirms : o.stage ≡ Trying → Allows (Ruled Fits key) slots id me 0 (λ n. n) (Found Fits (λ n. on_lane (confirmed n)) 0 me)
    confirms is = allowed.loads Fits key slots id (OfLane o) me c 0 (λ n. on_lane (confirmed n)) sits (λ s r at many.
        load_keeps s r at many o.bias (if get_or s.words 0 0 == o.bias then Entered else Over)
        (subst (λ (e : ℕ). LaneFits (if e == o.bias then Entered else Over) o.bias r.freezer.epoch (w s r at many) (Held s r at many)) (sym r.epoch) (stages.confirms o.bias r.freezer.epoch (w s r at many) (Held s r at many) (known_at s r at many Trying is)))
        (subst (λ (e : ℕ). MarkFits (mark_at r.freezer o.lane) r.freezer.epoch (if e == o.bias then Entered else Over)) (sym r.epoch)
        (stages.confirms_marked o.bias r.freezer.epoch o.stage (mark_at r.freezer o.lane) (known_at s r at many Trying is).1 (known s r at many).mark)))

    pub stays : o.stage ≡ Leaving → Allows (Ruled Fits key) slots id me 0 (λ n. n) (Found Fits (λ n. on_lane (stayed n)) 0 me)
    stays is = allowed.loads Fits key slots id (OfLane o) me c 0 (λ n. on_lane (stayed n)) sits (λ s r at many.
        load_keeps s r at many o.bias (if get_or s.words 0 0 == o.bias then Idle else Over)
        (subst (λ (e : ℕ). LaneFits (if e == o.bias then Idle else Over) o.bias r.freezer.epoch (w s r at many) (Held s r at many)) (sym r.epoch) (stages.stays o.bias r.freezer.epoch (w s r at many) (Held s r at many) (known_at s r at many Leaving is)))
        (subst (λ (e : ℕ). MarkFits (mark_at r.freezer o.lane) r.freezer.epoch (if e == o.bias then Idle else Over)) (sym r.epoch)
        (stages.stays_marked o.bias r.freezer.epoch o.stage (mark_at r.freezer o.lane) (known_at s r at many Leaving is).1 (known s r at many).mark)))

    pub takes_back : o.stage ≡ Parked → Allows (Ruled Fits key) slots id me (cell_place o.lane) (λ n. either (nat_eq n parked) 0 n) (Took Fits (on_lane (at_stage Unbiased)) (lane_of_word (cell_place o.lane)) me)
    takes_back is = subst (λ (k : ℕ). Allows (Ruled Fits key) slots id me (cell_place o.lane) (λ n. either (nat_eq n parked) 0 n) (Took Fits (on_lane (at_stage Unbiased)) k me)) (sym (cell_is o.lane))
        (allowed.took Fits key slots id (OfLane o) me c o.lane (on_lane (at_stage Unbiased)) sits there (λ s r at many found.
        cell_keeps s r at many 0 none Unbiased o.parked
        (stages.takes o.bias r.freezer.epoch (w s r at many) (Held s r at many) ((0 ≡ parked) × (some none ≡ some (some o.parked))) (known_at s r at many Parked is))
        (stages.mark_moves r.freezer.epoch o.stage Unbiased (mark_at r.freezer o.lane) (λ x. cc) (λ x. cc) (known s r at many).mark)
        (λ e. absurd (zero_not_one 0 refl e), λ e. absurd (zero_not_two 0 refl e)) (zero_not_two 0 refl)))

  pub parks : (x : T) (me : Me (Option T) (View T K)) → me ≡ (v, (o.lane, Some x) ∷ []) → o.stage ≡ Unbiased → o.bias % 2 ≡ 0 → Fits key x
      → Allows (Ruled Fits key) slots id me (cell_place o.lane) (λ _. parked) (λ _. Gave Fits (λ y. on_lane (has_parked y)) me parked)
  parks x me sits is even fits = allowed.gave Fits key slots id (OfLane o) me o.lane (Some x) (λ y. on_lane (has_parked y)) sits (λ s r at many.
      cell_keeps s r at many parked (some (Some x)) Parked (Some x)
      (stages.parks o.bias r.freezer.epoch (w s r at many) (Held s r at many) (known_at s r at many Unbiased is) even ((parked ≡ parked) × (some (some (Some x)) ≡ some (some (Some x)))) (refl, refl))
      (stages.mark_moves r.freezer.epoch o.stage Parked (mark_at r.freezer o.lane) (λ y. cc) (λ y. cc) (known s r at many).mark)
      (λ e. (x, refl, fits), λ e. absurd (one_not_two parked refl e)) (one_not_two parked refl))
