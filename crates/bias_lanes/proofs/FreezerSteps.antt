-- The steps of the freezer are allowed.
use Rattle.std.proofs.Common.{◌≡◌, ◌≢◌, ℕ, zero, suc, ◌+◌, ◌*◌, ◌%◌, ◌<◌, ◌≤◌, ◌⊎◌, inl, inr, nat_eq, Option, Some, None, List, [], ◌∷◌, ◌++◌, map, length, get_or, set, replicate, refl, ap, sym, ◌∙◌, subst, arith}
use Rattle.std.proofs.Math.ListN.{length-set}
use Rattle.std.proofs.lemmas.Bool.{cases_eq}
use Rattle.std.proofs.lemmas.List.{get_or-set_same, get_or-set_other, length-replicate, length-map, get_or_past, get_or_append_left, get_or_at, length-append}
use Rattle.atomic_table.proofs.Lists.{set_here, set_else}
use native.Mathlib.Decide.{dec_le}
use Rattle.std.proofs.Common.{lt_of_not-le}
use prog.Atomic.{either}
use mathlib.Core.Option as maybe
use mathlib.Core.Option.{some, none, some-injective, some-ne-none}
use lib.ListN.{get_elem?}
use Rattle.atomic_table.specs.Table.{Me, Allows, opening}
use Rattle.bias_lanes.specs.declared.views.Mark.{Mark}
use Rattle.bias_lanes.specs.declared.views.Mark.TheVariants.{Unseen, Out}
use Rattle.bias_lanes.specs.declared.views.LaneView.{LaneView}
use Rattle.bias_lanes.specs.declared.views.FreezerView.{FreezerView}
use Rattle.bias_lanes.specs.declared.views.Part.TheVariants.{OfFreezer, OfLane, OfNobody}
use Rattle.bias_lanes.specs.declared.views.View.{View}
use Rattle.bias_lanes.specs.Lanes.{lane_place, cell_place, parked, vacant, IsParked, MarkFits, CellFits, found_mark, AreFirst}
use Rattle.bias_lanes.specs.Rule.{Table, Ruled, OwnerFits, mark_at, nobody, new_owner, new_freezer, first_view, on_freezer, at_epoch, looked}
use Rattle.bias_lanes.specs.Steps.{Found, Stored, Gave, Took, Claimed, lane_of_word}
use Rattle.bias_lanes.proofs.Stages as stages
use Rattle.bias_lanes.proofs.Keeps.{not_both, not_nobody_freezer, fits_same, fits_by, cell_same, seat_keeps, freezer_keeps, epoch_is, marks_are}
use Rattle.bias_lanes.proofs.LaneSteps.{lane_is, cell_is, words_in, odd_apart, cell_apart, one_not_two, zero_not_two, zero_not_one}
use Rattle.bias_lanes.proofs.Allowed as allowed

module _ {T K : Type 0} (Fits : K → T → Type 0) (key : K) (slots id : ℕ) (f : FreezerView) where
  abbrev v : View T K
  v = record { key = key; part = OfFreezer f }

  module _ (s : Table T K) (r : Ruled Fits key s) (at : get_elem? s.views id ≡ some v) (many : length s.homes ≡ slots) where
    -- the next epoch is stored
    abbrev next : FreezerView
    next = at_epoch slots (f.epoch + 1) f

    abbrev stored : List ℕ
    stored = set s.words 0 (f.epoch + 1)

    same_word : (l : ℕ) → 0 < l → get_or stored l 0 ≡ get_or s.words l 0
    same_word l lt = get_or-set_other s.words 0 l (f.epoch + 1) 0 (λ e. omega arith)

    raised : (q : LaneView T) → OwnerFits q f s.words s.homes → OwnerFits q next stored s.homes
    raised q h = fits_by q next stored s.homes (get_or s.words (lane_place q.lane) 0) (get_or s.words (cell_place q.lane) 0) (get_elem? s.homes q.lane) (same_word (lane_place q.lane) (omega arith)) (same_word (cell_place q.lane) (omega arith)) refl
        (stages.raised q.bias f.epoch (get_or s.words (lane_place q.lane) 0) (IsParked s.words s.homes q.lane q.parked) q.stage h.lane)
        (subst (λ (m : Mark). MarkFits m (f.epoch + 1) q.stage) (sym (stages.none_seen slots q.lane)) tt)

    pub next_keeps : Ruled Fits key (record { words = stored; homes = s.homes; views = set s.views id (record { key = key; part = OfFreezer next }) })
    next_keeps = freezer_keeps Fits key s r id f at next stored s.homes (length-set s.words 0 (f.epoch + 1)) refl (get_or-set_same s.words 0 (f.epoch + 1) 0 (let size = r.size in omega arith)) (λ odd. length-replicate slots Unseen ∙ sym many)
        raised (λ l lt. cell_same (Fits key) (get_or s.words (cell_place l) 0) (get_or stored (cell_place l) 0) (get_elem? s.homes l) (get_elem? s.homes l) (same_word (cell_place l) (omega arith)) refl (r.cells l lt))
        (λ l h. sym (same_word (cell_place l) (omega arith)) ∙ h)

    module _ (lane : ℕ) (there : lane < slots) where
      lies : lane < length s.homes
      lies = omega arith

      -- a look at a lane
      abbrev w : ℕ
      w = get_or s.words (lane_place lane) 0

      abbrev seen : FreezerView
      seen = looked lane w f

      look_fits : f.epoch % 2 ≡ 1 → (q : LaneView T) → OwnerFits q f s.words s.homes → (q.lane ≡ lane) ⊎ (q.lane ≢ lane) → OwnerFits q seen s.words s.homes
      look_fits odd q h (inl e) = record {
        lane = h.lane;
        mark = subst (λ (m : Mark). MarkFits m f.epoch q.stage)
            (ap (λ (k : ℕ). found_mark (get_or s.words (lane_place k) 0)) e ∙ sym (get_or-set_same f.marks lane (found_mark w) Unseen (let size = marks_are Fits key s r id f at odd in omega arith)) ∙ ap (mark_at seen) (sym e))
            (stages.looks q.bias f.epoch (get_or s.words (lane_place q.lane) 0) (IsParked s.words s.homes q.lane q.parked) q.stage odd h.lane);
      }
      look_fits odd q h (inr n) = record { lane = h.lane; mark = subst (λ (m : Mark). MarkFits m f.epoch q.stage) (sym (get_or-set_other f.marks lane q.lane (found_mark w) Unseen n)) h.mark }

      pub look_keeps : f.epoch % 2 ≡ 1 → Ruled Fits key (record { words = s.words; homes = s.homes; views = set s.views id (record { key = key; part = OfFreezer seen }) })
      look_keeps odd = freezer_keeps Fits key s r id f at seen s.words s.homes refl refl (epoch_is Fits key s r id f at) (λ odd. length-set f.marks lane (found_mark w) ∙ marks_are Fits key s r id f at odd)
          (λ q h. look_fits odd q h (cases_eq q.lane lane)) r.cells (λ l h. h)

      -- the cell of an owner that is out changes
      module _ (out : mark_at f lane ≡ Out) (n : ℕ) (y : maybe.Option (Option T)) (fits : CellFits (Fits key) n (some y)) (busy : n ≢ vacant) where
        abbrev ws : List ℕ
        ws = set s.words (cell_place lane) n

        abbrev hs : List (maybe.Option (Option T))
        hs = set s.homes lane y

        here : get_or ws (cell_place lane) 0 ≡ n
        here = get_or-set_same s.words (cell_place lane) n 0 (words_in lane (length s.homes) (length s.words) lies r.size).1

        home : get_elem? hs lane ≡ some y
        home = set_here s.homes lane y lies

        lane_same : (l : ℕ) → get_or ws (lane_place l) 0 ≡ get_or s.words (lane_place l) 0
        lane_same l = get_or-set_other s.words (cell_place lane) (lane_place l) n 0 (odd_apart l lane)

        cell_else : (l : ℕ) → l ≢ lane → get_or ws (cell_place l) 0 ≡ get_or s.words (cell_place l) 0
        cell_else l m = get_or-set_other s.words (cell_place lane) (cell_place l) n 0 (cell_apart l lane m)

        own_fits : (q : LaneView T) → OwnerFits q f s.words s.homes → (q.lane ≡ lane) ⊎ (q.lane ≢ lane) → OwnerFits q f ws hs
        own_fits q h (inl e) = let told = stages.out_of_mark (mark_at f q.lane) f.epoch q.stage (ap (mark_at f) e ∙ out) h.mark in
            fits_by q f ws hs (get_or s.words (lane_place q.lane) 0) n (some y) (lane_same q.lane) (ap (λ (k : ℕ). get_or ws (cell_place k) 0) e ∙ here) (ap (get_elem? hs) e ∙ home)
            (stages.apart q.bias f.epoch (get_or s.words (lane_place q.lane) 0) (IsParked s.words s.homes q.lane q.parked) ((n ≡ parked) × (some y ≡ some (some q.parked))) q.stage told.0 told.1 h.lane) h.mark
        own_fits q h (inr m) = fits_same q f s.words ws s.homes hs (lane_same q.lane) (cell_else q.lane m) (set_else s.homes lane q.lane y m) h

        cell_fits : (l : ℕ) → l < length hs → (l ≡ lane) ⊎ (l ≢ lane) → CellFits (Fits key) (get_or ws (cell_place l) 0) (get_elem? hs l)
        cell_fits l lt (inl e) = subst (λ (k : ℕ). CellFits (Fits key) (get_or ws (cell_place k) 0) (get_elem? hs k)) (sym e) (cell_same (Fits key) n (get_or ws (cell_place lane) 0) (some y) (get_elem? hs lane) here home fits)
        cell_fits l lt (inr m) = cell_same (Fits key) (get_or s.words (cell_place l) 0) (get_or ws (cell_place l) 0) (get_elem? s.homes l) (get_elem? hs l) (cell_else l m) (set_else s.homes lane l y m)
            (r.cells l (let size = length-set s.homes lane y in omega arith))

        was_vacant : (l : ℕ) → get_or ws (cell_place l) 0 ≡ vacant → (l ≡ lane) ⊎ (l ≢ lane) → get_or s.words (cell_place l) 0 ≡ vacant
        was_vacant l h (inl e) = absurd (busy (sym here ∙ ap (λ (k : ℕ). get_or ws (cell_place k) 0) (sym e) ∙ h))
        was_vacant l h (inr m) = sym (cell_else l m) ∙ h

        pub cell_keeps : Ruled Fits key (record { words = ws; homes = hs; views = set s.views id v })
        cell_keeps = freezer_keeps Fits key s r id f at f ws hs (length-set s.words (cell_place lane) n) (length-set s.homes lane y)
            (get_or-set_other s.words (cell_place lane) 0 n 0 (λ e. omega arith) ∙ epoch_is Fits key s r id f at) (λ odd. marks_are Fits key s r id f at odd ∙ sym (length-set s.homes lane y))
            (λ q h. own_fits q h (cases_eq q.lane lane)) (λ l lt. cell_fits l lt (cases_eq l lane)) (λ l h. was_vacant l h (cases_eq l lane))

  module _ (c : List (ℕ × Option T)) (me : Me (Option T) (View T K)) (sits : me ≡ (v, c)) where
    pub stores_epoch : Allows (Ruled Fits key) slots id me 0 (λ _. f.epoch + 1) (λ _. Stored Fits (on_freezer (at_epoch slots (f.epoch + 1))) me (f.epoch + 1))
    stores_epoch = allowed.stores Fits key slots id (OfFreezer f) me c 0 (f.epoch + 1) (on_freezer (at_epoch slots (f.epoch + 1))) sits next_keeps

    pub looks : (lane : ℕ) → lane < slots → f.epoch % 2 ≡ 1
        → Allows (Ruled Fits key) slots id me (lane_place lane) (λ n. n) (Found Fits (λ n. on_freezer (looked (lane_of_word (lane_place lane)) n)) (lane_place lane) me)
    looks lane there odd = subst (λ (k : ℕ). Allows (Ruled Fits key) slots id me (lane_place lane) (λ n. n) (Found Fits (λ n. on_freezer (looked k n)) (lane_place lane) me)) (sym (lane_is lane))
        (allowed.loads Fits key slots id (OfFreezer f) me c (lane_place lane) (λ n. on_freezer (looked lane n)) sits (λ s r at many. look_keeps s r at many lane there odd))

    pub reclaims : (lane : ℕ) → lane < slots → mark_at f lane ≡ Out
        → Allows (Ruled Fits key) slots id me (cell_place lane) (λ n. either (nat_eq n parked) 0 n) (Took Fits (λ v. v) (lane_of_word (cell_place lane)) me)
    reclaims lane there out = subst (λ (k : ℕ). Allows (Ruled Fits key) slots id me (cell_place lane) (λ n. either (nat_eq n parked) 0 n) (Took Fits (λ v. v) k me)) (sym (cell_is lane))
        (allowed.took Fits key slots id (OfFreezer f) me c lane (λ v. v) sits there (λ s r at many found.
        cell_keeps s r at many lane there out 0 none (λ e. absurd (zero_not_one 0 refl e), λ e. absurd (zero_not_two 0 refl e)) (zero_not_two 0 refl)))

  pub restores : (x : T) (lane : ℕ) (me : Me (Option T) (View T K)) → me ≡ (v, (lane, Some x) ∷ []) → lane < slots → mark_at f lane ≡ Out → Fits key x
      → Allows (Ruled Fits key) slots id me (cell_place lane) (λ _. parked) (λ _. Gave Fits (λ y v. v) me parked)
  restores x lane me sits there out fits = allowed.gave Fits key slots id (OfFreezer f) me lane (Some x) (λ y v. v) sits (λ s r at many.
      cell_keeps s r at many lane there out parked (some (Some x)) (λ e. (x, refl, fits), λ e. absurd (one_not_two parked refl e)) (one_not_two parked refl))

-- a seat of nobody claims a lane
module _ {T K : Type 0} (Fits : K → T → Type 0) (key : K) (slots id lane : ℕ) (there : lane < slots) where
  module _ (s : Table T K) (r : Ruled Fits key s) (at : get_elem? s.views id ≡ some (nobody key)) (many : length s.homes ≡ slots) (found : get_or s.words (cell_place lane) 0 ≡ vacant) where
    abbrev zs : List ℕ
    zs = set s.words (cell_place lane) 0

    here_too : get_or zs (cell_place lane) 0 ≡ 0
    here_too = get_or-set_same s.words (cell_place lane) 0 0 (words_in lane (length s.homes) (length s.words) (omega arith) r.size).1

    home_too : get_elem? (set s.homes lane none) lane ≡ some none
    home_too = set_here s.homes lane none (omega arith)

    lane_too : (l : ℕ) → get_or zs (lane_place l) 0 ≡ get_or s.words (lane_place l) 0
    lane_too l = get_or-set_other s.words (cell_place lane) (lane_place l) 0 0 (odd_apart l lane)

    fresh : OwnerFits {T = T} (new_owner lane) r.freezer s.words s.homes
    fresh = r.blank lane found

    pub claim_keeps : Ruled Fits key (record { words = zs; homes = set s.homes lane none; views = set s.views id (record { key = key; part = OfLane (new_owner lane) }) })
    claim_keeps = seat_keeps Fits key s r id (nobody key) at (λ g e. not_nobody_freezer {T = T} g e) (new_owner lane) (λ j u q h is e. absurd (r.vacant lane found j u q h is e))
        zs (set s.homes lane none) (length-set s.words (cell_place lane) 0) (length-set s.homes lane none) (get_or-set_other s.words (cell_place lane) 0 0 0 (λ e. omega arith))
        (λ l m. lane_too l) (λ l m. get_or-set_other s.words (cell_place lane) (cell_place l) 0 0 (cell_apart l lane m)) (λ l m. set_else s.homes lane l none m) (let size = length-set s.homes lane none in omega arith)
        (fits_by (new_owner lane) r.freezer zs (set s.homes lane none) (get_or s.words (lane_place lane) 0) 0 (some none) (lane_too lane) here_too home_too fresh.lane fresh.mark)
        (cell_same (Fits key) 0 (get_or zs (cell_place lane) 0) (some none) (get_elem? (set s.homes lane none) lane) here_too home_too (λ e. absurd (zero_not_one 0 refl e), λ e. absurd (zero_not_two 0 refl e)))
        (λ is. zero_not_two 0 refl (sym here_too ∙ is))

  pub claims : (me : Me (Option T) (View T K)) → me ≡ (nobody key, [])
      → Allows (Ruled Fits key) slots id me (cell_place lane) (λ n. either (nat_eq n vacant) 0 n) (Claimed Fits (lane_of_word (cell_place lane)) me)
  claims me sits = subst (λ (k : ℕ). Allows (Ruled Fits key) slots id me (cell_place lane) (λ n. either (nat_eq n vacant) 0 n) (Claimed Fits k me)) (sym (cell_is lane))
      (allowed.claimed Fits key slots id OfNobody me lane sits there claim_keeps)

-- new lanes are under their rule
nones : {T : Type 0} (n l : ℕ) → l < n → get_elem? (map some (replicate {A = Option T} n None)) l ≡ some (some None)
nones zero l lt = absurd (omega arith)
nones (suc n) zero lt = refl
nones (suc n) (suc l) lt = nones n l (omega arith)

module _ {T K : Type 0} (Fits : K → T → Type 0) (key : K) (lanes : ℕ) (ws : List ℕ) (first : AreFirst lanes ws) where
  alone_view : (k : ℕ) (u : View T K) → get_elem? (first_view key ∷ []) k ≡ some u → (k ≡ 0) × (first_view key ≡ u)
  alone_view zero u h = (refl, some-injective (first_view key) u h)
  alone_view (suc k) u h = absurd (some-ne-none u (sym h))

  no_lane : (k : ℕ) (u : View T K) (q : LaneView T) → get_elem? (first_view key ∷ []) k ≡ some u → u.part ≡ OfLane q → ⊥
  no_lane k u q h is = not_both new_freezer q (ap (λ (x : View T K). x.part) (alone_view k u h).1 ∙ is)

  within : (l : ℕ) → get_or ws (cell_place l) 0 ≡ vacant → Dec (lanes ≤ l) → l < lanes
  within l h (yes d) = let past = get_or_past ws (cell_place l) 0 (let size = first.size in omega arith) in absurd (omega arith)
  within l h (no d) = lt_of_not-le d

  pub opens : Ruled Fits key (opening ws (replicate lanes None) (first_view key))
  opens = record {
    size = first.size ∙ ap (λ (n : ℕ). n * 2 + 1) (sym many);
    keys = λ k u h. sym (ap (λ (x : View T K). x.key) (alone_view k u h).1);
    freezer = new_freezer;
    first = refl;
    one_freezer = λ k u g h is. (alone_view k u h).0;
    epoch = first.epoch;
    marks = λ odd. absurd (omega arith);
    owned = λ k u q h is. absurd (no_lane k u q h is);
    one = λ a b u x q t h k is it e. absurd (no_lane a u q h is);
    within = λ k u q h is. absurd (no_lane k u q h is);
    cells = λ l lt. let in_all : l < lanes = subst (λ (n : ℕ). l < n) many lt in (λ e. absurd (let two = (first.blank l in_all).1 in omega arith), λ e. nones lanes l in_all);
    blank = λ l h. record { lane = ((first.blank l (within l h (dec_le lanes l))).0, omega arith); mark = tt };
    vacant = λ l h k u q j is. absurd (no_lane k u q j is);
  }
    where
      many : length (map some (replicate {A = Option T} lanes None)) ≡ lanes
      many = length-map (replicate {A = Option T} lanes None) some ∙ length-replicate lanes None

-- the words of new lanes, one lane after another
module _ (n : ℕ) (ws : List ℕ) (so_far : AreFirst n ws) where
  abbrev longer_by : List ℕ
  longer_by = (ws ++ 0 ∷ []) ++ vacant ∷ []

  size_then : length longer_by ≡ (n + 1) * 2 + 1
  size_then = let size = so_far.size in omega (arith, length-append (ws ++ 0 ∷ []) (vacant ∷ []), length-append ws (0 ∷ []))

  old_words : (k : ℕ) → k < n * 2 + 1 → get_or longer_by k 0 ≡ get_or ws k 0
  old_words k lt = let size = so_far.size in get_or_append_left (ws ++ 0 ∷ []) (vacant ∷ []) 0 k (omega (arith, length-append ws (0 ∷ []))) ∙ get_or_append_left ws (0 ∷ []) 0 k (omega arith)

  new_lane : get_or longer_by (lane_place n) 0 ≡ 0
  new_lane = let size = so_far.size in get_or_append_left (ws ++ 0 ∷ []) (vacant ∷ []) 0 (lane_place n) (omega (arith, length-append ws (0 ∷ []))) ∙ get_or_at ws 0 [] 0 (lane_place n) size

  new_cell : get_or longer_by (cell_place n) 0 ≡ vacant
  new_cell = get_or_at (ws ++ 0 ∷ []) vacant [] 0 (cell_place n) (let size = so_far.size in omega (arith, length-append ws (0 ∷ [])))

  blank_then : (l : ℕ) → l < n + 1 → (l ≡ n) ⊎ (l ≢ n) → (get_or longer_by (lane_place l) 0 ≡ 0) × (get_or longer_by (cell_place l) 0 ≡ vacant)
  blank_then l lt (inl e) = (ap (λ (k : ℕ). get_or longer_by (lane_place k) 0) e ∙ new_lane, ap (λ (k : ℕ). get_or longer_by (cell_place k) 0) e ∙ new_cell)
  blank_then l lt (inr m) = let old = so_far.blank l (omega arith) in (old_words (lane_place l) (omega arith) ∙ old.0, old_words (cell_place l) (omega arith) ∙ old.1)

  pub one_more : AreFirst (n + 1) longer_by
  one_more = record { size = size_then; epoch = old_words 0 (omega arith) ∙ so_far.epoch; blank = λ l lt. blank_then l lt (cases_eq l n) }
