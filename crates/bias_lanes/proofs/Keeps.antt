-- The rule holds after a step that keeps what owners and freezer know.
use Rattle.std.proofs.Common.{◌≡◌, ◌≢◌, ℕ, ◌%◌, ◌<◌, ◌⊎◌, inl, inr, Option, List, [], ◌∷◌, ◌++◌, length, get_or, set, refl, ap, sym, ◌∙◌, subst, arith}
use Rattle.std.proofs.lemmas.Bool.{cases_eq}
use Rattle.atomic_table.proofs.Lists.{at_set, set_here, set_else, at_longer, at_snoc}
use mathlib.Core.Option as maybe
use mathlib.Core.Option.{some, some-injective, some-ne-none}
use lib.ListN.{get_elem?}
use Rattle.bias_lanes.specs.declared.views.LaneView.{LaneView}
use Rattle.bias_lanes.specs.declared.views.FreezerView.{FreezerView}
use Rattle.bias_lanes.specs.declared.views.Part.{Part}
use Rattle.bias_lanes.specs.declared.views.Part.TheVariants.{OfFreezer, OfLane, OfNobody}
use Rattle.bias_lanes.specs.declared.views.View.{View}
use Rattle.bias_lanes.specs.Lanes.{lane_place, cell_place, parked, vacant, LaneFits, MarkFits, CellFits}
use Rattle.bias_lanes.specs.Rule.{Table, Ruled, OwnerFits, nobody, new_owner, mark_at}

pub not_both : {T : Type 0} (f : FreezerView) (o : LaneView T) → OfFreezer f ≡ OfLane o → ⊥
not_both f o e = cc

pub not_nobody_lane : {T : Type 0} (o : LaneView T) → OfNobody ≡ OfLane o → ⊥
not_nobody_lane o e = cc

pub not_nobody_freezer : {T : Type 0} (f : FreezerView) → ◌≡◌ {A = Part T} OfNobody (OfFreezer f) → ⊥
not_nobody_freezer f e = cc

pub same_freezer : {T : Type 0} (f g : FreezerView) → ◌≡◌ {A = Part T} (OfFreezer f) (OfFreezer g) → f ≡ g
same_freezer f g e = cc

pub same_lane : {T : Type 0} (o p : LaneView T) → OfLane o ≡ OfLane p → o ≡ p
same_lane o p e = cc

pub sees_one : {A : Type 0} (l : List A) (i : ℕ) (v w : A) → get_elem? l i ≡ some v → get_elem? l i ≡ some w → v ≡ w
sees_one l i v w a b = some-injective v w (sym a ∙ b)

-- an owner whose words and cell are as they were fits them
pub fits_same : {T : Type 0} (o : LaneView T) (f : FreezerView) (ws vs : List ℕ) (hs gs : List (maybe.Option (Option T))) → get_or vs (lane_place o.lane) 0 ≡ get_or ws (lane_place o.lane) 0
    → get_or vs (cell_place o.lane) 0 ≡ get_or ws (cell_place o.lane) 0 → get_elem? gs o.lane ≡ get_elem? hs o.lane → OwnerFits o f ws hs → OwnerFits o f vs gs
fits_same {T} o f ws vs hs gs lane cell home h = record {
  lane = subst (λ (w : ℕ). LaneFits o.stage o.bias f.epoch w ((get_or vs (cell_place o.lane) 0 ≡ parked) × (get_elem? gs o.lane ≡ some (some o.parked)))) (sym lane)
      (subst (λ (c : ℕ). LaneFits o.stage o.bias f.epoch (get_or ws (lane_place o.lane) 0) ((c ≡ parked) × (get_elem? gs o.lane ≡ some (some o.parked)))) (sym cell)
      (subst (λ (x : maybe.Option (maybe.Option (Option T))). LaneFits o.stage o.bias f.epoch (get_or ws (lane_place o.lane) 0) ((get_or ws (cell_place o.lane) 0 ≡ parked) × (x ≡ some (some o.parked)))) (sym home) h.lane));
  mark = h.mark;
}

-- an owner fits, by the words that it finds
pub fits_by : {T : Type 0} (o : LaneView T) (f : FreezerView) (ws : List ℕ) (hs : List (maybe.Option (Option T))) (w c : ℕ) (x : maybe.Option (maybe.Option (Option T))) → get_or ws (lane_place o.lane) 0 ≡ w
    → get_or ws (cell_place o.lane) 0 ≡ c → get_elem? hs o.lane ≡ x → LaneFits o.stage o.bias f.epoch w ((c ≡ parked) × (x ≡ some (some o.parked))) → MarkFits (mark_at f o.lane) f.epoch o.stage → OwnerFits o f ws hs
fits_by {T} o f ws hs w c x lane cell home h mark = record {
  lane = subst (λ (n : ℕ). LaneFits o.stage o.bias f.epoch n ((get_or ws (cell_place o.lane) 0 ≡ parked) × (get_elem? hs o.lane ≡ some (some o.parked)))) (sym lane)
      (subst (λ (n : ℕ). LaneFits o.stage o.bias f.epoch w ((n ≡ parked) × (get_elem? hs o.lane ≡ some (some o.parked)))) (sym cell)
      (subst (λ (z : maybe.Option (maybe.Option (Option T))). LaneFits o.stage o.bias f.epoch w ((c ≡ parked) × (z ≡ some (some o.parked)))) (sym home) h));
  mark = mark;
}

pub cell_same : {T : Type 0} (Fits : T → Type 0) (c d : ℕ) (x y : maybe.Option (maybe.Option (Option T))) → d ≡ c → y ≡ x → CellFits Fits c x → CellFits Fits d y
cell_same {T} Fits c d x y words homes h = subst (λ (n : ℕ). CellFits Fits n y) (sym words) (subst (λ (z : maybe.Option (maybe.Option (Option T))). CellFits Fits c z) (sym homes) h)

module _ {T K : Type 0} (Fits : K → T → Type 0) (key : K) (s : Table T K) (r : Ruled Fits key s) (id : ℕ) where
  -- a step of a seat that isn't the freezer's, and that owns a lane from then on
  module _ (v : View T K) (at : get_elem? s.views id ≡ some v) (other : (f : FreezerView) → v.part ≡ OfFreezer f → ⊥) (p : LaneView T)
      (alone : (j : ℕ) (u : View T K) (q : LaneView T) → get_elem? s.views j ≡ some u → u.part ≡ OfLane q → q.lane ≡ p.lane → j ≡ id)
      (ws : List ℕ) (hs : List (maybe.Option (Option T))) (many : length ws ≡ length s.words) (places : length hs ≡ length s.homes) (epoch : get_or ws 0 0 ≡ get_or s.words 0 0)
      (lanes : (l : ℕ) → l ≢ p.lane → get_or ws (lane_place l) 0 ≡ get_or s.words (lane_place l) 0) (cells : (l : ℕ) → l ≢ p.lane → get_or ws (cell_place l) 0 ≡ get_or s.words (cell_place l) 0)
      (homes : (l : ℕ) → l ≢ p.lane → get_elem? hs l ≡ get_elem? s.homes l) (there : p.lane < length hs) (fits : OwnerFits p r.freezer ws hs)
      (cell : CellFits (Fits key) (get_or ws (cell_place p.lane) 0) (get_elem? hs p.lane)) (owned : get_or ws (cell_place p.lane) 0 ≢ vacant) where
    abbrev now : View T K
    now = record { key = key; part = OfLane p }

    -- a seat after the step: it is this one, or one that there was
    abbrev Was : ℕ → View T K → Type 0
    Was j u = ((j ≡ id) × (now ≡ u)) ⊎ ((j ≢ id) × (get_elem? s.views j ≡ some u))

    was : (j : ℕ) (u : View T K) → get_elem? (set s.views id now) j ≡ some u → Was j u
    was j u h = at_set s.views id j now u h

    part_of : (u : View T K) → now ≡ u → OfLane p ≡ u.part
    part_of u e = ap (λ (x : View T K). x.part) e

    is_not_first : id ≢ 0
    is_not_first e = let same = sees_one s.views 0 (record { key = key; part = OfFreezer r.freezer }) v r.first (ap (get_elem? s.views) (sym e) ∙ at) in other r.freezer (sym (ap (λ (x : View T K). x.part) same))

    keyed : (j : ℕ) (u : View T K) → Was j u → u.key ≡ key
    keyed j u (inl h) = sym (ap (λ (x : View T K). x.key) h.1)
    keyed j u (inr h) = r.keys j u h.1

    freezers : (j : ℕ) (u : View T K) (f : FreezerView) → Was j u → u.part ≡ OfFreezer f → j ≡ 0
    freezers j u f (inl h) is = absurd (not_both f p (sym (part_of u h.1 ∙ is)))
    freezers j u f (inr h) is = r.one_freezer j u f h.1 is

    mine : (j : ℕ) (u : View T K) (q : LaneView T) → Was j u → u.part ≡ OfLane q → q.lane ≡ p.lane → j ≡ id
    mine j u q (inl h) is same = h.0
    mine j u q (inr h) is same = alone j u q h.1 is same

    apart : (j : ℕ) (u : View T K) (q : LaneView T) → j ≢ id → get_elem? s.views j ≡ some u → u.part ≡ OfLane q → q.lane ≢ p.lane
    apart j u q n h is same = n (alone j u q h is same)

    own_fits : (j : ℕ) (u : View T K) (q : LaneView T) → Was j u → u.part ≡ OfLane q → OwnerFits q r.freezer ws hs
    own_fits j u q (inl h) is = subst (λ (x : LaneView T). OwnerFits x r.freezer ws hs) (same_lane p q (part_of u h.1 ∙ is)) fits
    own_fits j u q (inr h) is = let n = apart j u q h.0 h.1 is in fits_same q r.freezer s.words ws s.homes hs (lanes q.lane n) (cells q.lane n) (homes q.lane n) (r.owned j u q h.1 is)

    same_seat : (a b : ℕ) (u w : View T K) (q t : LaneView T) → Was a u → Was b w → u.part ≡ OfLane q → w.part ≡ OfLane t → q.lane ≡ t.lane → a ≡ b
    same_seat a b u w q t (inl h) k is it e = h.0 ∙ sym (mine b w t k it (sym e ∙ ap (λ (x : LaneView T). x.lane) (sym (same_lane p q (part_of u h.1 ∙ is)))))
    same_seat a b u w q t (inr h) (inl k) is it e = mine a u q (inr h) is (e ∙ ap (λ (x : LaneView T). x.lane) (sym (same_lane p t (part_of w k.1 ∙ it)))) ∙ sym k.0
    same_seat a b u w q t (inr h) (inr k) is it e = r.one a b u w q t h.1 k.1 is it e

    cell_at : (l : ℕ) → l < length hs → (l ≡ p.lane) ⊎ (l ≢ p.lane) → CellFits (Fits key) (get_or ws (cell_place l) 0) (get_elem? hs l)
    cell_at l lt (inl e) = subst (λ (k : ℕ). CellFits (Fits key) (get_or ws (cell_place k) 0) (get_elem? hs k)) (sym e) cell
    cell_at l lt (inr n) = cell_same (Fits key) (get_or s.words (cell_place l) 0) (get_or ws (cell_place l) 0) (get_elem? s.homes l) (get_elem? hs l) (cells l n) (homes l n) (r.cells l (omega arith))

    within_at : (j : ℕ) (u : View T K) (q : LaneView T) → Was j u → u.part ≡ OfLane q → q.lane < length hs
    within_at j u q (inl h) is = subst (λ (x : LaneView T). x.lane < length hs) (same_lane p q (part_of u h.1 ∙ is)) there
    within_at j u q (inr h) is = let lt = r.within j u q h.1 is in omega arith

    vacant_at : (l : ℕ) → get_or ws (cell_place l) 0 ≡ vacant → (l ≡ p.lane) ⊎ (l ≢ p.lane) → (j : ℕ) (u : View T K) (q : LaneView T) → Was j u → u.part ≡ OfLane q → q.lane ≢ l
    vacant_at l h (inl e) j u q w is same = owned (ap (λ (k : ℕ). get_or ws (cell_place k) 0) (sym e) ∙ h)
    vacant_at l h (inr n) j u q (inl w) is same = n (sym same ∙ ap (λ (x : LaneView T). x.lane) (sym (same_lane p q (part_of u w.1 ∙ is))))
    vacant_at l h (inr n) j u q (inr w) is same = r.vacant l (sym (cells l n) ∙ h) j u q w.1 is same

    blank_at : (l : ℕ) → get_or ws (cell_place l) 0 ≡ vacant → (l ≡ p.lane) ⊎ (l ≢ p.lane) → OwnerFits {T = T} (new_owner l) r.freezer ws hs
    blank_at l h (inl e) = absurd (owned (ap (λ (k : ℕ). get_or ws (cell_place k) 0) (sym e) ∙ h))
    blank_at l h (inr n) = fits_same (new_owner l) r.freezer s.words ws s.homes hs (lanes l n) (cells l n) (homes l n) (r.blank l (sym (cells l n) ∙ h))

    pub seat_keeps : Ruled Fits key (record { words = ws; homes = hs; views = set s.views id now })
    seat_keeps = record {
      size = let a = r.size in omega arith;
      keys = λ j u h. keyed j u (was j u h);
      freezer = r.freezer;
      first = set_else s.views id 0 now (λ e. is_not_first (sym e)) ∙ r.first;
      one_freezer = λ j u f h is. freezers j u f (was j u h) is;
      epoch = epoch ∙ r.epoch;
      marks = λ odd. r.marks odd ∙ sym places;
      owned = λ j u q h is. own_fits j u q (was j u h) is;
      one = λ a b u w q t h k is it e. same_seat a b u w q t (was a u h) (was b w k) is it e;
      within = λ j u q h is. within_at j u q (was j u h) is;
      cells = λ l lt. cell_at l lt (cases_eq l p.lane);
      blank = λ l h. blank_at l h (cases_eq l p.lane);
      vacant = λ l h j u q k is. vacant_at l h (cases_eq l p.lane) j u q (was j u k) is;
    }

  -- a step of the freezer
  module _ (f : FreezerView) (at : get_elem? s.views id ≡ some (record { key = key; part = OfFreezer f })) where
    pub is_first : id ≡ 0
    is_first = r.one_freezer id (record { key = key; part = OfFreezer f }) f at refl

    pub freezer_is : r.freezer ≡ f
    freezer_is = same_freezer {T = T} r.freezer f (ap (λ (x : View T K). x.part)
        (sees_one s.views 0 (record { key = key; part = OfFreezer r.freezer }) (record { key = key; part = OfFreezer f }) r.first (ap (get_elem? s.views) (sym is_first) ∙ at)))

    pub epoch_is : get_or s.words 0 0 ≡ f.epoch
    epoch_is = r.epoch ∙ ap (λ (x : FreezerView). x.epoch) freezer_is

    pub marks_are : f.epoch % 2 ≡ 1 → length f.marks ≡ length s.homes
    marks_are = subst (λ (x : FreezerView). x.epoch % 2 ≡ 1 → length x.marks ≡ length s.homes) freezer_is r.marks

    module _ (g : FreezerView) (ws : List ℕ) (hs : List (maybe.Option (Option T))) (many : length ws ≡ length s.words) (places : length hs ≡ length s.homes) (epoch : get_or ws 0 0 ≡ g.epoch)
        (marks : g.epoch % 2 ≡ 1 → length g.marks ≡ length hs) (fits : (q : LaneView T) → OwnerFits q f s.words s.homes → OwnerFits q g ws hs)
        (cells : (l : ℕ) → l < length hs → CellFits (Fits key) (get_or ws (cell_place l) 0) (get_elem? hs l)) (empty : (l : ℕ) → get_or ws (cell_place l) 0 ≡ vacant → get_or s.words (cell_place l) 0 ≡ vacant) where
      abbrev new : View T K
      new = record { key = key; part = OfFreezer g }

      abbrev Had : ℕ → View T K → Type 0
      Had j u = ((j ≡ id) × (new ≡ u)) ⊎ ((j ≢ id) × (get_elem? s.views j ≡ some u))

      had : (j : ℕ) (u : View T K) → get_elem? (set s.views id new) j ≡ some u → Had j u
      had j u h = at_set s.views id j new u h

      had_key : (j : ℕ) (u : View T K) → Had j u → u.key ≡ key
      had_key j u (inl h) = sym (ap (λ (x : View T K). x.key) h.1)
      had_key j u (inr h) = r.keys j u h.1

      had_freezer : (j : ℕ) (u : View T K) (x : FreezerView) → Had j u → u.part ≡ OfFreezer x → j ≡ 0
      had_freezer j u x (inl h) is = h.0 ∙ is_first
      had_freezer j u x (inr h) is = r.one_freezer j u x h.1 is

      had_lane : (j : ℕ) (u : View T K) (q : LaneView T) → Had j u → u.part ≡ OfLane q → get_elem? s.views j ≡ some u
      had_lane j u q (inl h) is = absurd (not_both g q (ap (λ (x : View T K). x.part) h.1 ∙ is))
      had_lane j u q (inr h) is = h.1

      longer : (l : List (View T K)) (x : View T K) → get_elem? l 0 ≡ some x → 0 < length l
      longer [] x h = absurd (some-ne-none x (sym h))
      longer (y ∷ ys) x h = omega arith

      pub freezer_keeps : Ruled Fits key (record { words = ws; homes = hs; views = set s.views id new })
      freezer_keeps = record {
        size = let a = r.size in omega arith;
        keys = λ j u h. had_key j u (had j u h);
        freezer = g;
        first = subst (λ (k : ℕ). get_elem? (set s.views k new) 0 ≡ some new) (sym is_first) (set_here s.views 0 new (longer s.views (record { key = key; part = OfFreezer r.freezer }) r.first));
        one_freezer = λ j u x h is. had_freezer j u x (had j u h) is;
        epoch = epoch;
        marks = marks;
        owned = λ j u q h is. fits q (subst (λ (x : FreezerView). OwnerFits q x s.words s.homes) freezer_is (r.owned j u q (had_lane j u q (had j u h) is) is));
        one = λ a b u w q t h k is it e. r.one a b u w q t (had_lane a u q (had a u h) is) (had_lane b w t (had b w k) it) is it e;
        within = λ j u q h is. let lt = r.within j u q (had_lane j u q (had j u h) is) is in omega arith;
        cells = cells;
        blank = λ l h. fits (new_owner l) (subst (λ (x : FreezerView). OwnerFits {T = T} (new_owner l) x s.words s.homes) freezer_is (r.blank l (empty l h)));
        vacant = λ l h j u q k is. r.vacant l (empty l h) j u q (had_lane j u q (had j u k) is) is;
      }

-- a seat of nobody comes
module _ {T K : Type 0} (Fits : K → T → Type 0) (key : K) (s : Table T K) (r : Ruled Fits key s) where
  is_old : (l : List (View T K)) (j : ℕ) (u : View T K) (h : (get_elem? l j ≡ some u) ⊎ (nobody key ≡ u)) (P : Part T) → u.part ≡ P → (OfNobody ≡ P → ⊥) → get_elem? l j ≡ some u
  is_old l j u (inl h) P is n = h
  is_old l j u (inr h) P is n = absurd (n (ap (λ (x : View T K). x.part) h ∙ is))

  keyed_too : (l : List (View T K)) (j : ℕ) (u : View T K) → ((k : ℕ) (w : View T K) → get_elem? l k ≡ some w → w.key ≡ key) → (get_elem? l j ≡ some u) ⊎ (nobody key ≡ u) → u.key ≡ key
  keyed_too l j u all (inl h) = all j u h
  keyed_too l j u all (inr h) = sym (ap (λ (x : View T K). x.key) h)

  abbrev More : List (View T K)
  More = s.views ++ nobody key ∷ []

  old : (j : ℕ) (u : View T K) → get_elem? More j ≡ some u → (get_elem? s.views j ≡ some u) ⊎ (nobody key ≡ u)
  old j u h = at_snoc s.views (nobody key) u j h

  old_lane : (j : ℕ) (u : View T K) (q : LaneView T) → get_elem? More j ≡ some u → u.part ≡ OfLane q → get_elem? s.views j ≡ some u
  old_lane j u q h is = is_old s.views j u (old j u h) (OfLane q) is (not_nobody_lane q)

  pub nobody_comes : Ruled Fits key (record { words = s.words; homes = s.homes; views = More })
  nobody_comes = record {
    size = r.size;
    keys = λ j u h. keyed_too s.views j u r.keys (old j u h);
    freezer = r.freezer;
    first = at_longer s.views (nobody key ∷ []) 0 (record { key = key; part = OfFreezer r.freezer }) r.first;
    one_freezer = λ j u f h is. r.one_freezer j u f (is_old s.views j u (old j u h) (OfFreezer f) is (not_nobody_freezer f)) is;
    epoch = r.epoch;
    marks = r.marks;
    owned = λ j u q h is. r.owned j u q (old_lane j u q h is) is;
    one = λ a b u w q t h k is it e. r.one a b u w q t (old_lane a u q h is) (old_lane b w t k it) is it e;
    within = λ j u q h is. r.within j u q (old_lane j u q h is) is;
    cells = r.cells;
    blank = r.blank;
    vacant = λ l h j u q k is. r.vacant l h j u q (old_lane j u q k is) is;
  }
