-- Each step of an owner and of the freezer keeps what is known of the owner.
use Rattle.std.proofs.Common.{◌≡◌, ◌≢◌, ℕ, ◌+◌, ◌-◌, ◌%◌, ◌≤◌, ◌==◌, nat_eq, if◌then◌else◌, Bool, true, false, get_or, replicate, zero, suc, refl, sym, subst, arith}
use Rattle.std.proofs.lemmas.Bool.Decides.{nat_tests}
use Rattle.bias_lanes.specs.declared.views.Stage.{Stage}
use Rattle.bias_lanes.specs.declared.views.Stage.TheVariants.{Unbiased, Parked, Idle, Trying, Entered, Leaving, Over}
use Rattle.bias_lanes.specs.declared.views.Mark.{Mark}
use Rattle.bias_lanes.specs.declared.views.Mark.TheVariants.{Unseen, Watched, Out}
use Rattle.bias_lanes.specs.Lanes.{IsBias, LaneFits, MarkFits, found_mark}
use Rattle.bias_lanes.specs.Seats.{CanRest, CanEnd}

module _ (b e w : ℕ) (H : Type 0) where
  -- the epoch grows
  bias_raised : IsBias b e → IsBias b (e + 1)
  bias_raised h = let le = h.begun in record { even = h.even; begun = omega arith }

  later : IsBias b e → b ≡ e + 1 → H
  later h is = let le = h.begun in absurd (omega arith)

  pub raised : (st : Stage) → LaneFits st b e w H → LaneFits st b (e + 1) w H
  raised Unbiased h = (h.0, let le = h.1 in omega arith)
  raised Parked h = (h.0, bias_raised h.1, later h.1)
  raised Idle h = (h.0, bias_raised h.1, later h.1)
  raised Trying h = (h.0, bias_raised h.1, later h.1)
  raised Entered h = (h.0, bias_raised h.1, h.2)
  raised Leaving h = (h.0, bias_raised h.1, later h.1)
  raised Over h = (bias_raised h.0, λ is. let le = h.0.begun in omega arith)

  -- in an odd epoch, the cell of an owner that is out is no matter of its own
  odd_is_not : (G : Type 0) → IsBias b e → e % 2 ≡ 1 → b ≡ e → G
  odd_is_not G h odd is = let even = h.even in absurd (omega arith)

  pub apart : (G : Type 0) (st : Stage) → e % 2 ≡ 1 → st ≢ Entered → LaneFits st b e w H → LaneFits st b e w G
  apart G Unbiased odd n h = h
  apart G Parked odd n h = (h.0, h.1, odd_is_not G h.1 odd)
  apart G Idle odd n h = (h.0, h.1, odd_is_not G h.1 odd)
  apart G Trying odd n h = (h.0, h.1, odd_is_not G h.1 odd)
  apart G Entered odd n h = absurd (n refl)
  apart G Leaving odd n h = (h.0, h.1, odd_is_not G h.1 odd)
  apart G Over odd n h = h

  -- an owner parks, and says that it is idle
  pub begins : LaneFits Unbiased b e w H → LaneFits Unbiased (e - e % 2) e w H
  begins h = (h.0, omega arith)

  pub parks : LaneFits Unbiased b e w H → b % 2 ≡ 0 → (G : Type 0) → G → LaneFits Parked b e w G
  parks h even G g = (h.0, record { even = even; begun = h.1 }, λ is. g)

  pub says_idle : (st : Stage) → CanRest st → LaneFits st b e w H → LaneFits Leaving b e b H
  says_idle Unbiased n h = absurd (n.0 refl)
  says_idle Parked n h = (refl, h.1, h.2)
  says_idle Idle n h = absurd (n.1 refl)
  says_idle Trying n h = absurd (n.2 refl)
  says_idle Entered n h = (refl, h.1, λ is. h.2)
  says_idle Leaving n h = absurd (n.3 refl)
  says_idle Over n h = absurd (n.4 refl)

  is_equal : nat_eq e b ≡ true → b ≡ e
  is_equal h = grind (arith, nat_tests)

  not_equal : nat_eq e b ≡ false → b ≡ e → ⊥
  not_equal h is = grind (arith, nat_tests)

  stays_by : (t : Bool) → nat_eq e b ≡ t → LaneFits Leaving b e w H → LaneFits (if t then Idle else Over) b e w H
  stays_by true is h = h
  stays_by false is h = (h.1, not_equal is)

  pub stays : LaneFits Leaving b e w H → LaneFits (if e == b then Idle else Over) b e w H
  stays h = stays_by (nat_eq e b) refl h

  pub says_busy : LaneFits Idle b e w H → LaneFits Trying b e (b + 1) H
  says_busy h = (refl, h.1, h.2)

  confirms_by : (t : Bool) → nat_eq e b ≡ t → LaneFits Trying b e w H → LaneFits (if t then Entered else Over) b e w H
  confirms_by true is h = (h.0, h.1, h.2 (is_equal is))
  confirms_by false is h = (h.1, not_equal is)

  pub confirms : LaneFits Trying b e w H → LaneFits (if e == b then Entered else Over) b e w H
  confirms h = confirms_by (nat_eq e b) refl h

  -- and gives its bias up
  pub gives_up : (st : Stage) → CanEnd st → LaneFits st b e w H → LaneFits Parked b e 0 H
  gives_up Unbiased n h = absurd (n.0 refl)
  gives_up Parked n h = (refl, h.1, h.2)
  gives_up Idle n h = (refl, h.1, h.2)
  gives_up Trying n h = (refl, h.1, h.2)
  gives_up Entered n h = absurd (n.1 refl)
  gives_up Leaving n h = (refl, h.1, h.2)
  gives_up Over n h = (refl, h.0, λ is. absurd (h.1 is))

  pub takes : (G : Type 0) → LaneFits Parked b e w H → LaneFits Unbiased b e w G
  takes G h = (h.0, h.1.begun)

  -- what a stage says by itself
  pub held : LaneFits Entered b e w H → H
  held h = h.2

  pub bias_of : (st : Stage) → st ≢ Unbiased → LaneFits st b e w H → IsBias b e
  bias_of Unbiased n h = absurd (n refl)
  bias_of Parked n h = h.1
  bias_of Idle n h = h.1
  bias_of Trying n h = h.1
  bias_of Entered n h = h.1
  bias_of Leaving n h = h.1
  bias_of Over n h = h.0

  pub not_later : (st : Stage) → LaneFits st b e w H → b ≤ e
  not_later Unbiased h = h.1
  not_later Parked h = h.1.begun
  not_later Idle h = h.1.begun
  not_later Trying h = h.1.begun
  not_later Entered h = h.1.begun
  not_later Leaving h = h.1.begun
  not_later Over h = h.0.begun

  -- a look of a freeze finds the word
  even_look : w % 2 ≡ 0 → found_mark w ≡ Out
  even_look h = let t : nat_eq (w % 2) 0 ≡ true = grind (arith, nat_tests) in rw t refl

  odd_look : w % 2 ≡ 1 → found_mark w ≡ Watched
  odd_look h = let t : nat_eq (w % 2) 0 ≡ false = grind (arith, nat_tests) in rw t refl

  out_by : (st : Stage) → w % 2 ≡ 0 → e % 2 ≡ 1 → st ≢ Entered → MarkFits (found_mark w) e st
  out_by st even odd n = subst (λ (m : Mark). MarkFits m e st) (sym (even_look even)) (odd, n)

  watched_by : (st : Stage) → w % 2 ≡ 1 → e % 2 ≡ 1 → st ≢ Idle → MarkFits (found_mark w) e st
  watched_by st busy odd n = subst (λ (m : Mark). MarkFits m e st) (sym (odd_look busy)) (odd, n)

  even_word : IsBias b e → w ≡ b → w % 2 ≡ 0
  even_word h is = let even = h.even in omega arith

  odd_word : IsBias b e → w ≡ b + 1 → w % 2 ≡ 1
  odd_word h is = let even = h.even in omega arith

  zero_word : w ≡ 0 → w % 2 ≡ 0
  zero_word is = omega arith

  over_by : (t : Bool) → e % 2 ≡ 1 → MarkFits (if t then Out else Watched) e Over
  over_by true odd = (odd, λ x. cc)
  over_by false odd = (odd, λ x. cc)

  pub looks : (st : Stage) → e % 2 ≡ 1 → LaneFits st b e w H → MarkFits (found_mark w) e st
  looks Unbiased odd h = out_by Unbiased (zero_word h.0) odd (λ x. cc)
  looks Parked odd h = out_by Parked (zero_word h.0) odd (λ x. cc)
  looks Idle odd h = out_by Idle (even_word h.1 h.0) odd (λ x. cc)
  looks Trying odd h = watched_by Trying (odd_word h.1 h.0) odd (λ x. cc)
  looks Entered odd h = watched_by Entered (odd_word h.1 h.0) odd (λ x. cc)
  looks Leaving odd h = out_by Leaving (even_word h.1 h.0) odd (λ x. cc)
  looks Over odd h = over_by (nat_eq (w % 2) 0) odd

-- the mark goes with the owner's steps
module _ (e : ℕ) (st now : Stage) where
  pub mark_moves : (m : Mark) → now ≢ Idle → now ≢ Entered → MarkFits m e st → MarkFits m e now
  mark_moves Unseen i n h = tt
  mark_moves Watched i n h = (h.0, i)
  mark_moves Out i n h = (h.0, n)

  -- in an even epoch the freezer has set none
  pub mark_live : (m : Mark) → e % 2 ≡ 0 → MarkFits m e st → MarkFits m e now
  mark_live Unseen even h = tt
  mark_live Watched even h = let odd = h.0 in absurd (omega arith)
  mark_live Out even h = let odd = h.0 in absurd (omega arith)

module _ (b e : ℕ) (st : Stage) (m : Mark) (bias : IsBias b e) (h : MarkFits m e st) where
  same_even : nat_eq e b ≡ true → e % 2 ≡ 0
  same_even is = let even = bias.even in let same : b ≡ e = grind (arith, nat_tests) in omega arith

  stays_marked_by : (t : Bool) → nat_eq e b ≡ t → MarkFits m e (if t then Idle else Over)
  stays_marked_by true is = mark_live e st Idle m (same_even is) h
  stays_marked_by false is = mark_moves e st Over m (λ x. cc) (λ x. cc) h

  pub stays_marked : MarkFits m e (if e == b then Idle else Over)
  stays_marked = stays_marked_by (nat_eq e b) refl

  confirms_marked_by : (t : Bool) → nat_eq e b ≡ t → MarkFits m e (if t then Entered else Over)
  confirms_marked_by true is = mark_live e st Entered m (same_even is) h
  confirms_marked_by false is = mark_moves e st Over m (λ x. cc) (λ x. cc) h

  pub confirms_marked : MarkFits m e (if e == b then Entered else Over)
  confirms_marked = confirms_marked_by (nat_eq e b) refl

pub out_of_mark : (m : Mark) (e : ℕ) (st : Stage) → m ≡ Out → MarkFits m e st → (e % 2 ≡ 1) × (st ≢ Entered)
out_of_mark m e st is h = subst (λ (x : Mark). MarkFits x e st) is h

pub watched_of_mark : (m : Mark) (e : ℕ) (st : Stage) → m ≡ Watched → MarkFits m e st → (e % 2 ≡ 1) × (st ≢ Idle)
watched_of_mark m e st is h = subst (λ (x : Mark). MarkFits x e st) is h

pub none_seen : (n lane : ℕ) → get_or (replicate n Unseen) lane Unseen ≡ Unseen
none_seen zero lane = refl
none_seen (suc n) zero = refl
none_seen (suc n) (suc lane) = none_seen n lane
