-- What the shared word's number says of its parts.
use Rattle.std.proofs.Common.{◌≡◌, ℕ, ◌+◌, ◌<◌, Bool, true, false, ◌||◌, nat_eq, if◌then◌else◌, refl, ap, sym, ◌∙◌, arith}
use mathlib.Core.Bool.{not}
use prog.Atomic.{either}
use Rattle.percpu_words.specs.SharedWord.{SharedWord, spelling, dead_mark, zero_mark}
use Rattle.percpu_core.specs.declared.reply.Reply.TheVariants.{Given, Refused, NotLast, ToMark, Last, Lost, Shared}
use Rattle.percpu_core.specs.Cells.{is_dead_alone}
use Rattle.percpu_core.proofs.Flags.{or_false}
use Rattle.percpu_core.proofs.PassKeeps.{alone}
use Rattle.percpu_core.specs.PassSteps.{marked as marked_word}
use Rattle.percpu_gate.specs.Seats.{tried, left, marked, put_of}

spelled_alone : (zero dead : Bool) (v : ℕ) → v < dead_mark → nat_eq (spelling record { zero = zero; dead = dead; value = v }) dead_mark ≡ is_dead_alone record { zero = zero; dead = dead; value = v }
spelled_alone true true v small = grind arith
spelled_alone true false v small = grind arith
spelled_alone false true v small = grind arith
spelled_alone false false v small = grind arith

-- the number of DEAD alone is that mark's
pub alone_is : (s : SharedWord) → s.value < dead_mark → nat_eq (spelling s) dead_mark ≡ is_dead_alone s
alone_is s small = spelled_alone s.zero s.dead s.value small

marking_by : (s : SharedWord) → s.value < dead_mark → (b : Bool) → is_dead_alone s ≡ b → either b (dead_mark + zero_mark) (spelling s) ≡ spelling record s { zero = s.zero || b }
marking_by s small true is = let parts = alone s is in let none = parts.2 in rw (parts.0, parts.1) (omega arith)
marking_by s small false is = ap (λ (z : Bool). spelling record s { zero = z }) (sym (or_false s.zero))

-- the exchange of DEAD alone writes the marked word
pub marking : (s : SharedWord) → s.value < dead_mark → either (nat_eq (spelling s) dead_mark) (dead_mark + zero_mark) (spelling s) ≡ spelling (marked_word s)
marking s small = ap (λ (b : Bool). either b (dead_mark + zero_mark) (spelling s)) (alone_is s small) ∙ marking_by s small (is_dead_alone s) refl

-- one reply has one number
pub shared_is : (a b : ℕ) → Shared a ≡ Shared b → a ≡ b
shared_is a b e = cc

pub try_answer : (b : Bool) → tried (not b) ≡ (if b then Refused else Given)
try_answer true = refl
try_answer false = refl

pub left_answer : (b : Bool) → left b ≡ (if b then ToMark else NotLast)
left_answer true = refl
left_answer false = refl

pub mark_answer : (b : Bool) → marked (put_of b) ≡ (if b then Last else Lost)
mark_answer true = refl
mark_answer false = refl
