-- The effect of each call of a handle: it is refused with everything unchanged, or it has run.
use Rattle.std.specs.Prelude.{◌≡◌, ℕ, Bool, false, Option, Some, None, Result, Ok, Err}
use Rattle.c_answers.specs.declared.misuse.Misuse.{Misuse}
use Rattle.c_answers.specs.declared.misuse.Misuse.TheVariants.{Closed}
use Rattle.c_answers.specs.Numbers.{number_of}

-- the misuse of a result, if it is one
abbrev pub misuse_of : {A : Type 0} → Result A Misuse → Option Misuse
misuse_of (Ok a) = None
misuse_of (Err why) = Some why

-- nothing is wrong with an open handle
abbrev pub no_misuse : {S : Type 0} → S → Option Misuse
no_misuse s = None

-- the number that C gets is that of a result of which this holds
abbrev pub Tells : (Result (Unit {0}) Misuse → Type 0) → ℕ → Type 0
Tells holds result = (answer : Result (Unit {0}) Misuse) × (result ≡ number_of (λ _. 0) answer) × holds answer

-- the value that is written: the result of the call, or the old value if the call is refused
abbrev pub written : {V : Type 0} → Result V Misuse → V → V
written (Ok given) there = given
written (Err why) there = there

module _ {S A : Type 0} where
  -- a call of an open handle: refused if and only if there is a misuse, and otherwise its effect
  abbrev pub Ran : Option Misuse → (S → S → A → Type 0) → S → S → Result A Misuse → Type 0
  Ran misuse leaves old new (Err why) = (misuse ≡ Some why) × (new ≡ old)
  Ran misuse leaves old new (Ok a) = (misuse ≡ None) × leaves old new a

  -- the same for a handle, which may be closed
  abbrev pub RanOn : (S → Option Misuse) → (S → S → A → Type 0) → Option S → Option S → Result A Misuse → Type 0
  RanOn misuse leaves None new answer = (answer ≡ Err Closed) × (new ≡ None)
  RanOn misuse leaves (Some old) None answer = ⊥
  RanOn misuse leaves (Some old) (Some new) answer = Ran (misuse old) leaves old new answer

  -- the same for the number that C gets
  abbrev pub Answers : (A → ℕ) → (S → Option Misuse) → (S → S → A → Type 0) → Option S → Option S → ℕ → Type 0
  Answers number misuse leaves old new result = (answer : Result A Misuse) × (result ≡ number_of number answer) × RanOn misuse leaves old new answer

-- a question to a handle: false if the handle is closed, so that misuse is never taken for yes
abbrev pub Asks : {S : Type 0} → (S → S → Bool → Type 0) → Option S → Option S → Bool → Type 0
Asks leaves None new found = (found ≡ false) × (new ≡ None)
Asks leaves (Some old) None found = ⊥
Asks leaves (Some old) (Some new) found = leaves old new found

-- the same for a call that writes its result: nothing is written if it is refused
abbrev pub Writes : {S V : Type 0} → (S → Option Misuse) → (S → S → V → Type 0) → Option S → Option S → V → V → ℕ → Type 0
Writes {V = V} misuse leaves old new there here result = (answer : Result V Misuse) × (result ≡ number_of (λ _. 0) answer) × (here ≡ written answer there) × RanOn misuse leaves old new answer
