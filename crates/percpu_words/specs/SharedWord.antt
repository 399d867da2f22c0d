-- The shared word of a gate by its parts, and the number that encodes them.
use Rattle.std.specs.Prelude.{ℕ, ◌+◌, ◌%◌, ◌^◌, Bool, nat_le, if◌then◌else◌}

-- two marks and a count
pub record SharedWord : Type 0 where
  pub zero : Bool
  pub dead : Bool
  pub value : ℕ

-- the marks ZERO and DEAD are bits 63 and 62
abbrev pub zero_mark : ℕ
zero_mark = 2 ^ 63

abbrev pub dead_mark : ℕ
dead_mark = 2 ^ 62

-- the bias, which is added to the value while slots are open, so that the value can't reach zero
abbrev pub bias : ℕ
bias = 2 ^ 48

-- the number that encodes a word whose value is below 2 ^ 62
abbrev pub spelling : SharedWord → ℕ
spelling s = (if s.zero then zero_mark else 0) + (if s.dead then dead_mark else 0) + s.value

-- the parts that a number below 2 ^ 64 encodes
abbrev pub parts : ℕ → SharedWord
parts w = record { zero = nat_le zero_mark w; dead = nat_le dead_mark (w % zero_mark); value = w % dead_mark }
