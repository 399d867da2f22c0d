-- What holds of the encoding of the shared word, for every word.
use Rattle.std.specs.Prelude.{◌≡◌, ℕ, ◌+◌, ◌-◌, ◌%◌, ◌^◌, ◌<◌, ◌≤◌, true, false, bit_and, bit_or}
use Rattle.percpu_words.specs.SharedWord.{SharedWord, spelling, parts, dead_mark}

-- the parts of a word's encoding are the word's parts
abbrev pub PartsOfSpelling : Type 0
PartsOfSpelling = (s : SharedWord) → s.value < dead_mark → parts (spelling s) ≡ s

-- each number below 2 ^ 64 encodes exactly its parts
abbrev pub SpellingOfParts : Type 0
SpellingOfParts = (w : ℕ) → w < 2 ^ 64 → spelling (parts w) ≡ w

-- adding k to the word adds k to the value, if it fits, and leaves both marks
abbrev pub AddingKeepsMarks : Type 0
AddingKeepsMarks = (s : SharedWord) (k : ℕ) → s.value + k < dead_mark → (spelling s + k) % 2 ^ 64 ≡ spelling record s { value = s.value + k }

-- subtracting k, as one wrapping addition, subtracts k from a value that has it, and leaves both marks
abbrev pub SubtractingKeepsMarks : Type 0
SubtractingKeepsMarks = (s : SharedWord) (k : ℕ) → k ≤ s.value → s.value < dead_mark → (spelling s + (2 ^ 64 - k)) % 2 ^ 64 ≡ spelling record s { value = s.value - k }

-- an `or` with the mark DEAD sets it and leaves the rest
abbrev pub SettingDead : Type 0
SettingDead = (s : SharedWord) → s.value < dead_mark → bit_or (spelling s) dead_mark ≡ spelling record s { dead = true }

-- an `and` with the bits of the value clears both marks and nothing else
abbrev pub ClearingMarks : Type 0
ClearingMarks = (s : SharedWord) → s.value < dead_mark → bit_and (spelling s) (dead_mark - 1) ≡ spelling record s { zero = false; dead = false }
