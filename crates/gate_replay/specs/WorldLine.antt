-- What the first two lines of a schedule say: its version, and the world.
use Rattle.std.specs.Prelude.{ℕ, Bool, true, ◌&&◌, if◌then◌else◌, nat_lt, List, [], ◌∷◌, drop, length, Result, Ok, Err, codes}
use Rattle.std.specs.Str.{bytes_eq}
use Rattle.line_text.specs.Numbers.{◌>>=◌, number_in}
use Rattle.line_text.specs.declared.fault.Why.{Why}
use Rattle.line_text.specs.declared.fault.Why.TheVariants.{NoVersion, NoWorld, UnknownWord, MissingWord, ExtraWord}
use Rattle.percpu_core.specs.declared.start.Start.{Start}
use Rattle.percpu_core.specs.declared.start.Start.TheVariants.{Slots, Atomic, Dead}
use Rattle.percpu_core.specs.Starts.{Opening, opening}

-- the first line says `gate 1`, and nothing else
abbrev pub gate_of : List (List ℕ) → Result Bool Why
gate_of (name ∷ number ∷ []) = if bytes_eq name (codes "gate") && bytes_eq number (codes "1") then Ok true else Err NoVersion
gate_of words = Err NoVersion

-- how the world starts
abbrev pub start_of : List ℕ → Result Start Why
start_of word =
    if bytes_eq word (codes "slots") then Ok Slots
    else if bytes_eq word (codes "atomic") then Ok Atomic
    else if bytes_eq word (codes "dead") then Ok Dead
    else Err UnknownWord

-- the guarded words
abbrev pub values_of : List (List ℕ) → Result (List ℕ) Why
values_of [] = Ok []
values_of (word ∷ words) =
    number_in 0 18446744073709551615 word >>= λ value.
    values_of words >>= λ values.
    Ok (value ∷ values)

-- what a world says before its guarded words
pub record Sizes : Type 0 where
  pub slots : ℕ
  pub passes : ℕ
  pub start : Start
  pub kills : ℕ

abbrev pub sizes : ℕ → ℕ → Start → ℕ → Sizes
sizes slots passes start kills = record { slots = slots; passes = passes; start = start; kills = kills }

-- the slots, the passes, the start and the kills, which up to 8 words follow
abbrev pub sizes_of : List (List ℕ) → Result Sizes Why
sizes_of [] = Err MissingWord
sizes_of (slots ∷ []) = Err MissingWord
sizes_of (slots ∷ passes ∷ []) = Err MissingWord
sizes_of (slots ∷ passes ∷ start ∷ []) = Err MissingWord
sizes_of (slots ∷ passes ∷ start ∷ kills ∷ words) =
    if nat_lt 8 (length words) then Err ExtraWord else (
    number_in 1 64 slots >>= λ slots.
    number_in 1 64 passes >>= λ passes.
    start_of start >>= λ start.
    number_in 0 1099511627776 kills >>= λ kills.
    Ok (sizes slots passes start kills)
    )

-- the world of these sizes and these guarded words
abbrev pub with_values : Sizes → List ℕ → Opening
with_values said values = opening said.slots said.passes said.start said.kills values

-- the words after SLOTS PASSES START KILLS
abbrev pub behind_kills : List (List ℕ) → List (List ℕ)
behind_kills words = drop 4 words

-- the slots, the passes, the start and the kills, and then up to 8 guarded words
abbrev pub opening_of : List (List ℕ) → Result Opening Why
opening_of words =
    sizes_of words >>= λ said.
    values_of (behind_kills words) >>= λ values.
    Ok (with_values said values)

-- the words after `world`
abbrev pub behind_world : List (List ℕ) → Result (List (List ℕ)) Why
behind_world [] = Err NoWorld
behind_world (first ∷ words) = if bytes_eq first (codes "world") then Ok words else Err NoWorld

-- the second line says `world SLOTS PASSES START KILLS [WORD ..]`
abbrev pub world_of : List (List ℕ) → Result Opening Why
world_of words = behind_world words >>= opening_of
