-- What a write does to each sector, to another write, and to a read.
use Rattle.std.proofs.Common.{◌≡◌, ◌∙◌, sym, ap, ℕ, ◌+◌, ◌-◌, ◌<◌, ◌≤◌, ◌⊎◌, inl, inr, List, [], ◌++◌, length, get_or, take, drop, arith, length-append, length-drop}
use Rattle.std.proofs.lemmas.Bool.{cases_lt}
use Rattle.std.proofs.lemmas.List.{ext_get_or, get_or_append_left, get_or-append_right, get_or-take, get_or-drop, length-take-le}
use Rattle.ram_disk.specs.Disk.{sectors_read, sectors_written}
use Rattle.ram_disk.specs.Writes.{sector_at, IsWithin, AreDisjoint, Fits, WritesItsSectors, KeepsOtherSectors, DisjointWritesCommute, ReadsBesideWritesStay}

-- where a sector stands against a range
pub within_or_not : (start count sector : ℕ) → IsWithin start count sector ⊎ (IsWithin start count sector → ⊥)
within_or_not start count sector =
    elim (cases_lt sector start) [
      | inl less ↦ inr (λ within. absurd (omega (arith, within.0)))
      | inr more ↦ elim (cases_lt sector (start + count)) [
        | inl less' ↦ inl (more, less')
        | inr more' ↦ inr (λ within. absurd (omega (arith, within.1)))
      ]
    ]

length_front : (start : ℕ) (disk : List (List ℕ)) → start ≤ length disk → length (take start disk) ≡ start
length_front start disk within = length-take-le start disk within

-- the disk up to the end of what is written
length_upto : (start : ℕ) (sectors disk : List (List ℕ)) → Fits start sectors disk → length (take start disk ++ sectors) ≡ start + length sectors
length_upto start sectors disk fits = length-append (take start disk) sectors ∙ ap (λ n. n + length sectors) (length_front start disk (omega arith))

pub length-sectors_written : (start : ℕ) (sectors disk : List (List ℕ)) → Fits start sectors disk → length (sectors_written start sectors disk) ≡ length disk
length-sectors_written start sectors disk fits =
    let upto = length_upto start sectors disk fits in
    let rest = length-drop (start + length sectors) disk in
    length-append (take start disk ++ sectors) (drop (start + length sectors) disk) ∙ omega (arith, upto, rest)

written_upto : (disk sectors : List (List ℕ)) (start sector : ℕ) → Fits start sectors disk → sector < start + length sectors
    → sector_at (sectors_written start sectors disk) sector ≡ get_or (take start disk ++ sectors) sector []
written_upto disk sectors start sector fits low =
    get_or_append_left (take start disk ++ sectors) (drop (start + length sectors) disk) [] sector (omega (arith, length_upto start sectors disk fits))

pub written_own : WritesItsSectors
written_own disk sectors start place fits within =
    written_upto disk sectors start (start + place) fits (omega arith)
    ∙ get_or-append_right (take start disk) sectors start (start + place) [] (length_front start disk (omega arith)) (omega arith)
    ∙ ap (λ i. get_or sectors i []) (omega arith)

written_below : (disk sectors : List (List ℕ)) (start sector : ℕ) → Fits start sectors disk → sector < start
    → sector_at (sectors_written start sectors disk) sector ≡ sector_at disk sector
written_below disk sectors start sector fits low =
    written_upto disk sectors start sector fits (omega arith)
    ∙ get_or_append_left (take start disk) sectors [] sector (omega (arith, length_front start disk (omega arith)))
    ∙ get_or-take start disk sector [] low

written_above : (disk sectors : List (List ℕ)) (start sector : ℕ) → Fits start sectors disk → start + length sectors ≤ sector
    → sector_at (sectors_written start sectors disk) sector ≡ sector_at disk sector
written_above disk sectors start sector fits high =
    get_or-append_right (take start disk ++ sectors) (drop (start + length sectors) disk) (start + length sectors) sector [] (length_upto start sectors disk fits) high
    ∙ get_or-drop (start + length sectors) disk (sector - (start + length sectors)) []
    ∙ ap (λ i. get_or disk i []) (omega arith)

pub written_others : KeepsOtherSectors
written_others disk sectors start sector fits outside =
    elim (cases_lt sector start) [
      | inl low ↦ written_below disk sectors start sector fits low
      | inr more ↦ elim (cases_lt sector (start + length sectors)) [
        | inl less ↦ absurd (outside (more, less))
        | inr high ↦ written_above disk sectors start sector fits high
      ]
    ]

-- a sector of the range, by its own number
pub written_inside : (disk sectors : List (List ℕ)) (start sector : ℕ) → Fits start sectors disk → IsWithin start (length sectors) sector
    → sector_at (sectors_written start sectors disk) sector ≡ sector_at sectors (sector - start)
written_inside disk sectors start sector fits within =
    let at : start + (sector - start) ≡ sector = omega (arith, within.0) in
    sym (ap (sector_at (sectors_written start sectors disk)) at) ∙ written_own disk sectors start (sector - start) fits (omega (arith, within.0, within.1))

-- the two orders agree at each sector
agree_at : (disk first second : List (List ℕ)) (start other : ℕ) → Fits start first disk → Fits other second disk → AreDisjoint start (length first) other (length second)
    → Fits start first (sectors_written other second disk) → Fits other second (sectors_written start first disk) → (sector : ℕ)
    → sector_at (sectors_written other second (sectors_written start first disk)) sector ≡ sector_at (sectors_written start first (sectors_written other second disk)) sector
agree_at disk first second start other fits fits' apart after after' sector =
    elim (within_or_not start (length first) sector) [
      | inl in_first ↦
          written_others (sectors_written start first disk) second other sector after' (apart sector in_first)
          ∙ written_inside disk first start sector fits in_first
          ∙ sym (written_inside (sectors_written other second disk) first start sector after in_first)
      | inr out_first ↦ elim (within_or_not other (length second) sector) [
        | inl in_second ↦
            written_inside (sectors_written start first disk) second other sector after' in_second
            ∙ sym (written_inside disk second other sector fits' in_second)
            ∙ sym (written_others (sectors_written other second disk) first start sector after out_first)
        | inr out_second ↦
            written_others (sectors_written start first disk) second other sector after' out_second
            ∙ written_others disk first start sector fits out_first
            ∙ sym (written_others disk second other sector fits' out_second)
            ∙ sym (written_others (sectors_written other second disk) first start sector after out_first)
      ]
    ]

pub writes_commute : DisjointWritesCommute
writes_commute disk first second start other fits fits' apart =
    let len = length-sectors_written start first disk fits in
    let len' = length-sectors_written other second disk fits' in
    let after : Fits start first (sectors_written other second disk) = omega (arith, len', fits) in
    let after' : Fits other second (sectors_written start first disk) = omega (arith, len, fits') in
    let whole = length-sectors_written other second (sectors_written start first disk) after' in
    let whole' = length-sectors_written start first (sectors_written other second disk) after in
    ext_get_or [] (sectors_written other second (sectors_written start first disk)) (sectors_written start first (sectors_written other second disk))
    (whole ∙ len ∙ sym len' ∙ sym whole')
    (λ sector within. agree_at disk first second start other fits fits' apart after after' sector)

pub length-sectors_read : (start count : ℕ) (disk : List (List ℕ)) → start + count ≤ length disk → length (sectors_read start count disk) ≡ count
length-sectors_read start count disk within = length-take-le count (drop start disk) (omega (arith, length-drop start disk))

pub read_at : (start count : ℕ) (disk : List (List ℕ)) (place : ℕ) → place < count → sector_at (sectors_read start count disk) place ≡ sector_at disk (start + place)
read_at start count disk place within = get_or-take count (drop start disk) place [] within ∙ get_or-drop start disk place []

-- reads of two disks that agree on the range find the same
pub read_same : (start count : ℕ) (disk disk' : List (List ℕ)) → start + count ≤ length disk → length disk' ≡ length disk
    → ((sector : ℕ) → IsWithin start count sector → sector_at disk' sector ≡ sector_at disk sector)
    → sectors_read start count disk' ≡ sectors_read start count disk
read_same start count disk disk' within len same =
    let here = length-sectors_read start count disk within in
    let there = length-sectors_read start count disk' (omega (arith, len, within)) in
    ext_get_or [] (sectors_read start count disk') (sectors_read start count disk) (there ∙ sym here)
    (λ place less.
    let few : place < count = omega (arith, there, less) in
    read_at start count disk' place few ∙ same (start + place) (omega arith, omega arith) ∙ sym (read_at start count disk place few))

pub reads_stay : ReadsBesideWritesStay
reads_stay disk sectors start count other within fits apart =
    read_same start count disk (sectors_written other sectors disk) within (length-sectors_written other sectors disk fits)
    (λ sector inside. written_others disk sectors other sector fits (apart sector inside))
