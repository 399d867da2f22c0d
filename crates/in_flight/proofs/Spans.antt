-- The disk of a run while requests are under way.
use Rattle.std.proofs.Common.{◌≡◌, ◌∙◌, refl, sym, ap, subst, ℕ, zero, suc, ◌+◌, ◌-◌, ◌<◌, ◌≤◌, ◌⊎◌, inl, inr, arith, Bool, true, false, ◌||◌, List, [], length, Some}
use Rattle.std.proofs.lemmas.List.{ext_get_or}
use Rattle.std.proofs.lemmas.Option.{slice_get_cases}
use Rattle.ram_disk.specs.Disk.{sectors_written}
use Rattle.ram_disk.specs.Pattern.{pattern_sectors}
use Rattle.ram_disk.specs.Writes.{sector_at, IsWithin}
use Rattle.ram_disk.proofs.SectorWrites.{read_same, written_others, written_inside, within_or_not, length-sectors_written}
use Rattle.script_meaning.specs.Requests.{accepted_at, state_at}
use Rattle.script_meaning.specs.Script.{Meant}
use Rattle.script_meaning.specs.declared.reply.Request.{Request}
use Rattle.script_meaning.proofs.Disks.{length-pattern_sectors, state_disk}
use Rattle.script_overlap.specs.Overlap.{HasSector, Clash}
use Rattle.in_flight.specs.Span.{AreInSpan, ClashesWithNone, IsAwaited, IsDiskBut, ReadsStandInASpan}
use Rattle.in_flight.proofs.LineSteps.{IsWriteAt, sector_stays, write_request, write_fits, written_next}

or_right : (a b : Bool) → a ≡ true → a || b ≡ true
or_right true b is = refl
or_right false b is = cc

-- a request that clashes with none under way touches no sector of a write under way
pub apart : (script : Meant) (owed : ℕ → Bool) (request : Request) (sector : ℕ) → ClashesWithNone script owed request → HasSector request sector → IsAwaited script owed sector → ⊥
apart script owed request sector none inside awaited =
    none awaited.position awaited.request awaited.is_owed awaited.accepted
    (record { sector = sector; in_first = awaited.inside; in_second = inside; writes = or_right awaited.request.writes request.writes awaited.writes })

pub reads_stand : ReadsStandInASpan
reads_stand script owed here disk request none but fits =
    let size = state_disk script here in
    read_same request.start request.count (state_at script here).disk disk (omega (arith, size, fits)) (but.whole ∙ sym size)
    (λ sector within. but.others sector (apart script owed request sector none within))

-- ---- what a write leaves stands until the next drain

-- no accepted write at these lines touches the sector
abbrev Untouched : Meant → ℕ → ℕ → ℕ → Type 0
Untouched script from upto sector = (k : ℕ) → from ≤ k → k < upto → (request : Request) → accepted_at script k ≡ Some request → request.writes ≡ true → HasSector request sector → ⊥

next_stays : (script : Meant) (k sector : ℕ) → k < length script.lines → ((request : Request) → accepted_at script k ≡ Some request → request.writes ≡ true → HasSector request sector → ⊥)
    → sector_at (state_at script (k + 1)).disk sector ≡ sector_at (state_at script k).disk sector
next_stays script k sector within untouched =
    elim (slice_get_cases script.lines k).1 [
      | inl found ↦ sector_stays script k found.0 sector found.2 untouched
      | inr past ↦ absurd (omega (arith, past.0))
    ]

stays : (script : Meant) (from n sector : ℕ) → from + n ≤ length script.lines → Untouched script from (from + n) sector
    → sector_at (state_at script (from + n)).disk sector ≡ sector_at (state_at script from).disk sector
stays script from zero sector within untouched = ap (λ k. sector_at (state_at script k).disk sector) (omega arith)
stays script from (suc n) sector within untouched =
    let step : from + suc n ≡ from + n + 1 = omega arith in
    ap (λ k. sector_at (state_at script k).disk sector) step
    ∙ next_stays script (from + n) sector (omega arith) (untouched (from + n) (omega arith) (omega arith))
    ∙ stays script from n sector (omega arith) (λ k low high. untouched k low (omega arith))

-- no later request clashes with the write
abbrev ApartFrom : Meant → ℕ → ℕ → Request → Type 0
ApartFrom script position here first = (later : ℕ) (second : Request) → position < later → later < here → accepted_at script later ≡ Some second → Clash first second → ⊥

-- so later requests of its span touch none of its sectors
untouched_since : (script : Meant) (position here start count : ℕ) (sector : ℕ) → ApartFrom script position here (record { start = start; count = count; writes = true })
    → IsWithin start count sector → Untouched script (position + 1) here sector
untouched_since script position here start count sector apart_from inside k low high request accepted writes touches =
    apart_from k request (omega arith) high accepted (record { sector = sector; in_first = inside; in_second = touches; writes = refl })

-- and the sectors of a write under way are what it wrote
pub wrote : (script : Meant) (position here start count : ℕ) (pattern : List ℕ) (sector : ℕ) → IsWriteAt script position start count pattern
    → ApartFrom script position here (record { start = start; count = count; writes = true })
    → position < here → here ≤ length script.lines → IsWithin start count sector
    → sector_at (state_at script here).disk sector ≡ sector_at (pattern_sectors pattern count) (sector - start)
wrote script position here start count pattern sector w apart_from before end inside =
    let at : here ≡ (position + 1) + (here - (position + 1)) = omega arith in
    let size = length-pattern_sectors pattern count in
    let fits : start + length (pattern_sectors pattern count) ≤ length (state_at script position).disk = omega (arith, size, state_disk script position, write_fits script position start count pattern w) in
    ap (λ k. sector_at (state_at script k).disk sector) at
    ∙ stays script (position + 1) (here - (position + 1)) sector (omega arith)
    (λ k low high. untouched_since script position here start count sector apart_from inside k low (omega arith))
    ∙ ap (λ disk. sector_at disk sector) (written_next script position start count pattern w)
    ∙ written_inside (state_at script position).disk (pattern_sectors pattern count) start sector fits (omega (arith, inside.0), omega (arith, inside.1, size))

-- ---- the disk one step further

-- fewer are owed, of those that write
pub fewer : (script : Meant) (owed owed' : ℕ → Bool) (here : ℕ) (disk : List (List ℕ)) → IsDiskBut script owed here disk
    → ((sector : ℕ) → IsAwaited script owed sector → IsAwaited script owed' sector) → IsDiskBut script owed' here disk
fewer script owed owed' here disk but more = record { whole = but.whole; others = λ sector none. but.others sector (λ awaited. none (more sector awaited)) }

-- a write under way is installed: from then on it isn't owed
pub installed : (script : Meant) (owed owed' : ℕ → Bool) (position here start count : ℕ) (pattern : List ℕ) (disk : List (List ℕ))
    → AreInSpan script owed here → here ≤ length script.lines → IsDiskBut script owed here disk → owed position ≡ true → IsWriteAt script position start count pattern
    → ((p : ℕ) → owed p ≡ true → (owed' p ≡ true) ⊎ (p ≡ position))
    → IsDiskBut script owed' here (sectors_written start (pattern_sectors pattern count) disk)
installed script owed owed' position here start count pattern disk span end but is_owed w left =
    let size = length-pattern_sectors pattern count in
    let fits : start + length (pattern_sectors pattern count) ≤ length disk = omega (arith, size, but.whole, write_fits script position start count pattern w) in
    record {
      whole = length-sectors_written start (pattern_sectors pattern count) disk fits ∙ but.whole;
      others = λ sector none.
          elim (within_or_not start (length (pattern_sectors pattern count)) sector) [
            | inl inside ↦
                let inside' : IsWithin start count sector = (omega (arith, inside.0), omega (arith, inside.1, size)) in
                written_inside disk (pattern_sectors pattern count) start sector fits inside
                ∙ sym (wrote script position here start count pattern sector w (λ later second low high there clash. span.apart position later _ second is_owed low high (write_request script position start count pattern w) there clash) (span.before position is_owed) end inside')
            | inr outside ↦
                written_others disk (pattern_sectors pattern count) start sector fits outside
                ∙ but.others sector (λ awaited.
                elim (left awaited.position awaited.is_owed) [
                  | inl still ↦ none (record { position = awaited.position; request = awaited.request; is_owed = still; accepted = awaited.accepted; writes = awaited.writes; inside = awaited.inside })
                  | inr here_it_is ↦ outside (its_own script position start count pattern sector w awaited.position awaited.request here_it_is awaited.accepted awaited.inside)
                ])
          ];
    }
  where
    its_own : (script : Meant) (position start count : ℕ) (pattern : List ℕ) (sector : ℕ) → IsWriteAt script position start count pattern → (p : ℕ) (request : Request) → p ≡ position
        → accepted_at script p ≡ Some request → HasSector request sector → IsWithin start (length (pattern_sectors pattern count)) sector
    its_own script position start count pattern sector w p request at accepted inside =
        let both : Some request ≡ Some (record { start = start; count = count; writes = true }) = sym accepted ∙ ap (accepted_at script) at ∙ write_request script position start count pattern w in
        let same : request ≡ record { start = start; count = count; writes = true } = cc in
        let size = length-pattern_sectors pattern count in
        let P : Request → Type 0 = λ r. HasSector r sector in
        let there : HasSector (record { start = start; count = count; writes = true }) sector = subst P same inside in
        (there.0, omega (arith, there.1, size))

-- where nothing is owed the disk is that of a single thread
pub none_owed : (script : Meant) (owed : ℕ → Bool) (here : ℕ) (disk : List (List ℕ)) → IsDiskBut script owed here disk → ((p : ℕ) → owed p ≡ false) → disk ≡ (state_at script here).disk
none_owed script owed here disk but none =
    ext_get_or [] disk (state_at script here).disk (but.whole ∙ sym (state_disk script here))
    (λ sector within. but.others sector (λ awaited. let no = none awaited.position in let yes = awaited.is_owed in clash_of (owed awaited.position) no yes))
  where
    clash_of : (b : Bool) → b ≡ false → b ≡ true → ⊥
    clash_of b e f = cc
