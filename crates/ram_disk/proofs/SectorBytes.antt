-- The bytes of sectors laid end to end.
use Rattle.std.proofs.Common.{◌≡◌, ℕ, zero, suc, ◌+◌, ◌*◌, ◌<◌, ◌≤◌, List, [], ◌∷◌, ◌++◌, length, get_or, take, drop, replicate, All, refl, sym, ap, ◌∙◌, append_assoc, length-append, length-drop, arith}
use Rattle.std.proofs.lemmas.List.{append-nil, length-replicate, replicate-append-replicate, take_at, drop_at, take-append-drop, take_more, length-take-le}
use Rattle.std.proofs.lemmas.List.Elements.{All-head, All-tail, All-take, All-drop, All-replicate}
use Rattle.ram_disk.specs.declared.sector.TheConstants.{SECTOR_BYTES}
use Rattle.ram_disk.specs.Sector.{IsSector, filled_with, bytes_of}
use Rattle.ram_disk.specs.Disk.{sectors_read, sectors_written}

-- a sector of one byte is a sector
pub IsSector-filled_with : (byte : ℕ) → byte < 256 → IsSector (filled_with byte)
unfolding filled_with
IsSector-filled_with byte small = (length-replicate 512 byte, All-replicate (λ b. b < 256) 512 byte small)

pub bytes_of-append : (sectors others : List (List ℕ)) → bytes_of (sectors ++ others) ≡ bytes_of sectors ++ bytes_of others
bytes_of-append [] others = refl
bytes_of-append (sector ∷ sectors) others =
    ap (λ bytes. sector ++ bytes) (bytes_of-append sectors others) ∙ sym (append_assoc sector (bytes_of sectors) (bytes_of others))

pub bytes_of-push : (sectors : List (List ℕ)) (sector : List ℕ) → bytes_of (sectors ++ sector ∷ []) ≡ bytes_of sectors ++ sector
bytes_of-push sectors sector = bytes_of-append sectors (sector ∷ []) ∙ ap (λ bytes. bytes_of sectors ++ bytes) (append-nil sector)

-- the bytes of the sectors so far, and of one sector more
pub bytes_of-more : (sectors : List (List ℕ)) (index : ℕ) (sector : List ℕ) → index < length sectors → sector ≡ get_or sectors index sector → bytes_of (take (index + 1) sectors) ≡ bytes_of (take index sectors) ++ sector
bytes_of-more sectors index sector within is =
    ap bytes_of (take_more sectors index sector within ∙ ap (λ s. take index sectors ++ s ∷ []) (sym is)) ∙ bytes_of-push (take index sectors) sector

pub length-bytes_of : (sectors : List (List ℕ)) → All IsSector sectors → length (bytes_of sectors) ≡ length sectors * SECTOR_BYTES
length-bytes_of [] whole = refl
length-bytes_of (sector ∷ sectors) whole =
    let first = All-head IsSector sector sectors whole in
    let rest = length-bytes_of sectors (All-tail IsSector sector sectors whole) in
    omega (arith, first.0, rest, length-append sector (bytes_of sectors))

-- the first sectors hold the first bytes, and the sectors after them the bytes after them
pub bytes_of-take : (count : ℕ) (sectors : List (List ℕ)) → All IsSector sectors → count ≤ length sectors → bytes_of (take count sectors) ≡ take (count * SECTOR_BYTES) (bytes_of sectors)
bytes_of-take count sectors whole within =
    let front = length-bytes_of (take count sectors) (All-take IsSector count sectors whole) in
    let size : length (bytes_of (take count sectors)) ≡ count * SECTOR_BYTES = front ∙ ap (λ n. n * SECTOR_BYTES) (length-take-le count sectors within) in
    sym (take_at (bytes_of (take count sectors)) (bytes_of (drop count sectors)) (count * SECTOR_BYTES) size)
    ∙ ap (take (count * SECTOR_BYTES)) (sym (bytes_of-append (take count sectors) (drop count sectors)) ∙ ap bytes_of (take-append-drop count sectors))

pub bytes_of-drop : (count : ℕ) (sectors : List (List ℕ)) → All IsSector sectors → count ≤ length sectors → bytes_of (drop count sectors) ≡ drop (count * SECTOR_BYTES) (bytes_of sectors)
bytes_of-drop count sectors whole within =
    let front = length-bytes_of (take count sectors) (All-take IsSector count sectors whole) in
    let size : length (bytes_of (take count sectors)) ≡ count * SECTOR_BYTES = front ∙ ap (λ n. n * SECTOR_BYTES) (length-take-le count sectors within) in
    sym (drop_at (bytes_of (take count sectors)) (bytes_of (drop count sectors)) (count * SECTOR_BYTES) size)
    ∙ ap (drop (count * SECTOR_BYTES)) (sym (bytes_of-append (take count sectors) (drop count sectors)) ∙ ap bytes_of (take-append-drop count sectors))

-- a read of sectors is a read of their bytes
pub bytes_of-sectors_read : (disk : List (List ℕ)) (start count : ℕ) → All IsSector disk → start + count ≤ length disk → bytes_of (sectors_read start count disk) ≡ take (count * SECTOR_BYTES) (drop (start * SECTOR_BYTES) (bytes_of disk))
bytes_of-sectors_read disk start count whole within =
    bytes_of-take count (drop start disk) (All-drop IsSector start disk whole) (omega (arith, length-drop start disk))
    ∙ ap (take (count * SECTOR_BYTES)) (bytes_of-drop start disk whole (omega arith))

-- a write of sectors is a write of their bytes
pub bytes_of-sectors_written : (disk sectors : List (List ℕ)) (start : ℕ) → All IsSector disk → start + length sectors ≤ length disk → bytes_of (sectors_written start sectors disk) ≡ take (start * SECTOR_BYTES) (bytes_of disk) ++ bytes_of sectors ++ drop ((start + length sectors) * SECTOR_BYTES) (bytes_of disk)
bytes_of-sectors_written disk sectors start whole within =
    let front = bytes_of-take start disk whole (omega arith) in
    let rear = bytes_of-drop (start + length sectors) disk whole within in
    bytes_of-append (take start disk ++ sectors) (drop (start + length sectors) disk)
    ∙ ap (λ bytes. bytes ++ bytes_of (drop (start + length sectors) disk)) (bytes_of-append (take start disk) sectors ∙ ap (λ bytes. bytes ++ bytes_of sectors) front)
    ∙ ap (λ bytes. take (start * SECTOR_BYTES) (bytes_of disk) ++ bytes_of sectors ++ bytes) rear

equal_parts : (size count byte : ℕ) → bytes_of (replicate count (replicate size byte)) ≡ replicate (count * size) byte
equal_parts size zero byte =
    let none : 0 ≡ zero * size = omega arith in
    ap (λ n. replicate n byte) none
equal_parts size (suc count) byte =
    let all : size + count * size ≡ suc count * size = omega arith in
    ap (λ bytes. replicate size byte ++ bytes) (equal_parts size count byte)
    ∙ replicate-append-replicate size (count * size) byte
    ∙ ap (λ n. replicate n byte) all

-- sectors of one byte are this many of that byte
pub bytes_of-replicate-filled_with : (count byte : ℕ) → bytes_of (replicate count (filled_with byte)) ≡ replicate (count * SECTOR_BYTES) byte
unfolding filled_with
bytes_of-replicate-filled_with count byte = equal_parts SECTOR_BYTES count byte
