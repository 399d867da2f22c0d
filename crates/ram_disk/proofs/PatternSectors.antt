-- Sectors of a repeated pattern.
use Rattle.std.proofs.Common.{◌≡◌, ℕ, zero, suc, ◌+◌, ◌-◌, ◌*◌, ◌/◌, ◌%◌, ◌<◌, ◌≤◌, List, [], ◌∷◌, ◌++◌, length, get_or, take, drop, map, replicate, All, refl, sym, ap, ◌∙◌, length-drop, arith}
use Rattle.std.specs.List.{range_with_len, slice_index}
use Rattle.std.proofs.Math.Nat.{add-mul-mod_self_right, div-add-mod', mod-add-mod, mod-lt}
use Rattle.std.proofs.lemmas.List.{length-replicate, get_or-replicate, length-take-le, get_or-take, get_or-drop}
use Rattle.std.proofs.lemmas.List.Elements.{All-from_get_or, All-get_or, All-map}
use Rattle.std.proofs.lemmas.List.FromFn.{fill_by_all, map-range_with_len_more, length-map-range_with_len, get_or-map-range_with_len}
use Rattle.ram_disk.specs.declared.sector.TheConstants.{SECTOR_BYTES}
use Rattle.ram_disk.specs.Sector.{IsSector, bytes_of, filled_with}
use Rattle.ram_disk.specs.Pattern.{pattern_byte, pattern_bytes, pattern_sector, pattern_sectors}
use Rattle.ram_disk.proofs.SectorBytes.{bytes_of-push}

-- a pattern's sector, if a sector has this many bytes
abbrev sector_of : ℕ → List ℕ → ℕ → List ℕ
sector_of size pattern number = map (λ place. pattern_byte pattern (number * size + place)) (range_with_len 0 size)

-- ---- a sector of the tile

cut : (size : ℕ) (tile pattern : List ℕ) (number start : ℕ) → start ≡ (number * size) % length pattern → start + size ≤ length tile → ((k : ℕ) → k < length tile → slice_index tile k ≡ pattern_byte pattern k) → take size (drop start tile) ≡ sector_of size pattern number
cut size tile pattern number start at within fits =
    fill_by_all (λ place. pattern_byte pattern (number * size + place)) (take size (drop start tile)) size 0
    (length-take-le size (drop start tile) (omega (arith, length-drop start tile)))
    (λ k below.
    get_or-take size (drop start tile) k 0 below ∙ get_or-drop start tile k 0 ∙ fits (start + k) (omega arith)
    ∙ ap (slice_index pattern) (ap (λ s. (s + k) % length pattern) at ∙ mod-add-mod (number * size) (length pattern) k))

pub tile-pattern_sector : (tile pattern : List ℕ) (number : ℕ) → let start = (number * SECTOR_BYTES) % length pattern in start + SECTOR_BYTES ≤ length tile → ((k : ℕ) → k < length tile → slice_index tile k ≡ pattern_byte pattern k) → take (start + SECTOR_BYTES - start) (drop start tile) ≡ pattern_sector pattern number
unfolding pattern_sector
tile-pattern_sector tile pattern number within fits =
    let start = (number * SECTOR_BYTES) % length pattern in
    let size : start + SECTOR_BYTES - start ≡ SECTOR_BYTES = omega arith in
    ap (λ n. take n (drop start tile)) size ∙ cut SECTOR_BYTES tile pattern number start refl within fits

-- ---- one period later comes the same sector

map_same : (f g : ℕ → ℕ) → ((x : ℕ) → f x ≡ g x) → (xs : List ℕ) → map f xs ≡ map g xs
map_same f g same [] = refl
map_same f g same (x ∷ xs) = let h = same x in let t = map_same f g same xs in cc

later : (size : ℕ) (pattern : List ℕ) (less period : ℕ) → (period * size) % length pattern ≡ 0 → sector_of size pattern (less + period) ≡ sector_of size pattern less
later size pattern less period whole =
    let times = (period * size) / length pattern in
    let split = div-add-mod' (period * size) (length pattern) in
    map_same (λ place. pattern_byte pattern ((less + period) * size + place)) (λ place. pattern_byte pattern (less * size + place))
    (λ place.
    let e : (less + period) * size + place ≡ less * size + place + times * length pattern = omega (arith, split, whole) in
    ap (slice_index pattern) (ap (λ n. n % length pattern) e ∙ add-mul-mod_self_right (less * size + place) times (length pattern)))
    (range_with_len 0 size)

pub pattern_sector-period : (pattern : List ℕ) (number period : ℕ) → (period * SECTOR_BYTES) % length pattern ≡ 0 → period ≤ number → pattern_sector pattern number ≡ pattern_sector pattern (number - period)
unfolding pattern_sector
pattern_sector-period pattern number period whole within =
    let e : number ≡ number - period + period = omega arith in
    ap (sector_of SECTOR_BYTES pattern) e ∙ later SECTOR_BYTES pattern (number - period) period whole

-- ---- a pattern of one byte

only : (size : ℕ) (pattern : List ℕ) (byte number : ℕ) → 0 < length pattern → All (λ other. other ≡ byte) pattern → replicate size byte ≡ sector_of size pattern number
only size pattern byte number some same =
    fill_by_all (λ place. pattern_byte pattern (number * size + place)) (replicate size byte) size 0 (length-replicate size byte)
    (λ k below. get_or-replicate size k byte 0 below ∙ sym (same ((number * size + k) % length pattern) 0 (mod-lt (number * size + k) some)))

filled-pattern_sector : (pattern : List ℕ) (byte number : ℕ) → 0 < length pattern → All (λ other. other ≡ byte) pattern → filled_with byte ≡ pattern_sector pattern number
unfolding filled_with pattern_sector
filled-pattern_sector pattern byte number some same = only SECTOR_BYTES pattern byte number some same

pub replicate-pattern_sectors : (pattern : List ℕ) (byte count : ℕ) → 0 < length pattern → All (λ other. other ≡ byte) pattern → replicate count (filled_with byte) ≡ pattern_sectors pattern count
replicate-pattern_sectors pattern byte count some same =
    fill_by_all (pattern_sector pattern) (replicate count (filled_with byte)) count [] (length-replicate count (filled_with byte))
    (λ k below. get_or-replicate count k (filled_with byte) [] below ∙ filled-pattern_sector pattern byte k some same)

-- ---- sectors made one after another

pub pattern_sectors-push : (pattern : List ℕ) (count : ℕ) → pattern_sectors pattern (count + 1) ≡ pattern_sectors pattern count ++ pattern_sector pattern count ∷ []
pattern_sectors-push pattern count = map-range_with_len_more (pattern_sector pattern) 0 count count (omega arith)

pub length-pattern_sectors : (pattern : List ℕ) (count : ℕ) → length (pattern_sectors pattern count) ≡ count
length-pattern_sectors pattern count = length-map-range_with_len (pattern_sector pattern) 0 count

pub get_or-pattern_sectors : (pattern : List ℕ) (count number : ℕ) (other : List ℕ) → number < count → get_or (pattern_sectors pattern count) number other ≡ pattern_sector pattern number
get_or-pattern_sectors pattern count number other below = get_or-map-range_with_len (pattern_sector pattern) 0 count number number other below (omega arith)

byte-pattern_byte : (pattern : List ℕ) (place : ℕ) → All (λ byte. byte < 256) pattern → 0 < length pattern → pattern_byte pattern place < 256
byte-pattern_byte pattern place small some = All-get_or (λ byte. byte < 256) pattern (place % length pattern) 0 (mod-lt place some) small

IsSector-pattern_sector : (pattern : List ℕ) (number : ℕ) → All (λ byte. byte < 256) pattern → 0 < length pattern → IsSector (pattern_sector pattern number)
unfolding pattern_sector
IsSector-pattern_sector pattern number small some = (
  length-map-range_with_len (λ place. pattern_byte pattern (number * SECTOR_BYTES + place)) 0 SECTOR_BYTES,
  All-map (λ byte. byte < 256) (λ place. pattern_byte pattern (number * SECTOR_BYTES + place)) (range_with_len 0 SECTOR_BYTES)
      (All-from_get_or (λ place. pattern_byte pattern (number * SECTOR_BYTES + place) < 256) (range_with_len 0 SECTOR_BYTES) 0
      (λ i below. byte-pattern_byte pattern (number * SECTOR_BYTES + get_or (range_with_len 0 SECTOR_BYTES) i 0) small some)),
)

pub All-pattern_sectors : (pattern : List ℕ) (count : ℕ) → All (λ byte. byte < 256) pattern → 0 < length pattern → All IsSector (pattern_sectors pattern count)
All-pattern_sectors pattern count small some =
    All-from_get_or IsSector (pattern_sectors pattern count) []
    (λ i below.
    let size = length-pattern_sectors pattern count in
    rw (get_or-pattern_sectors pattern count i [] (omega arith)) (IsSector-pattern_sector pattern i small some))

-- ---- the bytes of these sectors

map-range_with_len-append : (f : ℕ → ℕ) (a m n : ℕ) → map f (range_with_len a (m + n)) ≡ map f (range_with_len a m) ++ map f (range_with_len (a + m) n)
map-range_with_len-append f a zero n =
    let e : zero + n ≡ n = omega arith in
    let s : a ≡ a + zero = omega arith in
    ap (λ k. map f (range_with_len a k)) e ∙ ap (λ b. map f (range_with_len b n)) s
map-range_with_len-append f a (suc m) n =
    let e : suc m + n ≡ suc (m + n) = omega arith in
    let s : a + 1 + m ≡ a + suc m = omega arith in
    ap (λ k. map f (range_with_len a k)) e
    ∙ ap (λ t. f a ∷ t) (map-range_with_len-append f (a + 1) m n ∙ ap (λ b. map f (range_with_len (a + 1) m) ++ map f (range_with_len b n)) s)

map-range_with_len-shift : (f : ℕ → ℕ) (a b n : ℕ) → map f (range_with_len (a + b) n) ≡ map (λ k. f (a + k)) (range_with_len b n)
map-range_with_len-shift f a b zero = refl
map-range_with_len-shift f a b (suc n) =
    let s : a + b + 1 ≡ a + (b + 1) = omega arith in
    ap (λ t. f (a + b) ∷ t) (ap (λ c. map f (range_with_len c n)) s ∙ map-range_with_len-shift f a (b + 1) n)

joined : (size : ℕ) (pattern : List ℕ) (count : ℕ) → bytes_of (map (sector_of size pattern) (range_with_len 0 count)) ≡ pattern_bytes pattern (count * size)
joined size pattern zero =
    let e : 0 ≡ zero * size = omega arith in
    ap (λ n. map (pattern_byte pattern) (range_with_len 0 n)) e
joined size pattern (suc count) =
    let n : suc count ≡ count + 1 = omega arith in
    let whole : count * size + size ≡ suc count * size = omega arith in
    let start : count * size + 0 ≡ 0 + count * size = omega arith in
    ap (λ k. bytes_of (map (sector_of size pattern) (range_with_len 0 k))) n
    ∙ ap bytes_of (map-range_with_len_more (sector_of size pattern) 0 count count (omega arith))
    ∙ bytes_of-push (map (sector_of size pattern) (range_with_len 0 count)) (sector_of size pattern count)
    ∙ ap (λ before. before ++ sector_of size pattern count) (joined size pattern count)
    ∙ ap (λ sector. pattern_bytes pattern (count * size) ++ sector)
    (sym (map-range_with_len-shift (pattern_byte pattern) (count * size) 0 size) ∙ ap (λ s. map (pattern_byte pattern) (range_with_len s size)) start)
    ∙ sym (map-range_with_len-append (pattern_byte pattern) 0 (count * size) size)
    ∙ ap (pattern_bytes pattern) whole

pub bytes_of-pattern_sectors : (pattern : List ℕ) (count : ℕ) → bytes_of (pattern_sectors pattern count) ≡ pattern_bytes pattern (count * SECTOR_BYTES)
unfolding pattern_sector
bytes_of-pattern_sectors pattern count = joined SECTOR_BYTES pattern count
