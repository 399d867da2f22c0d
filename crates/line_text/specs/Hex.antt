-- Bytes as a word spells them.
use Rattle.std.specs.Prelude.{ℕ, ◌*◌, ◌&&◌, nat_le, if◌then◌else◌, List, length, Result, Ok, Err}
use Rattle.hex.specs.Hex.{decode_of}
use Rattle.hex.specs.declared.error.FromHexError.{FromHexError}
use Rattle.line_text.specs.declared.fault.Why.{Why}
use Rattle.line_text.specs.declared.fault.Why.TheVariants.{BadHex}

-- the bytes that hexadecimal digits spell, if they spell any
abbrev pub spelled_bytes : Result (List ℕ) FromHexError → Result (List ℕ) Why
spelled_bytes (Ok bytes) = Ok bytes
spelled_bytes (Err e) = Err BadHex

-- the 1 to `most` bytes that a word spells, each by two hexadecimal digits of either case
abbrev pub hex_bytes : ℕ → List ℕ → Result (List ℕ) Why
hex_bytes most word = if nat_le 2 (length word) && nat_le (length word) (2 * most) then spelled_bytes (decode_of word) else Err BadHex
