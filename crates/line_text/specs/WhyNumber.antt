-- The number of each reason.
use Rattle.std.specs.Prelude.{ℕ}
use Rattle.line_text.specs.declared.fault.Why.{Why}
use Rattle.line_text.specs.declared.fault.Why.TheVariants.{NotUtf8, NoVersion, NoDisk, UnknownWord, MissingWord, ExtraWord, BadNumber, OutOfRange, BadHex, TooLong, NoWorld}

abbrev pub why_number : Why → ℕ
why_number NotUtf8 = 1
why_number NoVersion = 2
why_number NoDisk = 3
why_number UnknownWord = 4
why_number MissingWord = 5
why_number ExtraWord = 6
why_number BadNumber = 7
why_number OutOfRange = 8
why_number BadHex = 9
why_number TooLong = 10
why_number NoWorld = 11
