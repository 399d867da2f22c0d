use Rattle.std.proofs.Common.{◌≡◌, ◌<◌, ◌^◌, take, true}
use Rattle.std.specs.List.{list_all}
use Rattle.line_text.specs.Numbers.{is_digit, decimal_value}
use Rattle.line_text.proofs.numbers.digits.Given as goal

abbrev pub invariant-loop-byte : goal.invariant-loop-byte
invariant-loop-byte l = record {
  value : l.number ≡ decimal_value (take l.byte-index l.word);
  small : l.number < 10 ^ l.byte-index;
  digits : list_all is_digit (take l.byte-index l.word) ≡ true;
}
