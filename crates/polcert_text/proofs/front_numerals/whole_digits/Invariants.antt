use Rattle.std.proofs.Common.{◌≡◌, ◌-◌, ◌^◌, ◌<◌, ◌≤◌, take}
use Rattle.polcert_text.proofs.Common.{digits_value, AreDigitsFrom}
use Rattle.polcert_text.proofs.front_numerals.whole_digits.Given as goal

abbrev pub invariant-loop-at : goal.invariant-loop-at
invariant-loop-at l = record {
  within : l.at ≤ 7;
  digits : AreDigitsFrom l.bytes 0 l.at;
  value : l.number ≡ digits_value 10 (take l.at l.bytes);
  few : l.number < 10 ^ l.at;
}

abbrev pub decreases-loop-at : goal.decreases-loop-at
decreases-loop-at l = 7 - l.at
