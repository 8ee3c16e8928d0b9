use Rattle.std.proofs.Common.{◌-◌, ◌≤◌}
use Rattle.polcert_text.proofs.Common.{AreDigitsFrom}
use Rattle.polcert_text.proofs.numeral_ends.digits_end_until.Given as goal

abbrev pub invariant-loop-at : goal.invariant-loop-at
invariant-loop-at l = record {
  low : l.from ≤ l.at;
  high : l.at ≤ l.until;
  digits : AreDigitsFrom l.bytes l.from l.at;
}

abbrev pub decreases-loop-at : goal.decreases-loop-at
decreases-loop-at l = l.until - l.at
