use Rattle.std.proofs.Common.{◌≡◌, ◌-◌, ◌≤◌, length, take, drop}
use Rattle.polcert_text.proofs.Common.{list_any, AreDigitsFrom, is_nonzero}
use Rattle.polcert_text.proofs.front_numerals.long_tail.Given as goal

abbrev pub invariant-loop-end : goal.invariant-loop-end
invariant-loop-end l = record {
  low : l.from ≤ l.end;
  high : l.end ≤ length l.bytes;
  digits : AreDigitsFrom l.bytes l.from l.end;
  is_inexact : l.is_inexact ≡ list_any is_nonzero (take (l.end - l.from) (drop l.from l.bytes));
}

abbrev pub decreases-loop-end : goal.decreases-loop-end
decreases-loop-end l = length l.bytes - l.end
