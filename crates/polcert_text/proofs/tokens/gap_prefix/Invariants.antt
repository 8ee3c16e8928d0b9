use Rattle.std.proofs.Common.{◌≡◌, ◌-◌, ◌≤◌, length, take}
use Rattle.polcert_text.proofs.Common.{gap_through, Ended}
use Rattle.polcert_text.proofs.tokens.gap_prefix.Given as goal

abbrev pub invariant-loop-at : goal.invariant-loop-at
invariant-loop-at l = record {
  high : l.at ≤ length l.bytes;
  read : gap_through l.fn.gap (take l.at l.bytes) ≡ l.gap;
  not_ended : l.gap ≡ Ended → ⊥;
}

abbrev pub decreases-loop-at : goal.decreases-loop-at
decreases-loop-at l = length l.bytes - l.at
