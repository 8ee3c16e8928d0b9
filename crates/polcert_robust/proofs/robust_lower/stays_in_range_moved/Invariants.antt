use Rattle.std.proofs.Common.{ℕ, ◌<◌, pos, neg_ℤ}
use Rattle.std.specs.Prelude.{◌+ℤ◌}
use Rattle.polcert_policy.specs.Vectors.{IsInRange, value_of}
use Rattle.polcert_robust.specs.Steps.Sides.{turned}
use Rattle.polcert_robust.proofs.robust_lower.stays_in_range_moved.Given as goal

abbrev pub invariant-loop-n : goal.invariant-loop-n
invariant-loop-n l = (m t : ℕ) → m < l.n → t < l.vectors.states → IsInRange (turned l.side (value_of l.vectors m t) +ℤ neg_ℤ (pos l.by))

abbrev pub invariant-loop-s : goal.invariant-loop-s
invariant-loop-s l = record {
  nodes : (m t : ℕ) → m < l.n → t < l.vectors.states → IsInRange (turned l.side (value_of l.vectors m t) +ℤ neg_ℤ (pos l.by));
  states : (t : ℕ) → t < l.s → IsInRange (turned l.side (value_of l.vectors l.n t) +ℤ neg_ℤ (pos l.by));
}
