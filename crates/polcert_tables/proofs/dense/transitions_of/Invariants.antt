use Rattle.std.proofs.Common.{◌≡◌, ℕ, ◌<◌, ◌/◌, ◌%◌, get_or, length}
use Rattle.polcert_tables.proofs.Common.{meaning}
use Rattle.polcert_tables.proofs.dense.transitions_of.Given as goal

abbrev pub invariant-loop-place : goal.invariant-loop-place
invariant-loop-place l = record {
  size : length l.cells.items ≡ l.place;
  each : (k : ℕ) → k < l.place → get_or l.cells.items k 0
      ≡ (meaning l.model).t (k / l.states / l.states) (k / l.states % l.states) (k % l.states);
}
