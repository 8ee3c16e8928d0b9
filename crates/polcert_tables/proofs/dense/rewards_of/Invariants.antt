use Rattle.std.proofs.Common.{◌≡◌, ℕ, ◌<◌, ◌*◌, ◌/◌, ◌%◌, pos, get_or, length}
use Rattle.polcert_tables.proofs.Common.{observations_of, meaning}
use Rattle.polcert_tables.proofs.dense.rewards_of.Given as goal

abbrev pub invariant-loop-row : goal.invariant-loop-row
invariant-loop-row l =
    let columns = observations_of (meaning l.model) in
    record {
      size : length l.cells.items ≡ l.row * columns;
      each : (k : ℕ) → k < l.row * columns → get_or l.cells.items k (pos 0)
          ≡ (meaning l.model).r (k / columns / l.states / l.states) (k / columns / l.states % l.states) (k / columns % l.states)
          (k % columns);
    }
