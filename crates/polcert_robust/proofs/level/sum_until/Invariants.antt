use Rattle.std.proofs.Common.{◌≡◌, ◌*◌, ◌≤◌}
use Rattle.polcert_cells.specs.Meaning.{sum_below}
use Rattle.polcert_robust.specs.Steps.Rows.{ends_until, listed_value, listed_weight}
use Rattle.polcert_robust.proofs.level.sum_until.Given as goal

abbrev pub invariant-loop-i : goal.invariant-loop-i
invariant-loop-i l = record {
  is : l.sum ≡ sum_below (ends_until l.row.by l.level (listed_weight l.row.weights.now) (listed_value l.row.values.now)) l.i;
  small : l.sum ≤ l.i * 30_000_000_000;
}
