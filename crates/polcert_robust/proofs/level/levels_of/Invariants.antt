use Rattle.std.proofs.Common.{◌≤◌, ◌<ℤ◌, ◌≤ℤ◌, pos, neg_ℤ, ◌-ℤ◌, unsigned_abs}
use Rattle.polcert_cells.specs.Meaning.{sum_below}
use Rattle.polcert_robust.specs.Steps.Rows.{ends_until, listed_value, listed_weight}
use Rattle.polcert_robust.proofs.level.levels_of.Given as goal

abbrev pub invariant-loop-value : goal.invariant-loop-value
invariant-loop-value l = record {
  order : l.low <ℤ l.high;
  from : sum_below (ends_until l.row.by l.low (listed_weight l.row.weights.now) (listed_value l.row.values.now)) l.row.count ≤ l.row.scale;
  to : l.row.scale ≤ sum_below (ends_until l.row.by l.high (listed_weight l.row.weights.now) (listed_value l.row.values.now)) l.row.count;
  least : (neg_ℤ (pos l.row.bound) -ℤ pos 1) ≤ℤ l.low;
  most : l.high ≤ℤ pos l.row.bound;
}

abbrev pub decreases-loop-value : goal.decreases-loop-value
decreases-loop-value l = unsigned_abs (l.high -ℤ l.low)
