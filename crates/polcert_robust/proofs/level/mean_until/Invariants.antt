use Rattle.std.proofs.Common.{◌≡◌}
use Rattle.polcert_robust.specs.Steps.Rows.{ends_until, listed_value, listed_weight}
use Rattle.polcert_robust.specs.Worst.{mean}
use Rattle.polcert_robust.proofs.level.mean_until.Given as goal

abbrev pub invariant-loop-i : goal.invariant-loop-i
invariant-loop-i l = l.sum ≡ mean (ends_until l.row.by l.level (listed_weight l.row.weights.now) (listed_value l.row.values.now))
    (listed_value l.row.values.now) l.i
