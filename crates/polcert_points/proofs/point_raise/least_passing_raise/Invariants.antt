use Rattle.std.proofs.Common.{ℕ, ◌-◌, ◌<◌, ◌≤◌}
use Rattle.polcert_policy.specs.Vectors.{value_of}
use Rattle.polcert_points.specs.RaisedPoints.{PassRaised}
use Rattle.polcert_points.proofs.point_raise.least_passing_raise.Given as goal

-- no constant below `least` passes, and `passing` does
abbrev pub invariant-loop-least : goal.invariant-loop-least
invariant-loop-least g l = record {
  between : l.least ≤ l.passing;
  below : l.passing ≤ l.most;
  passes : PassRaised (g.C.Cells.table l.cells) (value_of l.vectors) l.points l.passing;
  fails : (d : ℕ) → d < l.least → PassRaised (g.C.Cells.table l.cells) (value_of l.vectors) l.points d → ⊥;
}

abbrev pub decreases-loop-least : goal.decreases-loop-least
decreases-loop-least g l = l.passing - l.least
