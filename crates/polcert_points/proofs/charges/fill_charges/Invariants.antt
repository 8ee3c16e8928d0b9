use Rattle.polcert_policy.specs.Vectors.{value_of}
use Rattle.polcert_points.specs.Steps.PointSums.{AreLeastUntil}
use Rattle.polcert_points.proofs.charges.fill_charges.Given as goal

-- the charges by the points so far
abbrev pub invariant-loop-i : goal.invariant-loop-i
invariant-loop-i g l = AreLeastUntil (g.P.BeliefPoints.table l.points) (value_of l.vectors) l.i l.charges
