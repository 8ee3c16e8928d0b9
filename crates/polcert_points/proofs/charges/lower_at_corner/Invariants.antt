use Rattle.std.proofs.Common.{◌≡◌, ◌⊎◌, ℕ, ◌<◌, ◌≤◌}
use Rattle.std.specs.Int.{int_min}
use Rattle.polcert_points.specs.PointTable.{charge_at}
use Rattle.polcert_points.proofs.charges.lower_at_corner.Given as goal

-- the charges at the state are lowered for the actions so far
abbrev pub invariant-loop-a : goal.invariant-loop-a
invariant-loop-a g l = record {
  lowered : (b : ℕ) → b < l.a → charge_at (g.P.BeliefPoints.table l.points) l.charges b l.s
      ≡ int_min (charge_at (g.P.BeliefPoints.table l.points) l.fn.charges b l.s) ((g.P.BeliefPoints.table l.points).points.value l.i b);
  others : (b u : ℕ) → u < (g.P.BeliefPoints.table l.points).states → (l.a ≤ b) ⊎ (u ≡ l.s → ⊥)
      → charge_at (g.P.BeliefPoints.table l.points) l.charges b u ≡ charge_at (g.P.BeliefPoints.table l.points) l.fn.charges b u;
}
