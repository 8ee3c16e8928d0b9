use Rattle.std.proofs.Common.{◌≡◌, ◌-◌, ◌≤◌, pos, ◌*ℤ◌}
use Rattle.polcert_check.proofs.Common.{total_below, reached}
use Rattle.polcert_check.proofs.expected_reward.sum_over_observations.Given as goal

-- the sum so far
abbrev pub invariant-loop-observation : goal.invariant-loop-observation
invariant-loop-observation g l = record {
  sum : l.sum ≡ total_below (λ z. pos ((g.C.Cells.table l.cells).o l.a l.e z) *ℤ (g.C.Cells.table l.cells).r l.a l.s l.e z)
      (reached l.row l.at);
  within : reached l.row l.at ≤ (g.C.Cells.table l.cells).observations;
}

abbrev pub decreases-loop-observation : goal.decreases-loop-observation
decreases-loop-observation g l = (g.C.Cells.table l.cells).observations - reached l.row l.at
