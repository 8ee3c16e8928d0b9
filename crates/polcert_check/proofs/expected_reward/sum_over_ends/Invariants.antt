use Rattle.std.proofs.Common.{◌≡◌, ◌-◌, ◌≤◌, pos, ◌*ℤ◌}
use Rattle.polcert_check.proofs.Common.{IsEndRun, total_below, reward_at_end, reached}
use Rattle.std.specs.Option.{ForSome}
use Rattle.polcert_check.proofs.expected_reward.sum_over_ends.Given as goal

-- the sum so far
abbrev pub invariant-loop-end : goal.invariant-loop-end
invariant-loop-end g l = record {
  sum : l.sum ≡ total_below (λ e. pos ((g.C.Cells.table l.cells).t l.a l.s e) *ℤ reward_at_end (g.C.Cells.table l.cells) l.a l.s e)
      (reached l.row l.at);
  within : reached l.row l.at ≤ (g.C.Cells.table l.cells).states;
  run : ForSome l.run (IsEndRun (g.C.Cells.table l.cells) l.a l.s);
}

abbrev pub decreases-loop-end : goal.decreases-loop-end
decreases-loop-end g l = (g.C.Cells.table l.cells).states - reached l.row l.at
