use Rattle.std.proofs.Common.{◌≡◌, ◌-◌, ◌≤◌, pos, ◌*ℤ◌}
use Rattle.polcert_optimum.proofs.Common.{reached, total_below, value_of}
use Rattle.polcert_optimum.proofs.uninformative.mean_value.Given as goal

-- the sum so far
abbrev pub invariant-loop-end : goal.invariant-loop-end
invariant-loop-end g l = record {
  sum : l.sum ≡ total_below (λ e. pos ((g.C.Cells.table l.cells).t l.pair.action l.pair.state e) *ℤ value_of l.pair.vectors.now l.next e)
      (reached l.row l.at);
  within : reached l.row l.at ≤ (g.C.Cells.table l.cells).states;
}

abbrev pub decreases-loop-end : goal.decreases-loop-end
decreases-loop-end g l = (g.C.Cells.table l.cells).states - reached l.row l.at
