use Rattle.std.proofs.Common.{◌-◌, ◌*◌, ◌≤◌}
use Rattle.polcert_cells.specs.BorrowedRows.{reached}
use Rattle.polcert_robust.specs.Steps.Holding.{HoldsRow}
use Rattle.polcert_robust.specs.Steps.Pairs.{IsEndMean, cells_of, most_worth, near_controller, near_table}
use Rattle.polcert_robust.proofs.pair.gather_ends.Given as goal

-- the end states so far
abbrev pub invariant-loop-end : goal.invariant-loop-end
invariant-loop-end g l = record {
  held : HoldsRow (IsEndMean (near_table l.pair.input.now) (near_controller l.pair.input.now) l.pair.n l.pair.s)
      ((cells_of l.pair.input.now).t ((near_controller l.pair.input.now).action l.pair.n) l.pair.s) (reached l.row l.at)
      ((cells_of l.pair.input.now).o_scale * most_worth) l.weights l.values l.count;
  within : reached l.row l.at ≤ (cells_of l.pair.input.now).states;
}

abbrev pub decreases-loop-end : goal.decreases-loop-end
decreases-loop-end g l = (cells_of l.pair.input.now).states - reached l.row l.at
