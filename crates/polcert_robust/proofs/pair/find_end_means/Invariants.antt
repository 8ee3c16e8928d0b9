use Rattle.std.proofs.Common.{◌-◌, ◌≤◌}
use Rattle.polcert_cells.specs.BorrowedRows.{reached}
use Rattle.polcert_check.specs.Steps.Factored.{IsLeastOf}
use Rattle.polcert_check.specs.Steps.Values.{IsMissedBefore}
use Rattle.polcert_robust.specs.Steps.EndMeans.{AreKept, AreReady}
use Rattle.polcert_robust.specs.Steps.Pairs.{cells_of, near_controller, near_table}
use Rattle.polcert_robust.proofs.pair.find_end_means.Given as goal

-- the end states so far, and the least observation so far that has no successor
abbrev pub invariant-loop-end : goal.invariant-loop-end
invariant-loop-end g l = record {
  kept : AreKept (near_table l.pair.input.now) (near_controller l.pair.input.now) l.pair.n l.buffers.ends;
  ready : AreReady (near_table l.pair.input.now) (near_controller l.pair.input.now) l.pair.n l.pair.s (reached l.row l.at) l.buffers.ends;
  least : IsLeastOf (IsMissedBefore (near_controller l.pair.input.now) l.pair.n l.pair.s (reached l.row l.at)) l.missing;
  within : reached l.row l.at ≤ (cells_of l.pair.input.now).states;
}

abbrev pub decreases-loop-end : goal.decreases-loop-end
decreases-loop-end g l = (cells_of l.pair.input.now).states - reached l.row l.at
