use Rattle.std.proofs.Common.{◌≡◌, ◌-◌, ◌≤◌}
use Rattle.polcert_cells.specs.BorrowedRows.{reached}
use Rattle.polcert_check.specs.Steps.Factored.{IsLeastOf, Misses}
use Rattle.polcert_robust.specs.Worst.{least_step_worth}
use Rattle.polcert_robust.specs.Steps.Holding.{HoldsRow}
use Rattle.polcert_robust.specs.Steps.Pairs.{cells_of, most_worth, near_controller, near_table}
use Rattle.polcert_robust.proofs.pair.gather_observations.Given as goal

-- the weights so far, and the least observation so far that has no successor
abbrev pub invariant-loop-observation : goal.invariant-loop-observation
invariant-loop-observation g l = record {
  held : HoldsRow (λ z v. v ≡ least_step_worth (near_table l.end.pair.now.input.now) (near_controller l.end.pair.now.input.now)
      l.end.pair.now.n l.end.pair.now.s l.end.e z)
      ((cells_of l.end.pair.now.input.now).o ((near_controller l.end.pair.now.input.now).action l.end.pair.now.n) l.end.e)
      (reached l.row l.at) most_worth l.weights
      l.values l.count;
  least : IsLeastOf (Misses (near_controller l.end.pair.now.input.now) l.end.pair.now.n l.end.e (reached l.row l.at)) l.missing;
  within : reached l.row l.at ≤ (cells_of l.end.pair.now.input.now).observations;
}

abbrev pub decreases-loop-observation : goal.decreases-loop-observation
decreases-loop-observation g l = (cells_of l.end.pair.now.input.now).observations - reached l.row l.at
