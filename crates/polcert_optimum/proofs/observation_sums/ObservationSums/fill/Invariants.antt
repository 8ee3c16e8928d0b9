use Rattle.std.proofs.Common.{◌-◌, ◌≤◌}
use Rattle.polcert_optimum.proofs.Common.{reached, value_of, AreValuesUntil}
use Rattle.polcert_optimum.proofs.observation_sums.ObservationSums.fill.Given as goal

-- the end states that are reached are added
abbrev pub invariant-loop-end : goal.invariant-loop-end
invariant-loop-end g l = record {
  sums : AreValuesUntil (g.C.Cells.table l.cells) (value_of l.pair.vectors.now l.next) l.pair.action l.pair.state (reached l.row l.at)
      l.self.sums;
  within : reached l.row l.at ≤ (g.C.Cells.table l.cells).states;
}

abbrev pub decreases-loop-end : goal.decreases-loop-end
decreases-loop-end g l = (g.C.Cells.table l.cells).states - reached l.row l.at
