use Rattle.std.proofs.Common.{◌≡◌}
use Rattle.polcert_optimum.proofs.Common.{value_of, AreGreatestValues}
use Rattle.polcert_optimum.proofs.best_values.BestValues.fill.Given as goal

-- the greatest values of the vectors so far
abbrev pub invariant-loop-next : goal.invariant-loop-next
invariant-loop-next g l = record {
  is : AreGreatestValues (g.C.Cells.table l.pair.cells.now) (value_of l.pair.vectors.now) l.pair.action l.pair.state l.next
      l.self.greatest.sums;
  same : l.self.totals ≡ l.fn.self.totals;
}
