use Rattle.polcert_optimum.proofs.Common.{value_of, IsGreatestExcess}
use Rattle.polcert_optimum.specs.Steps.Sums.{AreBestBefore}
use Rattle.polcert_optimum.proofs.raise.greatest_excess.Given as goal

abbrev pub invariant-loop-action : goal.invariant-loop-action
invariant-loop-action g l = record {
  greatest : IsGreatestExcess (g.C.Cells.table l.cells) (value_of l.vectors) l.action 0 l.greatest;
  totals : AreBestBefore (g.C.Cells.table l.cells) (value_of l.vectors) l.action 0 l.buffers.best.last l.buffers.best.totals;
}

abbrev pub invariant-loop-state : goal.invariant-loop-state
invariant-loop-state g l = record {
  greatest : IsGreatestExcess (g.C.Cells.table l.cells) (value_of l.vectors) l.action l.state l.greatest;
  totals : AreBestBefore (g.C.Cells.table l.cells) (value_of l.vectors) l.action l.state l.buffers.best.last l.buffers.best.totals;
}
