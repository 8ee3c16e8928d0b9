use Rattle.std.proofs.Common.{ℕ, ◌<◌}
use Rattle.polcert_optimum.proofs.Common.{value_of, IsInformed}
use Rattle.polcert_optimum.specs.Steps.Sums.{AreBestBefore}
use Rattle.polcert_optimum.proofs.verdict.first_excess.Given as goal

abbrev pub invariant-loop-action : goal.invariant-loop-action
invariant-loop-action g l = record {
  actions : (b u : ℕ) → b < l.action → u < (g.C.Cells.table l.cells).states → IsInformed (g.C.Cells.table l.cells) (value_of l.vectors) b u;
  totals : AreBestBefore (g.C.Cells.table l.cells) (value_of l.vectors) l.action 0 l.buffers.best.last l.buffers.best.totals;
}

abbrev pub invariant-loop-state : goal.invariant-loop-state
invariant-loop-state g l = record {
  actions : (b u : ℕ) → b < l.action → u < (g.C.Cells.table l.cells).states → IsInformed (g.C.Cells.table l.cells) (value_of l.vectors) b u;
  states : (u : ℕ) → u < l.state → IsInformed (g.C.Cells.table l.cells) (value_of l.vectors) l.action u;
  totals : AreBestBefore (g.C.Cells.table l.cells) (value_of l.vectors) l.action l.state l.buffers.best.last l.buffers.best.totals;
}
