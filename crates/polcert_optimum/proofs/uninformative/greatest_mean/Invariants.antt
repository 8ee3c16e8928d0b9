use Rattle.std.proofs.Common.{◌≡◌, ◌*◌, ◌≤◌, unsigned_abs}
use Rattle.polcert_optimum.proofs.Common.{largest, value_of, greatest_below}
use Rattle.polcert_optimum.specs.Steps.Sums.{mean_value}
use Rattle.polcert_optimum.proofs.uninformative.greatest_mean.Given as goal

-- the greatest so far
abbrev pub invariant-loop-next : goal.invariant-loop-next
invariant-loop-next g l = record {
  is : l.greatest ≡ greatest_below (λ b. mean_value (g.C.Cells.table l.pair.cells.now) (value_of l.pair.vectors.now b) l.pair.action
      l.pair.state) l.next;
  small : unsigned_abs l.greatest ≤ (g.C.Cells.table l.pair.cells.now).t_scale * largest;
}
