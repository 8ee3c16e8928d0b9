use Rattle.std.proofs.Common.{arith}
use Rattle.polcert_tables.proofs.FilledLaws as filled
use Rattle.polcert_tables.proofs.dense.DenseModelCells.o_row.Goals as goal

pub slice_bounds-result-end : goal.slice_bounds-result-end
slice_bounds-result-end c =
    let same = filled.same_counts _ _ c.self.view_is in
    let below = filled.row_end c.args.a c.args.e c.self.inside.actions c.self.inside.states c.self.inside.observations
    (omega (arith, c.requires.action, same.actions)) (omega (arith, c.requires.end, same.states)) in
    omega (arith, below, c.self.inside.observed_count, c.self.inside.observed.ok)
