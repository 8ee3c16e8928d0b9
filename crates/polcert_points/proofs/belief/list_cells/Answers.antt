use Rattle.std.proofs.Common.{arith, refl, slice_index}
use Rattle.polcert_points.proofs.belief.list_cells.Goals as goal

pub loop-s-preserved : goal.loop-s-preserved
loop-s-preserved c = record {
  row = c.add_cell-place.ensures.row (slice_index c.args.weights.now) refl c.loop-s.invariant.row;
  within = omega (arith, c.add_cell-place.ensures.within, c.loop-s.invariant.within);
}
