use Rattle.polcert_check.specs.Horizon.{Controller, controller_of}
use Rattle.polcert_check.proofs.Sums.Scales.{scales}
use Rattle.polcert_robust.specs.Intervals.{around}
use Rattle.polcert_robust.proofs.RobustMoves.{least_lowering, ok_mapped}
use Rattle.polcert_robust.proofs.robust_lower.least_robust_constant.Goals as goal

pub invariant_of-input : goal.invariant_of-input
invariant_of-input g c = record {
  fits = c.requires.fits;
  is_proper_graph = c.nodes-nodes.ensures.proper;
  are_proper = c.nodes-vector_count.ensures.proper;
}

pub returns-clause-exact : goal.returns-clause-exact
returns-clause-exact g c =
    let t = g.C.Cells.table _ in
    let some = scales t (g.met.C.Cells.is_within_limits _) in
    let i = around t c.args.distance.t_by c.args.distance.o_by c.args.distance.r_by in
    let k : Controller = controller_of t c.args.graph.now c.args.vectors.now in
    ok_mapped _ _
    (least_lowering t _ _ _ _ _ some.0 some.1
    (g.met.C.Cells.is_proper _) c.nodes-nodes.ensures.proper c.requires.fits _)
    _ c.least_robust_of.ensures.least
