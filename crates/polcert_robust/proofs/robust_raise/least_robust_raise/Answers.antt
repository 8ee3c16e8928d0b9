use Rattle.std.proofs.Common.{◌≡◌, to_z, of_z, w64, arith}
use Rattle.polcert_check.specs.Horizon.{Controller, controller_of}
use Rattle.polcert_check.proofs.Sums.Scales.{scales}
use Rattle.polcert_robust.specs.Intervals.{around}
use Rattle.polcert_robust.proofs.RobustMoves.{least_raise_is, least_raising, not_raised_is}
use Rattle.polcert_robust.proofs.robust_raise.least_robust_raise.Goals as goal

pub invariant_of-input : goal.invariant_of-input
invariant_of-input g c = record {
  fits = c.requires.fits;
  is_proper_graph = c.nodes-nodes.ensures.proper;
  are_proper = c.nodes-vector_count.ensures.proper;
}

pub returns-in-Ok : goal.returns-in-Ok
returns-in-Ok g c =
    let t = g.C.Cells.table _ in
    let some = scales t (g.met.C.Cells.is_within_limits _) in
    let i = around t _ c.args.distance.o_by c.args.distance.r_by in
    let k : Controller = controller_of t c.args.graph.now c.args.vectors.now in
    let is : to_z w64 (of_z w64 c.in-Ok.by) ≡ c.in-Ok.by = grind arith in
    let least = least_raise_is i k _ _ c.in-Ok.ensures.least in
    record {
      least = rw is least;
      exact = rw is (least_raising t _ _ _ _ _ some.0 some.1 (g.met.C.Cells.is_proper _) c.nodes-nodes.ensures.proper c.requires.fits _ _
          least);
      refused = tt;
    }

pub returns-in-Err : goal.returns-in-Err
returns-in-Err g c =
    let t = g.C.Cells.table _ in
    let i = around t _ _ _ in
    let k = controller_of t c.args.graph.now c.args.vectors.now in
    record {
      least = tt;
      exact = tt;
      refused = rw c.robust_raise_fault.ensures (not_raised_is i k _ _ c.in-Err.ensures.refused);
    }
