use Rattle.std.proofs.Common.{rules}
use Rattle.std.proofs.lemmas.Result.{err_from_is_err_and}
use Rattle.polcert_check.specs.Horizon.{controller_of}
use Rattle.polcert_check.proofs.Lowerings.Least.{negated}
use Rattle.polcert_check.proofs.Sums.Scales.{scales}
use Rattle.polcert_robust.specs.Intervals.{around}
use Rattle.polcert_robust.proofs.RobustMoves.{lowered_passes, why_not_lowered}
use Rattle.polcert_robust.proofs.robust_lower.lowered_robustly.Goals as goal

pub returns-clause-lowered : goal.returns-clause-lowered
returns-clause-lowered g c =
    let t = g.C.Cells.table _ in
    let some = scales t (g.met.C.Cells.is_within_limits _) in
    let least = c.in_ok-by.ensures.exact in
    record {
      least = search rules;
      shifted = search rules;
      fits_still = search rules;
      passes = lowered_passes t _ _ _ _ _ some.0
          some.1 (g.met.C.Cells.is_proper _) c.nodes-nodes.ensures.proper c.requires.fits c.in_ok-lowered.lowered _
          least.2.0
          (λ n s nl sl. cc (c.in_ok-lowered.ensures.values n s nl sl, negated _ c.nodes-vector_count.ensures.proper _ least.3 _ least.1));
    }

pub returns-in_err-by-clause-not_lowered : goal.returns-in_err-by-clause-not_lowered
returns-in_err-by-clause-not_lowered g c =
    let t = g.C.Cells.table _ in
    let i = around t _ _ _ in
    let p = err_from_is_err_and c.from_residual.result c.from_residual.ensures.1 in
    rw (p.1, p.2) (why_not_lowered i (controller_of t c.args.graph.now c.args.vectors.now) c.args.vectors.now _ c.in_err-by.ensures.refused)

-- memory ran out for the lowered vectors
pub returns-in_err-lowered-clause-not_lowered : goal.returns-in_err-lowered-clause-not_lowered
returns-in_err-lowered-clause-not_lowered g c =
    let p = err_from_is_err_and c.from_residual-in_err-lowered.result c.from_residual-in_err-lowered.ensures.1 in
    rw (p.1, p.2) (_, c.in_ok-by.ensures.exact)
