use Rattle.std.proofs.Common.{ℤ, ◌+ℤ◌, ◌∙◌, ap, rules, w64}
use Rattle.std.proofs.lemmas.Int.{to_z-of_z}
use Rattle.std.proofs.lemmas.Result.{err_from_is_err_and}
use Rattle.polcert_policy.specs.Vectors.{value_of}
use Rattle.polcert_check.specs.Horizon.{controller_of}
use Rattle.polcert_check.proofs.Sums.Scales.{scales}
use Rattle.polcert_robust.specs.Intervals.{around}
use Rattle.polcert_robust.proofs.RobustMoves.{raised_passes, why_not_raised}
use Rattle.polcert_robust.proofs.robust_raise.raised_robustly.Goals as goal

pub returns-clause-raised : goal.returns-clause-raised
returns-clause-raised g c =
    let t = g.C.Cells.table _ in
    let some = scales t (g.met.C.Cells.is_within_limits _) in
    let least = c.in_ok-by.ensures.exact in
    record {
      least = search rules;
      shifted = search rules;
      fits_still = search rules;
      passes = raised_passes t _ _ _ _ _ some.0
          some.1 (g.met.C.Cells.is_proper _) c.nodes-nodes.ensures.proper c.requires.fits c.in_ok-raised.raised _
          least.2.0
          (λ n s nl sl. c.in_ok-raised.ensures.values n s nl sl
          ∙ ap (λ (x : ℤ). value_of c.args.vectors.now n s +ℤ x) (to_z-of_z w64 _ (search rules) ∙ least.1));
    }

pub returns-in_err-by-clause-not_raised : goal.returns-in_err-by-clause-not_raised
returns-in_err-by-clause-not_raised g c =
    let t = g.C.Cells.table _ in
    let i = around t _ _ _ in
    let p = err_from_is_err_and c.from_residual.result c.from_residual.ensures.1 in
    rw (p.1, p.2) (why_not_raised i (controller_of t c.args.graph.now c.args.vectors.now) c.args.vectors.now _ c.in_err-by.ensures.refused)

-- memory ran out for the raised vectors
pub returns-in_err-raised-clause-not_raised : goal.returns-in_err-raised-clause-not_raised
returns-in_err-raised-clause-not_raised g c =
    let p = err_from_is_err_and c.from_residual-in_err-raised.result c.from_residual-in_err-raised.ensures.1 in
    rw (p.1, p.2) (_, c.in_ok-by.ensures.exact)
