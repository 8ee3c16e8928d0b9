use Rattle.polcert_check.proofs.Sums.Scales.{scales}
use Rattle.polcert_robust.proofs.Exact.{exact, horizon}
use Rattle.polcert_robust.proofs.verdict.check_robust_watched.Goals as goal

pub invariant_of-input : goal.invariant_of-input
invariant_of-input g c = record {
  fits = c.requires.fits;
  is_proper_graph = c.nodes-nodes.ensures.proper;
  are_proper = c.nodes-vector_count.ensures.proper;
}

pub returns : goal.returns
returns g c =
    let t = g.C.Cells.table _ in
    let some = scales t (g.met.C.Cells.is_within_limits _) in
    record {
      verdict = c.first_robust_failure.ensures;
      exact = exact t _ _ _ _ _ some.0 some.1 (g.met.C.Cells.is_proper _) c.nodes-nodes.ensures.proper c.requires.fits _
          c.first_robust_failure.ensures;
      horizon = horizon t _ _ _ _ _ some.0 some.1 (g.met.C.Cells.is_proper _) c.nodes-nodes.ensures.proper c.requires.fits _
          c.first_robust_failure.ensures;
    }
