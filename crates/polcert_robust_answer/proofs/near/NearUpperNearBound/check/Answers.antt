use Rattle.polcert_robust_answer.proofs.near.NearUpperNearBound.check.Goals as goal

pub returns : goal.returns
returns g c =
    let d = c.distance_in-distance.ensures in
    record {
      verdict = rw (d.t_by, d.o_by, d.r_by) at c.check_robust_above_watched.ensures.verdict;
      horizon = rw (d.t_by, d.o_by, d.r_by) at c.check_robust_above_watched.ensures.horizon;
    }
