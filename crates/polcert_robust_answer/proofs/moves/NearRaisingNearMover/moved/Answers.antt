use Rattle.polcert_robust_answer.proofs.moves.NearRaisingNearMover.moved.Goals as goal

pub returns : goal.returns
returns g c =
    let d = c.distance_in-distance.ensures in
    record {
      moved = rw (d.t_by, d.o_by, d.r_by) at c.raised_robustly.ensures.raised;
      not_moved = rw (d.t_by, d.o_by, d.r_by) at c.raised_robustly.ensures.not_raised;
    }
