use Rattle.polcert_robust_answer.proofs.moves.NearLoweringNearMover.moved.Goals as goal

pub returns : goal.returns
returns g c =
    let d = c.distance_in-distance.ensures in
    record {
      moved = rw (d.t_by, d.o_by, d.r_by) at c.lowered_robustly.ensures.lowered;
      not_moved = rw (d.t_by, d.o_by, d.r_by) at c.lowered_robustly.ensures.not_lowered;
    }
