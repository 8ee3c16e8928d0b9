use Rattle.std.proofs.Common.{arith}
use Rattle.polcert_check.proofs.Walking.RowOfBoth.{end_of, observation_of, weight_of_both}
use Rattle.polcert_check.proofs.expected_reward.row_weight.Goals as goal

pub overflow_mul-result : goal.overflow_mul-result
overflow_mul-result g c =
    let m = g.C.Cells.table _ in
    let p = g.met.C.Cells.is_proper _ in
    let limits = g.met.C.Cells.is_within_limits _ in
    rw (c.t.ensures, c.o.ensures, c.observations-observations.ensures)
    (omega (
      arith,
      (weight_of_both m p limits c.args.a c.args.s c.requires.action c.requires.start _ _
          (end_of m limits c.args.k c.requires.number) (observation_of m limits c.args.k)),
    ))
