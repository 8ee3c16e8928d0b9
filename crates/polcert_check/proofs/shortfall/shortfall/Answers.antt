use Rattle.std.proofs.Common.{arith, to_z, of_z}
use Rattle.std.proofs.lemmas.Int.{to_z-of_z}
use Rattle.polcert_check.proofs.Sums.Scales.{scales_le, sum_room}
use Rattle.polcert_check.proofs.shortfall.shortfall.Goals as goal

pub overflow_mul-step_scale : goal.overflow_mul-step_scale
overflow_mul-step_scale g c = grind (arith, scales_le)

pub shortfall_of-requires-clause-scale : goal.shortfall_of-requires-clause-scale
shortfall_of-requires-clause-scale g c = rw (c.t_scale.ensures, c.o_scale.ensures)
    (scales_le (g.C.Cells.table _) (g.met.C.Cells.is_within_limits _))

pub shortfall_of-requires-clause-reward : goal.shortfall_of-requires-clause-reward
shortfall_of-requires-clause-reward g c = grind (arith, to_z, of_z, to_z-of_z, sum_room)

pub shortfall_of-requires-clause-expected : goal.shortfall_of-requires-clause-expected
shortfall_of-requires-clause-expected g c = grind (arith, to_z, of_z, to_z-of_z, sum_room)
