use Rattle.std.proofs.Common.{arith}
use Rattle.polcert_check.proofs.Walking.Runs.{constant_run, same_row_run}
use Rattle.polcert_check.proofs.expected_reward.EndRun.reaches.Goals as goal

pub returns-then-is_constant : goal.returns-then-is_constant
returns-then-is_constant g c told s sl is =
    constant_run (g.C.Cells.table _) (g.met.C.Cells.is_proper _)
    (g.met.C.Cells.is_within_limits _) _ s c.requires.action _ is _ c.requires.end
    (omega (arith, c.if-e-end.false)) (omega (arith, c.if-e-until.false)) c.if-is_constant.true

pub returns : goal.returns
returns g c told s sl is =
    same_row_run (g.C.Cells.table _) (g.met.C.Cells.is_proper _)
    (g.met.C.Cells.is_within_limits _) _ s c.requires.action _ is _ c.requires.end
    (omega (arith, c.if-e-end.false)) (omega (arith, c.if-e-until.false)) (c.has_same_observations.ensures told)
