use Rattle.polcert_policy.proofs.PointLimits.{seen_row}
use Rattle.polcert_policy.proofs.points.PointSet.weights.Goals as goal

pub returns : goal.returns
returns c = seen_row _ _ _ _ _ _ c.self.invariant _ c.self.view_is c.args.i _ c.row.ensures
