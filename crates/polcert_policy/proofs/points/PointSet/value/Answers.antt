use Rattle.polcert_policy.proofs.PointLimits.{seen_value}
use Rattle.polcert_policy.proofs.points.PointSet.value.Goals as goal

pub returns-clause-in_range : goal.returns-clause-in_range
returns-clause-in_range c = seen_value _ _ _ _ _ _ c.self.invariant _ c.self.view_is c.args.i c.args.a _ _ c.requires.point
    c.requires.action c.index.ensures
