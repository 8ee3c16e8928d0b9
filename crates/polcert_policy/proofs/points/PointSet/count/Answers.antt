use Rattle.std.proofs.Common.{subst}
use Rattle.polcert_policy.specs.Points.{AreProperPoints}
use Rattle.polcert_policy.proofs.PointLimits.{lists_proper}
use Rattle.polcert_policy.proofs.points.PointSet.count.Goals as goal

pub returns-clause-proper : goal.returns-clause-proper
returns-clause-proper c = subst AreProperPoints c.self.view_is (lists_proper _ _ _ _ _ _ c.self.invariant)
