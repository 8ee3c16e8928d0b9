use Rattle.std.proofs.Common.{◌∙◌, sym, subst}
use Rattle.polcert_policy.specs.Graphs.{IsBelow}
use Rattle.polcert_policy.proofs.PointLimits.{seen_name, seen_below}
use Rattle.polcert_policy.proofs.points.PointSet.next.Goals as goal

pub returns-clause-value : goal.returns-clause-value
returns-clause-value c =
    c.node.ensures ∙ seen_name _ _ _ _ _ _ c.self.invariant _ c.self.view_is c.args.i c.args.a c.args.z _ c.requires.point c.requires.action
    c.requires.observation c.index.ensures

pub returns-clause-point : goal.returns-clause-point
returns-clause-point c =
    subst (IsBelow _) (sym c.node.ensures) (seen_below _ _ _ _ _ _ c.self.invariant _ c.self.view_is c.args.i c.args.a c.args.z _
    c.requires.point c.requires.action c.requires.observation c.index.ensures)
