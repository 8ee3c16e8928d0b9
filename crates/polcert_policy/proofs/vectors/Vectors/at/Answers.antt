use Rattle.std.proofs.Common.{◌<◌, sym, subst}
use Rattle.polcert_policy.proofs.VectorEndLaws.{value_in_range}
use Rattle.polcert_policy.proofs.vectors.Vectors.at.Goals as goal

pub returns-clause-in_range : goal.returns-clause-in_range
returns-clause-in_range c =
    value_in_range c.self.inside.nodes c.self.inside.states c.args.n c.args.s _ _ _ c.self.invariant
    (subst (λ v. c.args.n < v.nodes) (sym c.self.view_is) c.requires.node)
    (subst (λ v. c.args.s < v.states) (sym c.self.view_is) c.requires.state) c.index.ensures
