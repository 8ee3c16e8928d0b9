use Rattle.std.proofs.Common.{rules, ◌∙◌}
use Rattle.polcert_optimum.proofs.Common.{w128, value_of}
use Rattle.std.proofs.lemmas.Int.{to_z-of_z}
use Rattle.polcert_check.proofs.Sums.Gaps.{weighed_is}
use Rattle.polcert_optimum.proofs.Checking.Uninformative.{uninformed_is}
use Rattle.polcert_optimum.proofs.uninformative.uninformed_value.Goals as goal

pub returns : goal.returns
returns g c =
    let t = g.C.Cells.table _ in
    let pair = c.args.pair.now in
    to_z-of_z w128 _ (search rules)
    ∙ weighed_is _ _ _ _ _ (search rules) c.weigh.ensures c.o_scale.ensures c.greatest_mean.ensures.is
    ∙ uninformed_is t (value_of pair.vectors.now) _ _ _ c.requires.1
    (g.met.C.Cells.is_proper _) pair.action_within
