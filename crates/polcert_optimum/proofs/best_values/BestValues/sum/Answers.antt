use Rattle.std.proofs.Common.{arith}
use Rattle.polcert_optimum.proofs.Checking.Best.{small_sums, best_is}
use Rattle.polcert_optimum.proofs.Checking.Pairs.{vectors_small}
use Rattle.polcert_optimum.proofs.best_values.BestValues.sum.Goals as goal

pub total-requires-clause-small : goal.total-requires-clause-small
total-requires-clause-small g c =
    let t = g.C.Cells.table _ in
    let p = g.met.C.Cells.is_proper _ in
    let limits = g.met.C.Cells.is_within_limits _ in
    rw c.observations.ensures
    (small_sums t p limits _
    (vectors_small t _ c.args.pair.now.fit c.args.pair.now.proper) _ _
    c.args.pair.now.action_within c.args.pair.now.state_within _ c.fill.ensures.is)

pub returns-clause-is : goal.returns-clause-is
returns-clause-is g c = grind (arith, best_is)
