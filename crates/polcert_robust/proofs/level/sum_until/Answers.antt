use Rattle.std.proofs.Common.{arith}
use Rattle.polcert_robust.specs.Steps.Rows.{listed_weight}
use Rattle.polcert_robust.proofs.Means.{one_weight}
use Rattle.polcert_robust.proofs.level.sum_until.Goals as goal

pub end_until-sum-requires-clause-weight : goal.end_until-sum-requires-clause-weight
end_until-sum-requires-clause-weight c = omega (
  arith,
  one_weight (listed_weight c.args.row.now.weights.now) _ _ c.loop-i-test.true,
  c.args.row.now.sums,
  c.args.row.now.small_scale,
)
