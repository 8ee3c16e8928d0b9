use Rattle.std.proofs.Common.{rules}
use Rattle.polcert_check.proofs.Mirrors.SameAbove as same
use Rattle.polcert_check.proofs.laws_above.same_cells_same_answers_above.Goals as goal

pub returns : goal.returns
returns c = search (
  rules,
  same.same_above_verdict,
  same.same_above_promise,
  same.same_above_rewards,
  same.same_above_horizon,
  same.same_above_passes,
  same.same_least_raise,
  same.same_not_raised,
)
