use Rattle.std.proofs.Common.{rules, sym}
use Rattle.std.proofs.lemmas.Int.{to_z-of_z}
use mir.Syntax.{w64, w128}
use Rattle.polcert_robust.proofs.Worths.{least_turned, step_is}
use Rattle.polcert_robust.proofs.pair.worth_at.Goals as goal

pub returns-clause-is : goal.returns-clause-is
returns-clause-is g c =
    let reward = to_z-of_z w64 c.end_reward.result (search rules) in
    let value = to_z-of_z w64 c.at.result (search rules) in
    let turned_reward =
    to_z-of_z w64 c.turned-reward.result (search rules) in
    let turned_value =
    to_z-of_z w64 c.turned-value.result (search rules) in
    rw (to_z-of_z w128 c.worth_of.result (search rules))
    (step_is _ _ c.worth_of.result
    _
    (sym c.in-Some.ensures.value)
    (cc (
      c.worth_of.ensures.is,
      c.turned-reward.ensures.is,
      c.end_reward.ensures.is,
      c.turned-value.ensures.is,
      c.at.ensures.value,
      c.discount.ensures,
      reward,
      value,
      turned_reward,
      turned_value,
      least_turned c.args.end.now.pair.now.input.now.side _ c.args.end.now.pair.now.input.now.distance.r_by,
    )))
