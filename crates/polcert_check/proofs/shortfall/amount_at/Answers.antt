use Rattle.std.proofs.Common.{rules, ◌∙◌, w64, arith}
use Rattle.polcert_check.proofs.Common.{w128, node_controller, followed, followed_is_proper, followed_is_within}
use Rattle.std.proofs.lemmas.Int.{to_z-of_z}
use Rattle.polcert_check.proofs.Walking.Earning.{expected_reward_le}
use Rattle.polcert_check.proofs.Walking.Expecting.{expected_value_le}
use Rattle.polcert_check.proofs.Sums.Amounts.{amount_is}
use Rattle.polcert_check.proofs.Horizons.Splitting.{followed_split}
use Rattle.polcert_check.proofs.Lowerings.Shorts.{short_le}
use Rattle.polcert_check.proofs.shortfall.amount_at.Goals as goal

pub shortfall-requires-clause-reward : goal.shortfall-requires-clause-reward
shortfall-requires-clause-reward g c =
    let k = node_controller c.args.node.now in
    let same = to_z-of_z w128 _ (search rules) ∙ c.followed_reward-reward.ensures in
    rw same (expected_reward_le (followed k c.args.node.now.n)
    (followed_is_proper k c.args.node.now.n c.args.node.now.input.proper.cells)
    (followed_is_within k c.args.node.now.n (g.met.C.Cells.is_within_limits _))
    _
    _ (c.args.node.now.input.proper.closed.actions_in_range _ c.args.node.now.within) c.requires.start)

pub shortfall-requires-clause-expected : goal.shortfall-requires-clause-expected
shortfall-requires-clause-expected g c = grind (arith, to_z-of_z, expected_value_le)

pub returns-clause-is : goal.returns-clause-is
returns-clause-is g c =
    let k = node_controller c.args.node.now in
    to_z-of_z w128 _ (search rules)
    ∙ amount_is k c.args.node.now.n c.args.s _ _ (followed_split k c.args.node.now.n c.args.s) _ _ _ _
    c.shortfall.ensures
    (to_z-of_z w64 _ (search rules) ∙ c.at-value.ensures.value)
    (to_z-of_z w128 _ (search rules) ∙ c.followed_reward-reward.ensures)
    (to_z-of_z w128 _ (search rules) ∙ c.expected_value-expected.ensures.value)

pub returns-clause-small : goal.returns-clause-small
returns-clause-small g c = rw (returns-clause-is g c)
    (short_le _ c.args.node.now.input.proper (g.met.C.Cells.is_within_limits _)
    c.args.node.now.input.values _ _
    c.args.node.now.within c.requires.start)
