use Rattle.std.proofs.Common.{rules, ◌∙◌, ap}
use Rattle.polcert_check.proofs.Common.{w128, node_controller, factored_reward, followed}
use Rattle.std.proofs.lemmas.Int.{to_z-of_z}
use Rattle.polcert_check.proofs.shortfall.followed_reward.Goals as goal

pub returns : goal.returns
returns g c =
    to_z-of_z w128 _ (search rules) ∙ c.expected_reward.ensures
    ∙ ap (λ a. factored_reward (followed (node_controller c.args.node.now) c.args.node.now.n) a c.args.s) c.action.ensures.value
