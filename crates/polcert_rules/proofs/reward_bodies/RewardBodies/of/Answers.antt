use Rattle.std.proofs.Common.{◌∙◌, List, ℤ, map, sym, ap, subst}
use Rattle.polcert_rules.proofs.Common.{worth, AreBodiesOf}
use Rattle.polcert_rules.proofs.RewardLaws.RewardLists.{bodies_are}
use Rattle.polcert_rules.proofs.reward_bodies.RewardBodies.of.Goals as goal

pub returns : goal.returns
returns c =
    subst (λ numbers. AreBodiesOf c.args.costs c.args.entries numbers c.into_rewards-bodies.result.0)
    (sym (c.in_ok-numbers.ensures ∙ ap (map (worth c.args.costs)) c.into_rewards-bodies.ensures.rewards))
    (bodies_are _ _ _ c.into_rewards-bodies.ensures.bodies)
