use Rattle.std.proofs.Common.{◌∙◌, List, Contains, subst, sym}
use Rattle.polcert_rules.proofs.Common.{Reward, Rule, IsRising, IsIndexOf}
use Rattle.polcert_rules.proofs.RewardLaws.RewardRules.{of_rewards, are_rewards}
use Rattle.polcert_rules.proofs.rewards.Rewards.of.Goals as goal

pub invariant_of-result : goal.invariant_of-result
invariant_of-result c = record {
  shape = c.requires.shape;
  rising = subst IsRising (sym c.in_ok-rules.ensures) c.into_rules-rules.ensures.rising;
  table = λ r among. of_rewards _ _ c.requires.index r
      (subst (λ rules. Contains rules r) (c.in_ok-rules.ensures ∙ c.into_rules-rules.ensures.is) among);
}

pub returns-clause-rewards : goal.returns-clause-rewards
returns-clause-rewards c = λ p shape costs keyed sound.
    are_rewards p _ _ _ _ c.in_ok-bodies.bodies.bodies c.in_ok-bodies.bodies.numbers.items shape costs keyed sound
    (subst (IsIndexOf Reward c.args.entries) (sym (c.in_ok-rules.ensures ∙ c.into_rules-rules.ensures.is)) c.requires.index)
    c.in_ok-bodies.ensures
