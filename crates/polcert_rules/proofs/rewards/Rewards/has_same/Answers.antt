use Rattle.std.proofs.Common.{refl, rules, subst}
use Rattle.polcert_rules.proofs.Common.{RewardRules}
use Rattle.polcert_rules.proofs.RewardLaws.RewardStarts.{NoneNames, same_rewards, false_of}
use Rattle.polcert_rules.proofs.rewards.Rewards.has_same.Goals as goal

pub returns : goal.returns
returns c unseen p entries are end observation l m =
    let there = subst (λ rewards. NoneNames rewards c.args.action c.args.other) c.self.view_is
    (c.names_start-2.ensures (false_of _ unseen)) in
    same_rewards p _ _ are _ _ _ end _ (subst (λ (rewards : RewardRules). NoneNames rewards c.args.action c.args.start) c.self.view_is
    (c.if-names_start.ensures refl)) there (search rules)
