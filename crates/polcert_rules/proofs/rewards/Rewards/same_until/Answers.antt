use Rattle.std.proofs.Common.{subst}
use Rattle.polcert_rules.proofs.Common.{RewardRules}
use Rattle.polcert_rules.specs.Steps.FittingRules.{AreFitting}
use Rattle.polcert_rules.proofs.rewards.Rewards.same_until.Goals as goal

pub until_of-requires-clause-fitting : goal.until_of-requires-clause-fitting
until_of-requires-clause-fitting c =
    subst (λ (rewards : RewardRules). AreFitting rewards.rules c.args.action c.args.start c.fitting-rules.result) c.self.view_is
    c.fitting-rules.ensures
