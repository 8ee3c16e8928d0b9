use Rattle.std.proofs.Common.{◌∙◌, ℕ, None, Option, subst, sym, ap}
use Rattle.std.specs.List.{slice_get}
use Rattle.polcert_rules.proofs.Common.{Reward, table_key, most_places, IsNewest, RewardRules, IsLastBody}
use Rattle.polcert_rules.specs.Keys.{FitsKey}
use Rattle.polcert_rules.proofs.RewardLaws.RewardCells.{last_of_rules, last_body}
use Rattle.polcert_rules.proofs.rewards.Rewards.body_of.Goals as goal

pub returns-in-Some : goal.returns-in-Some
returns-in-Some c indices p entries small are newest =
    let n = subst (λ number. IsNewest c.args.self.now.rules (FitsKey most_places (table_key Reward) indices) number)
    c.in-Some.is
    newest in
    subst (IsLastBody p.costs entries c.args.self.now.numbers indices)
    (sym (c.find.ensures ∙ ap (λ (rewards : RewardRules). slice_get rewards.bodies c.in-Some.number) c.self.view_is))
    (last_body p _ _ _ _ are small n)

pub returns-in-None : goal.returns-in-None
returns-in-None c indices p entries small are newest =
    let n = subst (λ number. IsNewest c.args.self.now.rules (FitsKey most_places (table_key Reward) indices) number)
    c.in-None.is
    newest in
    last_of_rules p _ _ _ None are small n
