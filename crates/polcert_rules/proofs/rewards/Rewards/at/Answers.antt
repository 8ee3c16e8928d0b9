use Rattle.std.proofs.Common.{◌∙◌, [], ◌∷◌, map, FitsSigned, w64, rules, subst}
use Rattle.std.proofs.lemmas.Int.{to_z-of_z}
use Rattle.polcert_rules.proofs.Common.{Reward, AreIndices, AreWithin, IsNewest, RewardRules, count_of, dimensions, most_places, table_key}
use Rattle.polcert_rules.specs.Keys.{FitsKey}
use Rattle.polcert_rules.proofs.rewards.Rewards.at.Goals as goal

pub returns : goal.returns
returns c p entries are =
    let cell = c.args.action ∷ c.args.start ∷ c.args.end ∷ c.args.observation ∷ [] in
    let fits : FitsSigned w64 c.reward_of_body.result = search rules in
    to_z-of_z w64 _ fits
    ∙ c.reward_of_body.ensures p _ are (search rules) (c.body_of-body.ensures cell p _ (search rules) are
    (subst (λ (rewards : RewardRules). IsNewest rewards.rules (FitsKey most_places (table_key Reward) cell) c.newest.result)
    c.self.view_is (c.newest.ensures _ _ _ c.fitting-rules.ensures)))
