use Rattle.std.proofs.Common.{◌∙◌, ◌*◌, ◌/◌, ◌%◌, List, [], ◌∷◌, Option, is_none, sym, ap, subst}
use Rattle.polcert_tables.proofs.Common.{ForSome, reward, IsCommonReward, Elements, Preamble, Entry, AreRewardsOf, IsKeptModel, Contents}
use Rattle.polcert_tables.proofs.KeptLaws.{model_row_reward}
use Rattle.polcert_tables.proofs.model.ModelCells.find_row_rewards.Goals as goal

pub returns-in-Some : goal.returns-in-Some
returns-in-Some c =
    let pomdp = sym (ap (λ (m : Contents). is_none m.kept.preamble.observations) c.self.view_is)
    ∙ ap (λ (o : Option Elements). is_none o) c.in-Some.is in
    model_row_reward c.args.self.now.kept (subst (λ (m : Contents). IsKeptModel m.kept) c.self.view_is c.self.invariant) c.args.a c.args.s
    c.find_row.result c.find_row.new.exceptions c.requires.action c.requires.start pomdp
    (subst (λ (m : Contents). (p : Preamble) (entries : List Entry) → AreRewardsOf p entries m.kept.rewards
    → ForSome c.find_row.result (λ common. IsCommonReward
    (λ k. reward p entries (c.args.a ∷ c.args.s ∷ k / m.kept.rewards.shape.observations ∷ k % m.kept.rewards.shape.observations ∷ []))
    (m.kept.rewards.shape.states * m.kept.rewards.shape.observations) common c.find_row.new.exceptions)) c.self.view_is
    c.find_row.ensures.common)
