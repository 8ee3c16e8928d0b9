use Rattle.std.proofs.Common.{◌∙◌, ◌*◌, ◌/◌, ◌%◌, List, [], ◌∷◌, Option, is_none, sym, ap, subst}
use Rattle.polcert_tables.proofs.Common.{ForSome, reward, IsCommonReward, Elements, Preamble, Entry, AreRewardsOf, IsKeptModel, Contents}
use Rattle.polcert_tables.proofs.KeptLaws.{model_end_reward}
use Rattle.polcert_tables.proofs.model.ModelCells.find_end_rewards.Goals as goal

pub returns-in-None : goal.returns-in-None
returns-in-None c = λ common is.
    let mdp = sym (ap (λ (m : Contents). is_none m.kept.preamble.observations) c.self.view_is)
    ∙ ap (λ (o : Option Elements). is_none o) c.in-None.is in
    let kept = subst (λ (m : Contents). IsKeptModel m.kept) c.self.view_is c.self.invariant in
    let given = subst (λ (m : Contents). (p : Preamble) (entries : List Entry) → AreRewardsOf p entries m.kept.rewards
    → ForSome c.find_row.result (λ common. IsCommonReward
    (λ k. reward p entries (c.args.a ∷ c.args.s ∷ k / m.kept.rewards.shape.observations ∷ k % m.kept.rewards.shape.observations ∷ []))
    (m.kept.rewards.shape.states * m.kept.rewards.shape.observations) common c.find_row.new.exceptions)) c.self.view_is
    c.find_row.ensures.common in (
      λ z l. model_end_reward c.args.self.now.kept kept c.args.a c.args.s z c.find_row.result c.find_row.new.exceptions c.requires.action
          c.requires.start l mdp given common is,
      c.find_row.ensures.rising common is,
    )
