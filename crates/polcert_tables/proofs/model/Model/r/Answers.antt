use Rattle.std.proofs.Common.{◌≡◌, ◌∙◌, ◌<◌, List, [], ◌∷◌, FitsSigned, w64, rules, sym, subst}
use Rattle.std.proofs.lemmas.Int.{to_z-of_z}
use Rattle.polcert_tables.proofs.Common.{reward, Preamble, Entry, AreRewardsOf, IsKeptModel, Contents}
use Rattle.polcert_tables.proofs.KeptLaws.{model_index, model_reward}
use Rattle.polcert_tables.proofs.model.Model.r.Goals as goal

pub at-requires-clause-observation : goal.at-requires-clause-observation
at-requires-clause-observation c =
    let within = model_index c.args.self.now.kept (subst (λ (m : Contents). IsKeptModel m.kept) c.self.view_is c.self.invariant) c.args.z
    c.requires.observation in
    subst (λ (m : Contents). c.reward_index.result < m.kept.rewards.shape.observations) (sym c.self.view_is)
    (subst (λ n. n < c.args.self.now.kept.rewards.shape.observations) (sym c.reward_index.ensures) within)

pub returns : goal.returns
returns c =
    let fits : FitsSigned w64 c.at.result = search rules in
    let given = subst (λ (m : Contents). (p : Preamble) (entries : List Entry) → AreRewardsOf p entries m.kept.rewards
    → c.at.result ≡ reward p entries (c.args.a ∷ c.args.s ∷ c.args.e ∷ c.reward_index.result ∷ [])) c.self.view_is c.at.ensures in
    to_z-of_z w64 c.at.result fits
    ∙ model_reward c.args.self.now.kept (subst (λ (m : Contents). IsKeptModel m.kept) c.self.view_is c.self.invariant) c.args.a c.args.s
    c.args.e c.args.z c.at.result c.requires.action c.requires.start c.requires.end c.requires.observation
    (subst (λ n. (p : Preamble) (entries : List Entry) → AreRewardsOf p entries c.args.self.now.kept.rewards
    → c.at.result ≡ reward p entries (c.args.a ∷ c.args.s ∷ c.args.e ∷ n ∷ [])) c.reward_index.ensures given)
