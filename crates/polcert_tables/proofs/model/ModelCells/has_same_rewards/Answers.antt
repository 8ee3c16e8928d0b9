use Rattle.std.proofs.Common.{◌≡◌, ◌<◌, ℕ, List, [], ◌∷◌, subst}
use Rattle.polcert_tables.proofs.Common.{reward, Preamble, Entry, AreRewardsOf, IsKeptModel, Contents}
use Rattle.polcert_tables.proofs.KeptLaws.{model_same}
use Rattle.polcert_tables.proofs.model.ModelCells.has_same_rewards.Goals as goal

pub returns : goal.returns
returns c = λ same.
    model_same c.args.self.now.kept (subst (λ (m : Contents). IsKeptModel m.kept) c.self.view_is c.self.invariant) c.args.a c.args.s
    c.args.other c.requires.action c.requires.start c.requires.other
    (subst (λ (m : Contents). (p : Preamble) (entries : List Entry) → AreRewardsOf p entries m.kept.rewards
    → (e z : ℕ) → e < m.kept.rewards.shape.states → z < m.kept.rewards.shape.observations
    → reward p entries (c.args.a ∷ c.args.s ∷ e ∷ z ∷ []) ≡ reward p entries (c.args.a ∷ c.args.other ∷ e ∷ z ∷ [])) c.self.view_is
    (c.has_same.ensures same))
