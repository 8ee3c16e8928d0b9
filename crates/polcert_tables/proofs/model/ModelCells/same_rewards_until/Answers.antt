use Rattle.std.proofs.Common.{◌≡◌, ◌<◌, ◌≤◌, ℕ, List, [], ◌∷◌, subst}
use Rattle.polcert_tables.proofs.Common.{reward, Preamble, Entry, AreRewardsOf, IsKeptModel, Contents}
use Rattle.polcert_tables.proofs.KeptLaws.{model_ends}
use Rattle.polcert_tables.proofs.model.ModelCells.same_rewards_until.Goals as goal

pub returns : goal.returns
returns c =
    model_ends c.args.self.now.kept (subst (λ (m : Contents). IsKeptModel m.kept) c.self.view_is c.self.invariant) c.args.a c.args.s
    c.args.e c.same_until.result c.requires.action c.requires.start c.requires.end
    (subst (λ (m : Contents). (p : Preamble) (entries : List Entry) → AreRewardsOf p entries m.kept.rewards
    → (f z : ℕ) → c.args.e ≤ f → f < c.same_until.result → f < m.kept.rewards.shape.states → z < m.kept.rewards.shape.observations
    → reward p entries (c.args.a ∷ c.args.s ∷ f ∷ z ∷ []) ≡ reward p entries (c.args.a ∷ c.args.s ∷ c.args.e ∷ z ∷ [])) c.self.view_is
    c.same_until.ensures)
