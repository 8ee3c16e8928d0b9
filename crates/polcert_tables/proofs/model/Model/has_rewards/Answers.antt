use Rattle.std.proofs.Common.{◌≡◌, ℕ, List, [], ◌∷◌, pos, subst}
use Rattle.polcert_tables.proofs.Common.{reward, Preamble, Entry, AreRewardsOf, IsKeptModel, Contents}
use Rattle.polcert_tables.proofs.KeptLaws.{model_unpaid}
use Rattle.polcert_tables.proofs.model.Model.has_rewards.Goals as goal

pub returns : goal.returns
returns c = λ no.
    model_unpaid c.args.self.now.kept (subst (λ (m : Contents). IsKeptModel m.kept) c.self.view_is c.self.invariant) c.args.a c.args.s
    c.requires.action c.requires.start
    (subst (λ (m : Contents). (p : Preamble) (entries : List Entry) → AreRewardsOf p entries m.kept.rewards → (e z : ℕ)
    → reward p entries (c.args.a ∷ c.args.s ∷ e ∷ z ∷ []) ≡ pos 0) c.self.view_is
    (c.has_rewards.ensures.unpaid no))
