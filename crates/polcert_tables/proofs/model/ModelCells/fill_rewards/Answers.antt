use Rattle.std.proofs.Common.{◌≡◌, ◌∙◌, ◌+◌, ◌<◌, ℕ, List, [], ◌∷◌, Option, is_none, length, get_or, pos, sym, ap, subst}
use Rattle.polcert_tables.proofs.Common.{reward, Elements, Preamble, Entry, AreRewardsOf, IsKeptModel, Contents}
use Rattle.polcert_tables.proofs.KeptLaws.{model_index, model_reward, observed_index}
use Rattle.polcert_tables.proofs.model.ModelCells.fill_rewards.Goals as goal

pub returns-in-Some : goal.returns-in-Some
returns-in-Some c = λ i room m.
    let k = c.args.self.now.kept in
    let z = c.args.first + i in
    let sound = subst (λ (m : Contents). IsKeptModel m.kept) c.self.view_is c.self.invariant in
    let pomdp = sym (ap (λ (m : Contents). is_none m.kept.preamble.observations) c.self.view_is)
    ∙ ap (λ (o : Option Elements). is_none o) c.in-Some.is in
    let same = observed_index k.preamble z pomdp in
    let within = subst (λ n. n < k.rewards.shape.observations) same (model_index k sound z m) in
    let given = subst (λ (m : Contents). (p : Preamble) (entries : List Entry) → AreRewardsOf p entries m.kept.rewards → (j : ℕ)
    → j < length c.args.rewards.now → c.args.first + j < m.kept.rewards.shape.observations
    → get_or c.fill-in-Some.new.rewards j (pos 0) ≡ reward p entries (c.args.a ∷ c.args.s ∷ c.args.e ∷ (c.args.first + j) ∷ []))
    c.self.view_is c.fill-in-Some.ensures in
    model_reward k sound c.args.a c.args.s c.args.e z (get_or c.fill-in-Some.new.rewards i (pos 0)) c.requires.action c.requires.start
    c.requires.end m
    (λ p entries are. subst (λ y. get_or c.fill-in-Some.new.rewards i (pos 0) ≡ reward p entries (c.args.a ∷ c.args.s ∷ c.args.e ∷ y ∷ []))
    (sym same) (given p entries are i room within))
