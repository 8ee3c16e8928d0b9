use Rattle.std.proofs.Common.{◌++◌, ◌∷◌, [], subst, rules}
use Rattle.polcert_items.proofs.Common.{entry_of, preamble_in, IsCoveringOf}
use Rattle.polcert_items.proofs.model_so_far.ModelSoFar.budget_with.Goals as goal

pub returns-in-Reward : goal.returns-in-Reward
returns-in-Reward c =
    let e = entry_of c.args.entry in
    subst (λ k. IsCoveringOf (preamble_in k) (k.entries ++ e ∷ []) c.with_reward.result) c.self.view_is
    (c.with_reward.ensures _ _ e c.self.invariant.3 c.in-Reward.is)

pub with_reward-requires : goal.with_reward-requires
with_reward-requires c = search rules
