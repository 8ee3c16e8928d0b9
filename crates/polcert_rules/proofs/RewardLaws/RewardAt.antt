-- The reward of a cell by the rules is what the last entry that covers it gives.
use Rattle.std.proofs.Common.{◌≡◌, ℕ, ◌<◌, ◌≤◌, Option, Some, None, List, [], ◌∷◌, map, arith}
use Rattle.polcert_rules.proofs.Common.{Entry, Reward, count_of, most_states, most_actions, most_observations, Preamble, rewarded}
use Rattle.polcert_rules.proofs.Common.{dimensions, reward, RewardBody, AreIndices, table_key, most_places, IsNewest, AreRewardsOf}
use Rattle.polcert_rules.proofs.Common.{RewardRules, AreWithin, IsLastBody}
use Rattle.polcert_rules.specs.Keys.{FitsKey}
use Rattle.polcert_rules.specs.RewardAt.{given, given_by, reward_by_rules, reward_at}
use Rattle.polcert_rules.proofs.Indexes.Matching.{newest_is}
use Rattle.polcert_rules.proofs.RewardLaws.RewardCells.{last_of_rules, last_body}
use Rattle.polcert_rules.proofs.RewardLaws.RewardValues.{all_open, body_reward, no_reward}

module _ (p : Preamble) (entries : List Entry) (rewards : RewardRules) (indices : List ℕ) (are : AreRewardsOf p entries rewards)
    (small : AreIndices most_places indices)
    (within : AreWithin (map count_of (dimensions p Reward)) indices) where
  of_body : (found : Option RewardBody) → IsLastBody p.costs entries rewards.numbers indices found
      → given rewards indices found ≡ reward p entries indices
  of_body None last = no_reward p _ _ last
  of_body (Some b) last = body_reward p _ _ _ b are (all_open p _ within) last

  of_number : (number : Option ℕ) → IsNewest rewards.rules (FitsKey most_places (table_key Reward) indices) number
      → given_by rewards indices number ≡ reward p entries indices
  of_number None n = no_reward p _ _ (last_of_rules p _ _ _ None are small n)
  of_number (Some number) n = of_body _ (last_body p entries rewards indices number are small n)

  pub cell_is : reward_by_rules rewards indices ≡ reward p entries indices
  cell_is = of_number _ (newest_is most_places (table_key Reward) rewards.rules indices)

-- in a model whose counts are within their limits
pub reward_is : (p : Preamble) (entries : List Entry) (rewards : RewardRules) (a s e z : ℕ) → AreRewardsOf p entries rewards
    → count_of p.actions ≤ most_actions → count_of p.states ≤ most_states
    → count_of (rewarded p) ≤ most_observations → a < count_of p.actions → s < count_of p.states → e < count_of p.states
    → z < count_of (rewarded p)
    → reward_at rewards a s e z ≡ reward p entries (a ∷ s ∷ e ∷ z ∷ [])
reward_is p entries rewards a s e z are la ls lo i j k l = grind (arith, cell_is)
