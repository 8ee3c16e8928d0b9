-- What the rules of R and their bodies give a cell.
use Rattle.std.proofs.Common.{◌≡◌, ◌∙◌, ℕ, Option, Some, None, List, refl, sym, ap, subst}
use Rattle.std.specs.List.{slice_get}
use Rattle.std.specs.Option.{IsSomeAnd}
use Rattle.polcert_rules.proofs.Common.{same_Some, Reward, Entry, Preamble, RewardBody, AreIndices, table_key, most_places, IsEntryRule}
use Rattle.polcert_rules.proofs.Common.{IsNewest, IsLastNumber, AreRewardsOf, IsBodyOf, RewardRules, IsLastBody}
use Rattle.polcert_rules.specs.Keys.{FitsKey}
use Rattle.polcert_rules.proofs.Keyed.Covering.{last_number}

-- the newest of the rules is the last of all entries
pub last_of_rules : (p : Preamble) (entries : List Entry) (rewards : RewardRules) (indices : List ℕ) (result : Option ℕ)
    → AreRewardsOf p entries rewards
    → AreIndices most_places indices → IsNewest rewards.rules (FitsKey most_places (table_key Reward) indices) result
    → IsLastNumber entries Reward indices result
last_of_rules p entries rewards indices result a is n = last_number _ _ _ _ _ a.index is n

-- its entry has a body, and that is found
pub last_body : (p : Preamble) (entries : List Entry) (rewards : RewardRules) (indices : List ℕ) (number : ℕ)
    → AreRewardsOf p entries rewards → AreIndices most_places indices
    → IsNewest rewards.rules (FitsKey most_places (table_key Reward) indices) (Some number)
    → IsLastBody p.costs entries rewards.numbers indices (slice_get rewards.bodies number)
last_body p entries rewards indices number a is n = at (slice_get rewards.bodies number) refl
  where
    entry : IsEntryRule Reward entries n.0.rule
    entry = a.index.sound n.0.rule n.0.among

    found : IsSomeAnd (slice_get rewards.bodies number) (IsBodyOf p.costs entry.0 rewards.numbers)
    found = subst (λ k. IsSomeAnd (slice_get rewards.bodies k) (IsBodyOf p.costs entry.0 rewards.numbers)) n.0.is
        (a.bodies n.0.rule.number entry.0 entry.1)

    at : (body : Option RewardBody) → slice_get rewards.bodies number ≡ body → IsLastBody p.costs entries rewards.numbers indices body
    at None e = absurd (subst (λ x. IsSomeAnd x (IsBodyOf p.costs entry.0 rewards.numbers)) e found)
    at (Some b) e = record {
      number = number;
      last = last_of_rules p entries rewards indices (Some number) a is n;
      body = λ x is_x. subst (λ y. IsBodyOf p.costs y rewards.numbers b)
          (same_Some entry.0 x (sym (ap (slice_get entries) (sym n.0.is) ∙ entry.1) ∙ is_x))
          (subst (λ y. IsSomeAnd y (IsBodyOf p.costs entry.0 rewards.numbers)) e found);
    }
