-- The newest rules of the observations of an outcome, where rules name few of them.
-- Nobody has to believe this file: only private functions cite it.
use Rattle.std.specs.Prelude.{◌≡◌, ℕ, zero, suc, ◌+◌, ◌<◌, ◌==◌, List, [], ◌∷◌, ◌++◌, Option, Some, None, if◌then◌else◌}
use Rattle.polcert_rules.specs.declared.index.Rule.{Rule}
use Rattle.polcert_rules.specs.declared.named_rules.NamedRule.{NamedRule}
use Rattle.polcert_rules.specs.declared.named_rules.NamedRules.{NamedRules}
use Rattle.polcert_rules.specs.Keys.{key_base, FitsKey}
use Rattle.polcert_rules.specs.Matching.{max_option}
use Rattle.polcert_rules.specs.Steps.Distinct.{rule_at}
use Rattle.polcert_rules.specs.Steps.Noting.{IsNoted}

-- the number that the first rules have for an observation
abbrev pub named_number : List NamedRule → ℕ → ℕ → Option ℕ
named_number rules zero z = None
named_number rules (suc n) z = if (rule_at rules n).observation == z then Some (rule_at rules n).number else named_number rules n z

-- the newest rule of an observation
abbrev pub noted_at : NamedRules → ℕ → Option ℕ
noted_at list z = max_option list.whole (named_number list.rules list.count z)

-- none of the rules so far names the observation
abbrev pub IsUnnamed : NamedRules → ℕ → Type 0
IsUnnamed list z = (k : ℕ) → k < list.count → (rule_at list.rules k).observation ≡ z → ⊥

abbrev pub IsPlaceOf : NamedRules → ℕ → Option ℕ → Type 0
IsPlaceOf list z None = IsUnnamed list z
IsPlaceOf list z (Some place) = (place < list.count) × ((rule_at list.rules place).observation ≡ z)

-- for each observation, the newest rule is noted whose key, after `low`, fits these indices and the observation
abbrev pub AreNamed : List Rule → ℕ → ℕ → List ℕ → NamedRules → NamedRules → Type 0
AreNamed rules levels low indices old new =
    (z : ℕ) → z + 2 < key_base → IsNoted rules (FitsKey levels low (indices ++ z ∷ [])) (noted_at old z) (noted_at new z)
