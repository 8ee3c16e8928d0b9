-- Rules that name an observation each.
-- Nobody has to believe this file: only private functions cite it.
use Rattle.std.specs.Prelude.{◌≡◌, ℕ, ◌<◌, List, slice_index_or}
use Rattle.polcert_rules.specs.declared.named_rules.NamedRule.{NamedRule}

abbrev pub rule_at : List NamedRule → ℕ → NamedRule
rule_at rules k = slice_index_or rules k (record { observation = 0; number = 0 })

-- the first rules name each another observation
pub record AreDistinct (rules : List NamedRule) (count : ℕ) : Type 0 where
  pub each : (j k : ℕ) → j < k → k < count → (rule_at rules j).observation ≡ (rule_at rules k).observation → ⊥
