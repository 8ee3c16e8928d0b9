-- The newest rules of cells that have all indices but the last in common.
-- Nobody has to believe this file: only private functions cite it.
use Rattle.std.specs.Prelude.{◌≡◌, ℕ, ◌+◌, ◌<◌, ◌⊎◌, List, [], ◌∷◌, ◌++◌, length, Option, None, slice_index_or}
use Rattle.polcert_rules.specs.declared.index.Rule.{Rule}
use Rattle.polcert_rules.specs.Keys.{FitsKey}
use Rattle.polcert_rules.specs.Steps.Newest.{IsNewest}
use Rattle.polcert_rules.specs.Matching.{max_option}

-- Of the rules whose keys pass, the newest is noted, where it is later than what was noted before.
pub record IsNoted (rules : List Rule) (P : ℕ → Type 0) (before after : Option ℕ) : Type 0 where
  pub found : Option ℕ
  pub newest : IsNewest rules P found
  pub is : after ≡ max_option before found

-- the same for each number from `first` on as the last index
abbrev pub AreNoted : List Rule → ℕ → ℕ → List ℕ → ℕ → List (Option ℕ) → List (Option ℕ) → Type 0
AreNoted rules levels low indices first old new =
    (i : ℕ) → i < length old → IsNoted rules (FitsKey levels low (indices ++ (first + i) ∷ [])) (slice_index_or old i None) (slice_index_or new i None)

-- after the key `low` the key has one place more, that fits z
abbrev pub IsLastPlace : ℕ → ℕ → ℕ → Type 0
IsLastPlace low z key = (key ≡ low + 1) ⊎ (key ≡ low + (z + 2))
