-- The rules of R that fit an action and a start state, by their first two places.
-- Nobody has to believe this file: only private functions cite it.
use Rattle.std.specs.Prelude.{◌≡◌, ℕ, ◌+◌, ◌*◌, ◌^◌, ◌<◌, ◌≤◌, ◌↔◌, ◌⊎◌, List, [], ◌∷◌, Contains}
use Rattle.polcert_cells.specs.declared.entries.Table.TheVariants.{Reward}
use Rattle.polcert_rules.specs.declared.index.Rule.{Rule}
use Rattle.polcert_rules.specs.declared.fitting_rules.RulePart.{RulePart}
use Rattle.polcert_rules.specs.declared.fitting_rules.FittingRules.{FittingRules}
use Rattle.polcert_rules.specs.Keys.{key_base, FitsKey, most_places, table_key}
use Rattle.polcert_rules.specs.Steps.Newest.{IsNewest}

-- the key of two places with these digits
abbrev pub key_of_two : ℕ → ℕ → ℕ
key_of_two first second = table_key Reward + first * key_base ^ 3 + second * key_base ^ 2

-- the key has these two places in front
abbrev pub HasTwo : ℕ → ℕ → ℕ → Type 0
HasTwo first second key = (key_of_two first second ≤ key) × (key < key_of_two first second + key_base ^ 2)

-- the key has at most a place for the action, or two places in front that fit the action and the start state
abbrev pub HasFront : ℕ → ℕ → ℕ → Type 0
HasFront a s key =
    FitsKey most_places (table_key Reward) (a ∷ []) key
    ⊎ ((HasTwo 1 1 key ⊎ HasTwo 1 (s + 2) key) ⊎ (HasTwo (a + 2) 1 key ⊎ HasTwo (a + 2) (s + 2) key))

-- the part has the rules whose keys follow `low`, that of two places
pub record IsPartOf (rules : List Rule) (low : ℕ) (part : RulePart) : Type 0 where
  pub low_is : part.low ≡ low
  pub kept : (r : Rule) → Contains part.rules.now r ↔ (Contains rules r × (low ≤ r.key) × (r.key < low + key_base ^ 2))

pub record AreFitting (rules : List Rule) (a s : ℕ) (fitting : FittingRules) : Type 0 where
  pub whole : IsNewest rules (FitsKey most_places (table_key Reward) (a ∷ [])) fitting.whole
  pub of_all : IsPartOf rules (key_of_two 1 1) fitting.of_all
  pub of_state : IsPartOf rules (key_of_two 1 (s + 2)) fitting.of_state
  pub of_action : IsPartOf rules (key_of_two (a + 2) 1) fitting.of_action
  pub of_row : IsPartOf rules (key_of_two (a + 2) (s + 2)) fitting.of_row

-- after the key `low` of two places, the key fits a cell of end state e and that of each from there on before another, or neither
abbrev pub IsEndKey : ℕ → ℕ → ℕ → ℕ → Type 0
IsEndKey low e until key = (f z : ℕ) → e ≤ f → f < until → z + 2 < key_base
    → FitsKey 2 low (e ∷ z ∷ []) key ↔ FitsKey 2 low (f ∷ z ∷ []) key

-- so does each rule, after the action and the start state
abbrev pub AreEndRules : List Rule → ℕ → ℕ → ℕ → ℕ → Type 0
AreEndRules rules a s e until = (r : Rule) → Contains rules r → (f z : ℕ) → e + 2 < key_base → e ≤ f → f < until → f + 2 < key_base
    → z + 2 < key_base
    → FitsKey most_places (table_key Reward) (a ∷ s ∷ e ∷ z ∷ []) r.key ↔ FitsKey most_places (table_key Reward) (a ∷ s ∷ f ∷ z ∷ []) r.key
