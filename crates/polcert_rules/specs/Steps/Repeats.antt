-- Actions whose rows are those of the action before. Nobody has to believe this file: only private functions cite it.
use Rattle.std.specs.Prelude.{ℕ, ◌+◌, ◌-◌, ◌*◌, ◌^◌, ◌<◌, ◌≤◌, List, [], ◌∷◌, Option, Contains}
use Rattle.polcert_cells.specs.declared.entries.Table.{Table}
use Rattle.polcert_rules.specs.declared.index.Rule.{Rule}
use Rattle.polcert_rules.specs.Keys.{key_base, table_key, FitsKey, most_places}
use Rattle.polcert_rules.specs.Steps.Newest.{IsNewest}
use Rattle.polcert_rules.specs.Steps.Rows.{no_column}

-- the number of what covers the whole row
abbrev pub IsWholeNumber : List Rule → Table → ℕ → ℕ → Option ℕ → Type 0
IsWholeNumber rules table a s whole = IsNewest rules (FitsKey most_places (table_key table) (a ∷ s ∷ no_column ∷ [])) whole

-- no pattern of the table begins with this action
abbrev pub NamesNoAction : List Rule → Table → ℕ → Type 0
NamesNoAction rules table a = (r : Rule) → Contains rules r → table_key table + (a + 2) * key_base ^ 3 ≤ r.key → table_key table + (a + 3) * key_base ^ 3 ≤ r.key

-- no pattern tells the action from the one before
pub record IsAsBefore (rules : List Rule) (table : Table) (a : ℕ) : Type 0 where
  pub some : 0 < a
  pub here : NamesNoAction rules table a
  pub before : NamesNoAction rules table (a - 1)
