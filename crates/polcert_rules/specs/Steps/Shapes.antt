-- How large a table of weights is, and which entries its rows may be built from.
use Rattle.std.specs.Prelude.{◌≡◌, List, All}
use Rattle.polcert_cells.specs.declared.entries.Table.{Table}
use Rattle.polcert_cells.specs.declared.entries.Entry.{Entry}
use Rattle.polcert_cells.specs.Elements.{count_of, most_states, most_actions, most_observations}
use Rattle.polcert_cells.specs.Meaning.{IsCount}
use Rattle.polcert_cells.specs.Preamble.{Preamble, observed, columns}
use Rattle.polcert_cells.specs.Steps.Sound.{IsSoundEntry}
use Rattle.polcert_rules.specs.declared.rows.Shape.{Shape}

-- the counts of this table, under this preamble
pub record IsShapeOf (p : Preamble) (table : Table) (shape : Shape) : Type 0 where
  pub actions : shape.actions ≡ count_of p.actions
  pub states : shape.states ≡ count_of p.states
  pub columns : shape.columns ≡ columns p table

-- counts within their limits, and sound entries
pub record AreSound (p : Preamble) (entries : List Entry) : Type 0 where
  pub states : IsCount most_states (count_of p.states)
  pub actions : IsCount most_actions (count_of p.actions)
  pub observations : IsCount most_observations (count_of (observed p))
  pub each : All (IsSoundEntry p) entries
