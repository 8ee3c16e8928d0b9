-- The preamble as far as it is known: what the places of entries name, and how many cells they leave open, by it.
use Rattle.std.specs.Prelude.{false, List, unwrap_or}
use Rattle.polcert_cells.specs.declared.elements.Elements.{Elements}
use Rattle.polcert_cells.specs.declared.elements.Elements.TheVariants.{Count}
use Rattle.polcert_cells.specs.declared.entries.Table.{Table}
use Rattle.polcert_cells.specs.Preamble.{Preamble, dimensions, named}
use Rattle.polcert_format.specs.Text.{ModelSoFar}

-- the preamble that is known, as if a missing line (but that of observations) said nothing
abbrev pub preamble_in : ModelSoFar → Preamble
preamble_in k = record {
  discount = unwrap_or k.discount 0;
  costs = unwrap_or k.costs false;
  states = unwrap_or k.states (Count 0);
  actions = unwrap_or k.actions (Count 0);
  observations = k.observations;
}

-- what the indices of a table's cells number
abbrev pub indices_in : ModelSoFar → Table → List Elements
indices_in k table = dimensions (preamble_in k) table

-- what the places of an entry may name
abbrev pub named_in : ModelSoFar → Table → List Elements
named_in k table = named (preamble_in k) table
