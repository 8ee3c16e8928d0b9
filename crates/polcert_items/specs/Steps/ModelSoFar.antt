-- What is known of a text, as contracts see it.
-- Nobody has to believe this: only contracts of the readers of items cite it.
use Rattle.std.specs.Prelude.{◌≡◌, ℕ, Bool, Option, Some, None, List, [], ◌∷◌, ◌++◌}
use Rattle.std.specs.Option.{ForSome}
use Rattle.polcert_cells.specs.declared.entries.Entry.{Entry}
use Rattle.polcert_items.specs.declared.item.ItemContents.{ItemContents}
use Rattle.polcert_items.specs.declared.item.ItemContents.TheVariants as says
use Rattle.polcert_cells.specs.declared.elements.Elements.{Elements}
use Rattle.polcert_cells.specs.Elements.{count_of, most_states, most_actions, most_observations}
use Rattle.polcert_cells.specs.declared.elements.StartWeights.{StartWeights}
use Rattle.polcert_cells.specs.declared.words.Topic.{Topic}
use Rattle.polcert_cells.specs.declared.words.Topic.TheVariants.{Discount, Values, States, Actions, Observations, Start, Cells}
use Rattle.polcert_cells.specs.Meaning.{IsCount}
use Rattle.polcert_cells.specs.Steps.Drafts.{Draft}
use Rattle.polcert_cells.specs.Steps.Sound.{IsSoundEntry}
use Rattle.polcert_format.specs.KnownPreamble.{preamble_in}
use Rattle.polcert_format.specs.Order.{preamble_fault}
use Rattle.polcert_format.specs.Reading.{AreRightItems}
use Rattle.polcert_format.specs.Text.{ModelSoFar}
use Rattle.polcert_text.specs.Cut.{Lexeme}

abbrev pub known_of : Option ℕ → Option Bool → Option Elements → Option Elements → Option Elements → Option StartWeights → List Entry → ModelSoFar
known_of discount costs states actions observations start entries = record {
  discount = discount;
  costs = costs;
  states = states;
  actions = actions;
  observations = observations;
  start = start;
  entries = entries;
}

-- from 1 to the most, where the line came
abbrev pub IsCountIn : ℕ → Option Elements → Type 0
IsCountIn most elements = ForSome elements (λ e. IsCount most (count_of e))

-- what is known after an item that says this
abbrev pub with_item : ModelSoFar → ItemContents → ModelSoFar
with_item k (says.Discount g) = record k { discount = Some g }
with_item k (says.Costs b) = record k { costs = Some b }
with_item k (says.States e) = record k { states = Some e }
with_item k (says.Actions e) = record k { actions = Some e }
with_item k (says.Observations e) = record k { observations = Some e }
with_item k (says.Start found) = record k { start = Some found }
with_item k (says.Entry e) = record k { entries = k.entries ++ e ∷ [] }

-- an item of this topic says so
abbrev pub AreContentsOf : Topic → ItemContents → Type 0
AreContentsOf Discount (says.Discount g) = Unit {0}
AreContentsOf Values (says.Costs b) = Unit {0}
AreContentsOf States (says.States e) = Unit {0}
AreContentsOf Actions (says.Actions e) = Unit {0}
AreContentsOf Observations (says.Observations e) = Unit {0}
AreContentsOf Start (says.Start found) = Unit {0}
AreContentsOf (Cells table) (says.Entry e) = Unit {0}
AreContentsOf _ _ = ⊥

abbrev pub AreContentsWithin : ItemContents → Type 0
AreContentsWithin (says.States e) = IsCount most_states (count_of e)
AreContentsWithin (says.Actions e) = IsCount most_actions (count_of e)
AreContentsWithin (says.Observations e) = IsCount most_observations (count_of e)
AreContentsWithin _ = Unit {0}

-- What may be learned after what is known: an entry after a complete preamble, and elements before all entries.
abbrev pub IsAllowedNext : ModelSoFar → ItemContents → Type 0
IsAllowedNext k (says.Entry e) = (preamble_fault k ≡ None) × IsSoundEntry (preamble_in k) e
IsAllowedNext k (says.States e) = k.entries ≡ []
IsAllowedNext k (says.Actions e) = k.entries ≡ []
IsAllowedNext k (says.Observations e) = k.entries ≡ []
IsAllowedNext k _ = Unit {0}

-- the whole text was read: its items are right, and its preamble is complete
pub record IsWholeRead (seen : List Lexeme) (k : ModelSoFar) : Type 0 where
  pub items : AreRightItems seen k
  pub complete : preamble_fault k ≡ None

-- what its items say
abbrev pub said : ModelSoFar → Draft
said k = record { preamble = preamble_in k; start = k.start; entries = k.entries }
