-- What an entry of T or O gives a row. Nobody has to believe this file: only private functions cite it.
use Rattle.std.specs.Prelude.{◌≡◌, ℕ, ◌+◌, ◌*◌, ◌<◌, ◌==◌, true, List, [], ◌∷◌, length, slice_index, false, if◌then◌else◌}
use Rattle.std.specs.List.{list_any}
use Rattle.polcert_cells.specs.declared.entries.Place.{Place}
use Rattle.polcert_cells.specs.declared.entries.Place.TheVariants.{Only}
use Rattle.polcert_cells.specs.declared.entries.Body.{Body}
use Rattle.polcert_cells.specs.declared.entries.Body.TheVariants.{Probabilities, Rewards, Uniform, Identity}
use Rattle.polcert_cells.specs.declared.entries.Entry.{Entry}
use Rattle.polcert_cells.specs.Elements.{most_states, most_actions, most_elements}
use Rattle.polcert_cells.specs.Entry.{forms}
use Rattle.polcert_cells.specs.Meaning.{IsCount}
use Rattle.polcert_cells.specs.Numbers.{one}
use Rattle.polcert_cells.specs.Preamble.{columns}
use Rattle.polcert_cells.specs.Steps.Sound.{Fills}
use Rattle.polcert_rules.specs.declared.rows.Shape.{Shape}

-- each count within its limits
pub record IsShapeWithin (shape : Shape) : Type 0 where
  pub actions : IsCount most_actions shape.actions
  pub states : IsCount most_states shape.states
  pub columns : IsCount most_elements shape.columns

-- how many cells these places leave open
abbrev pub open_cells : Shape → List Place → ℕ
open_cells shape (p ∷ []) = shape.states * shape.columns
open_cells shape (p ∷ q ∷ []) = shape.columns
open_cells shape _ = 1

-- a third place is `*`, or a column
abbrev pub HasColumn : ℕ → List Place → Type 0
HasColumn columns (p ∷ q ∷ Only n ∷ ps) = n < columns
HasColumn columns _ = Unit {0}

-- the entry has one of the forms (those of T and O are the same in an MDP), and its body fills the cells that its places
-- leave open
pub record FitsShape (shape : Shape) (entry : Entry) : Type 0 where
  pub form : list_any (λ n. n == length entry.places) (forms false entry.table entry.body) ≡ true
  pub column : HasColumn shape.columns entry.places
  pub body : Fills (open_cells shape entry.places) entry.body

-- the number in a body that stands for this column of the row of this state: in a matrix, a row, or a single number
abbrev pub number_for : ℕ → List Place → ℕ → ℕ → ℕ
number_for columns (p ∷ []) s c = s * columns + c
number_for columns (p ∷ q ∷ []) s c = c
number_for columns _ s c = 0

abbrev pub body_weight : ℕ → List Place → Body → ℕ → ℕ → ℕ
body_weight columns places (Probabilities ps) s c = slice_index ps (number_for columns places s c) * columns
body_weight columns places Uniform s c = one
body_weight columns places Identity s c = if s == c then one * columns else 0
body_weight columns places (Rewards hs) s c = 0

-- what an entry gives this column of the row of this state, where rows have this many columns
abbrev pub entry_weight : ℕ → Entry → ℕ → ℕ → ℕ
entry_weight columns entry s c = body_weight columns entry.places entry.body s c
