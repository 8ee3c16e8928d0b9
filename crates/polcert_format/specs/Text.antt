-- Right texts: each item is right after those before it, and a text denotes a model where its rows sum to one.
-- Source: the POMDP file format page and its grammar at pomdp.org. The lines of the preamble stand in any order, each
-- once, before the start item and all entries; at most one start item stands before all entries. Our own: MDP files, which
-- have no line of observations; that no other line is missing; the limits of cells; and that rows sum exactly.
use Rattle.std.specs.Prelude.{◌≡◌, ℕ, ◌≤◌, Bool, true, false, List, [], ◌∷◌, ◌++◌, pos, Option, Some, None, codes}
use Rattle.polcert_text.specs.Cut.{Lexeme}
use Rattle.polcert_text.specs.Tokens.{AreTokens}
use Rattle.polcert_text.specs.declared.tokens.TokenKind.TheVariants.{Colon}
use Rattle.polcert_cells.specs.declared.entries.Table.{Table}
use Rattle.polcert_cells.specs.declared.entries.Entry.{Entry}
use Rattle.polcert_cells.specs.declared.words.Topic.{Topic}
use Rattle.polcert_cells.specs.declared.words.Topic.TheVariants.{Discount, Values, States, Actions, Observations, Start, Cells}
use Rattle.polcert_cells.specs.Words.{topic, IsWord}
use Rattle.polcert_cells.specs.Numbers.{IsNumber, one}
use Rattle.polcert_cells.specs.declared.elements.Elements.{Elements}
use Rattle.polcert_cells.specs.Elements.{AreElements, most_states, most_actions, most_observations}
use Rattle.polcert_format.specs.Items.{Item, IsDivided}
use Rattle.polcert_format.specs.Limits.{HasFewPairs, HasFewCells}
use Rattle.polcert_cells.specs.Preamble.{Preamble}
use Rattle.polcert_cells.specs.Entry.{MayBeGiven, IsEntry}
use Rattle.polcert_cells.specs.declared.elements.StartWeights.{StartWeights}
use Rattle.polcert_cells.specs.Start.{IsStart}
use Rattle.polcert_cells.specs.Meaning.{Meaning, meaning_of, HasProperRows, IsSame}

-- what the items so far say
pub record ModelSoFar : Type 0 where
  pub discount : Option ℕ
  pub costs : Option Bool
  pub states : Option Elements
  pub actions : Option Elements
  pub observations : Option Elements
  pub start : Option StartWeights
  pub entries : List Entry

abbrev pub nothing_known : ModelSoFar
nothing_known = record { discount = None; costs = None; states = None; actions = None; observations = None; start = None; entries = [] }

-- no start item and no entry came yet
pub record IsInPreamble (k : ModelSoFar) : Type 0 where
  pub no_start : k.start ≡ None
  pub no_entry : k.entries ≡ []

-- No line of the preamble is missing but that of observations, which an MDP leaves out, and this is what they say.
pub record HasLines (k : ModelSoFar) (p : Preamble) : Type 0 where
  pub discount : k.discount ≡ Some p.discount
  pub costs : k.costs ≡ Some p.costs
  pub states : k.states ≡ Some p.states
  pub actions : k.actions ≡ Some p.actions
  pub observations : k.observations ≡ p.observations

-- the preamble is complete, so that a start item, an entry or the end may stand
pub record IsComplete (k : ModelSoFar) (p : Preamble) : Type 0 where
  pub lines : HasLines k p
  pub pairs : HasFewPairs p

-- An item of this topic and body is right after what is known, and this is known after it.
pub data IsRight (k : ModelSoFar) : Topic → List Lexeme → ModelSoFar → Type 0 where
  discount : {colon : Lexeme} {ls : List Lexeme} {g : ℕ} → IsInPreamble k → k.discount ≡ None → colon.kind ≡ Colon
      → IsNumber ls (pos g) → g ≤ one → IsRight k Discount (colon ∷ ls) (record k { discount = Some g })
  rewards : {colon l : Lexeme} → IsInPreamble k → k.costs ≡ None → colon.kind ≡ Colon
      → IsWord (codes "reward") l → IsRight k Values (colon ∷ l ∷ []) (record k { costs = Some false })
  costs : {colon l : Lexeme} → IsInPreamble k → k.costs ≡ None → colon.kind ≡ Colon
      → IsWord (codes "cost") l → IsRight k Values (colon ∷ l ∷ []) (record k { costs = Some true })
  states : {colon : Lexeme} {ls : List Lexeme} {elements : Elements} → IsInPreamble k → k.states ≡ None → colon.kind ≡ Colon
      → AreElements most_states ls elements → IsRight k States (colon ∷ ls) (record k { states = Some elements })
  actions : {colon : Lexeme} {ls : List Lexeme} {elements : Elements} → IsInPreamble k → k.actions ≡ None → colon.kind ≡ Colon
      → AreElements most_actions ls elements → IsRight k Actions (colon ∷ ls) (record k { actions = Some elements })
  observations : {colon : Lexeme} {ls : List Lexeme} {elements : Elements} → IsInPreamble k → k.observations ≡ None → colon.kind ≡ Colon
      → AreElements most_observations ls elements → IsRight k Observations (colon ∷ ls) (record k { observations = Some elements })
  start : {p : Preamble} {ls : List Lexeme} {shares : StartWeights} → IsInPreamble k → IsComplete k p
      → IsStart p.states ls shares → IsRight k Start ls (record k { start = Some shares })
  entry : {p : Preamble} {table : Table} {ls : List Lexeme} {e : Entry} → IsComplete k p → MayBeGiven p table
      → IsEntry p table ls e → HasFewCells p (k.entries ++ e ∷ []) → IsRight k (Cells table) ls (record k { entries = k.entries ++ e ∷ [] })

-- Each item is right after those before it, from what was known to what is known at the end.
pub data AreRight : ModelSoFar → List Item → ModelSoFar → Type 0 where
  none : {k : ModelSoFar} → AreRight k [] k
  more : {k next last : ModelSoFar} {item : Item} {items : List Item} (t : Topic) → topic item.word ≡ Some t
      → IsRight k t item.body next → AreRight next items last → AreRight k (item ∷ items) last

-- The lexemes are right items and nothing before them, the preamble is complete, and this is known at the end.
pub record IsRightText (lexemes : List Lexeme) (p : Preamble) (k : ModelSoFar) : Type 0 where
  pub items : List Item
  pub divided : IsDivided lexemes [] items
  pub right : AreRight nothing_known items k
  pub complete : IsComplete k p

-- The lexemes are right, each row sums to its scale, and this is what they denote.
pub record Denotes (lexemes : List Lexeme) (m : Meaning) : Type 0 where
  pub preamble : Preamble
  pub known : ModelSoFar
  pub right : IsRightText lexemes preamble known
  pub same : IsSame m (meaning_of preamble known.start known.entries)
  pub rows : HasProperRows m

-- The text is the text of this model: it is tokens without a fault, and they denote the model.
pub record IsModelText (text : List ℕ) (m : Meaning) : Type 0 where
  pub lexemes : List Lexeme
  pub tokens : AreTokens text lexemes
  pub denotes : Denotes lexemes m
