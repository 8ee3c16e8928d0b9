-- The form of an item: all that is said of a right one but what is decided only at its end, over its whole body. So it can be
-- said of lexemes that were taken whether they are still possible.
-- Source: the POMDP file format page at pomdp.org, whose forms of items these are, read from left to right.
use Rattle.std.specs.Prelude.{◌≡◌, ℕ, ◌<◌, ◌≤◌, List, [], ◌∷◌, ◌++◌, length, ℤ, pos, ◌⊎◌, Some, All, codes, map}
use Rattle.std.specs.List.{AllZip}
use Rattle.polcert_text.specs.Cut.{Lexeme}
use Rattle.polcert_text.specs.declared.tokens.TokenKind.TheVariants.{Colon}
use Rattle.polcert_cells.specs.declared.elements.Elements.{Elements}
use Rattle.polcert_cells.specs.declared.words.Topic.{Topic}
use Rattle.polcert_cells.specs.declared.words.Topic.TheVariants.{Start, Cells}
use Rattle.polcert_cells.specs.declared.entries.Table.{Table}
use Rattle.polcert_cells.specs.declared.entries.Entry.{Entry}
use Rattle.polcert_cells.specs.Entry.{MayBeGiven, IsEntry}
use Rattle.polcert_cells.specs.Elements.{count_of, StandsFor, number_of}
use Rattle.polcert_cells.specs.Numbers.{IsWhole, IsNumber, AreNumbers, one}
use Rattle.polcert_cells.specs.Preamble.{Preamble}
use Rattle.polcert_cells.specs.Words.{IsWord, IsName}
use Rattle.polcert_format.specs.Limits.{HasFewCells}
use Rattle.polcert_format.specs.Text.{ModelSoFar, IsInPreamble, IsComplete, IsRight}

-- What stands after `start:`, whatever its numbers sum to. One number alone may be any: only another number after it makes
-- it a probability.
pub data IsStartBodyForm (states : Elements) : List Lexeme → Type 0 where
  uniform : {l : Lexeme} → IsWord (codes "uniform") l → IsStartBodyForm states (l ∷ [])
  name : {l : Lexeme} {s : ℕ} → IsName l → number_of states l.bytes ≡ Some s → IsStartBodyForm states (l ∷ [])
  state_number : {l : Lexeme} {s : ℕ} → 1 < count_of states → IsWhole l s → s < count_of states → IsStartBodyForm states (l ∷ [])
  one_number : {ls : List Lexeme} {h : ℤ} → IsNumber ls h → IsStartBodyForm states ls
  probabilities : {ls : List Lexeme} (ps : List ℕ) → 1 < count_of states → AreNumbers ls (map pos ps) → length ps ≡ count_of states → All (λ p. p ≤ one) ps
      → IsStartBodyForm states ls

-- The lexemes after `start`, whichever states a list leaves.
pub data IsStartForm (states : Elements) : List Lexeme → Type 0 where
  plain : {colon : Lexeme} {ls : List Lexeme} → colon.kind ≡ Colon → IsStartBodyForm states ls → IsStartForm states (colon ∷ ls)
  listed : {word colon : Lexeme} {ls : List Lexeme} (chosen : List ℕ) → IsWord (codes "include") word ⊎ IsWord (codes "exclude") word → colon.kind ≡ Colon
      → AllZip (StandsFor states) ls chosen → IsStartForm states (word ∷ colon ∷ ls)

-- An item of this topic and body has the form of one that may stand after what is known: it is right, or only what is decided
-- at its end may be wrong: of an entry, that it gives too many cells.
pub data HasForm (k : ModelSoFar) (t : Topic) (body : List Lexeme) : Type 0 where
  right : {after : ModelSoFar} → IsRight k t body after → HasForm k t body
  entry : {p : Preamble} {table : Table} {e : Entry} → t ≡ Cells table → IsComplete k p → MayBeGiven p table → IsEntry p table body e → HasForm k t body
  start : {p : Preamble} → t ≡ Start → IsInPreamble k → IsComplete k p → IsStartForm p.states body → HasForm k t body

-- An entry that may stand after what is known, and is right but for the limits of cells: with it, entries give too many.
pub record PassesCellLimit (k : ModelSoFar) (t : Topic) (body : List Lexeme) : Type 0 where
  pub p : Preamble
  pub table : Table
  pub e : Entry
  pub topic_is : t ≡ Cells table
  pub complete : IsComplete k p
  pub may_be_given : MayBeGiven p table
  pub entry : IsEntry p table body e
  pub too_many : HasFewCells p (k.entries ++ e ∷ []) → ⊥

-- an item of this topic hasn't even the form of one, however its body continues
abbrev pub HasNoForm : ModelSoFar → Topic → List Lexeme → Type 0
HasNoForm k t body = (more : List Lexeme) → HasForm k t (body ++ more) → ⊥

-- An item of this topic can have the form of one, with a body that begins so. With three states `0.7 0.7` is still possible, and refused
-- at the item's end; `0.7 2.0` is not.
pub record IsPossible (k : ModelSoFar) (t : Topic) (body : List Lexeme) : Type 0 where
  pub more : List Lexeme
  pub form : HasForm k t (body ++ more)
