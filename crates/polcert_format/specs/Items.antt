-- Items: the lexemes of a text, cut before each word that begins an item. Items are counted from 1; what stands
-- before the first is item 0, and the text's end counts as one item more than the last.
-- Source: the POMDP file format page at pomdp.org, whose preamble lines, start line and entries these are. Our own: their
-- numbers.
use Rattle.std.specs.Prelude.{◌≡◌, true, false, List, ◌∷◌, ◌++◌, All, flat_map}
use Rattle.std.specs.List.{list_any}
use Rattle.polcert_text.specs.Cut.{Lexeme}
use Rattle.polcert_cells.specs.Words.{begins_item}

-- a word that begins an item, and what stands after it
pub record Item : Type 0 where
  pub word : Lexeme
  pub body : List Lexeme

-- a word that begins an item, and after it none
pub record IsItem (item : Item) : Type 0 where
  pub word : begins_item item.word ≡ true
  pub body : list_any begins_item item.body ≡ false

-- The lexemes are `front`, in which no item begins, and then these items.
pub record IsDivided (lexemes front : List Lexeme) (items : List Item) : Type 0 where
  pub whole : lexemes ≡ front ++ flat_map (λ (item : Item). item.word ∷ item.body) items
  pub no_word : list_any begins_item front ≡ false
  pub each : All IsItem items

abbrev pub lexemes_of : Item → List Lexeme
lexemes_of item = item.word ∷ item.body
