-- What is settled by the lexemes taken so far, however the text continues: as a reader of a slice or of a stream says it.
use Rattle.std.specs.Prelude.{◌≡◌, List, [], ◌∷◌, ◌++◌, false, Some}
use Rattle.std.specs.List.{list_any}
use Rattle.polcert_text.specs.Cut.{Lexeme}
use Rattle.polcert_cells.specs.declared.words.Topic.{Topic}
use Rattle.polcert_cells.specs.Words.{topic, begins_item}
use Rattle.polcert_format.specs.Items.{Item, IsDivided}
use Rattle.polcert_format.specs.Text.{ModelSoFar, nothing_known, IsRight, AreRight}

-- The lexemes are whole items, each right, and this is known after them.
pub record AreRightItems (seen : List Lexeme) (k : ModelSoFar) : Type 0 where
  pub items : List Item
  pub divided : IsDivided seen [] items
  pub right : AreRight nothing_known items k

-- after right items an item has begun, and these are its lexemes so far
pub record IsWithinItem (seen : List Lexeme) (k : ModelSoFar) (t : Topic) (body : List Lexeme) : Type 0 where
  pub before : List Lexeme
  pub word : Lexeme
  pub whole : seen ≡ before ++ word ∷ body
  pub items : AreRightItems before k
  pub topic_is : topic word ≡ Some t
  pub no_word : list_any begins_item body ≡ false

-- an item of this topic isn't right with just this body
abbrev pub IsWrong : ModelSoFar → Topic → List Lexeme → Type 0
IsWrong k t body = (after : ModelSoFar) → IsRight k t body after → ⊥

-- an item of this topic isn't right, however its body continues
abbrev pub CannotGoOn : ModelSoFar → Topic → List Lexeme → Type 0
CannotGoOn k t body = (more : List Lexeme) → IsWrong k t (body ++ more)
