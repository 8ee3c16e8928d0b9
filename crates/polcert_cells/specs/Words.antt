-- The reserved words, and the nine of them that begin an item.
-- Source: the POMDP file format page and its grammar at pomdp.org; the page's lines begin with these words.
-- Letters count in just this case.
use Rattle.std.specs.Prelude.{◌≡◌, ℕ, Bool, false, ◌||◌, List, [], ◌∷◌, Option, Some, None, codes, bytes_eq, if◌then◌else◌, is_some}
use Rattle.std.specs.List.{list_any}
use Rattle.polcert_text.specs.Cut.{Lexeme}
use Rattle.polcert_text.specs.declared.tokens.TokenKind.{TokenKind}
use Rattle.polcert_text.specs.declared.tokens.TokenKind.TheVariants.{Name}
use Rattle.polcert_cells.specs.declared.entries.Table.TheVariants.{Transition, Observation, Reward}
pub use Rattle.polcert_cells.specs.declared.words.Topic.{Topic}
pub use Rattle.polcert_cells.specs.declared.words.Topic.TheVariants.{Discount, Values, States, Actions, Observations, Start, Cells}

-- the topic of an item that begins with this word
unfoldable pub topic_of : List ℕ → Option Topic
topic_of word =
    if bytes_eq word (codes "discount") then Some Discount
    else (if bytes_eq word (codes "values") then Some Values
    else (if bytes_eq word (codes "states") then Some States
    else (if bytes_eq word (codes "actions") then Some Actions
    else (if bytes_eq word (codes "observations") then Some Observations
    else (if bytes_eq word (codes "start") then Some Start
    else (if bytes_eq word (codes "T") then Some (Cells Transition)
    else (if bytes_eq word (codes "O") then Some (Cells Observation)
    else (if bytes_eq word (codes "R") then Some (Cells Reward)
    else None))))))))

-- the reserved words that begin no item
abbrev pub inner_words : List (List ℕ)
inner_words =
    codes "reward" ∷ codes "cost" ∷ codes "include" ∷ codes "exclude" ∷ codes "uniform" ∷ codes "identity" ∷ codes "reset" ∷ []

unfoldable pub is_reserved : List ℕ → Bool
is_reserved word = is_some (topic_of word) || list_any (bytes_eq word) inner_words

abbrev pub topic_in : TokenKind → List ℕ → Option Topic
topic_in Name word = topic_of word
topic_in _ word = None

-- the topic of the item that the lexeme begins, if it begins one
abbrev pub topic : Lexeme → Option Topic
topic l = topic_in l.kind l.bytes

abbrev pub begins_item : Lexeme → Bool
begins_item l = is_some (topic l)

-- the lexeme is this word
pub record IsWord (word : List ℕ) (l : Lexeme) : Type 0 where
  pub kind : l.kind ≡ Name
  pub bytes : l.bytes ≡ word

-- the lexeme is a name of an element: a name that isn't reserved
pub record IsName (l : Lexeme) : Type 0 where
  pub kind : l.kind ≡ Name
  pub free : is_reserved l.bytes ≡ false
