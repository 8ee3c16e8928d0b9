-- The first wrong item of a text, where the place of its refusal may lie, and what is decided by where it stands.
use Rattle.std.specs.Prelude.{◌≡◌, ℕ, suc, zero, ◌+◌, ◌≤◌, List, [], ◌∷◌, ◌++◌, length, Option, Some, None}
use Rattle.polcert_text.specs.Cut.{Lexeme, IsCut, text_rest, end_place, text_limit}
use Rattle.polcert_text.specs.declared.tokens.TokenFault.{TokenFault}
use Rattle.polcert_format.specs.declared.fault.ItemFault.{ItemFault}
use Rattle.polcert_format.specs.declared.fault.ItemFault.TheVariants.{BeforeFirstItem}
use Rattle.polcert_cells.specs.declared.words.Topic.{Topic}
use Rattle.polcert_cells.specs.Words.{topic}
use Rattle.polcert_format.specs.Items.{Item, IsDivided}
use Rattle.polcert_cells.specs.Preamble.{Preamble}
use Rattle.polcert_format.specs.Text.{ModelSoFar, nothing_known, IsComplete, AreRight}
use Rattle.polcert_format.specs.Order.{preamble_fault, word_fault}
use Rattle.polcert_format.specs.Reading.{IsWrong}

-- the lexemes of a text, how they end (`None`: cleanly), and the offset where the text below its limit ends
pub record TextTokens : Type 0 where
  pub lexemes : List Lexeme
  pub ending : Option TokenFault
  pub end : ℕ

abbrev pub text_tokens : List Lexeme → Option TokenFault → ℕ → TextTokens
text_tokens lexemes ending end = record { lexemes = lexemes; ending = ending; end = end }

pub record AreTokensOf (text : List ℕ) (ts : TextTokens) : Type 0 where
  pub cut : IsCut (text_rest text text_limit) ts.lexemes ts.ending
  pub end_is : ts.end ≡ end_place (text_rest text text_limit)

abbrev pub HasTokens : List ℕ → Type 0
HasTokens text = (ts : TextTokens) × AreTokensOf text ts

-- The item of this number is the first that isn't right. A fault that ends the tokens belongs to the last item; the
-- end is wrong where the preamble isn't complete.
pub data IsFirstWrong (ts : TextTokens) (number : ℕ) : Type 0 where
  wrong_front : (l : Lexeme) (ls : List Lexeme) (items : List Item) → IsDivided ts.lexemes (l ∷ ls) items → number ≡ 0 → IsFirstWrong ts number
  wrong_fault : (fault : TokenFault) → ts.lexemes ≡ [] → ts.ending ≡ Some fault → number ≡ 0 → IsFirstWrong ts number
  wrong_item : (before : List Item) (wrong : Item) (after : List Item) (k : ModelSoFar) → IsDivided ts.lexemes [] (before ++ wrong ∷ after) → AreRight nothing_known before k
      → ((t : Topic) → topic wrong.word ≡ Some t → IsWrong k t wrong.body) → number ≡ length before + 1 → IsFirstWrong ts number
  wrong_last : (before : List Item) (last : Item) (k : ModelSoFar) (fault : TokenFault) → IsDivided ts.lexemes [] (before ++ last ∷ []) → AreRight nothing_known before k
      → ts.ending ≡ Some fault → number ≡ length before + 1 → IsFirstWrong ts number
  wrong_end : (items : List Item) (k : ModelSoFar) → IsDivided ts.lexemes [] items → AreRight nothing_known items k → ts.ending ≡ None
      → ((p : Preamble) → IsComplete k p → ⊥) → number ≡ length items + 1 → IsFirstWrong ts number

-- where the word of an item stands; after the last item the text ends
abbrev pub word_place : List Item → ℕ → ℕ → ℕ
word_place [] end n = end
word_place (item ∷ items) end zero = item.word.place
word_place (item ∷ items) end (suc n) = word_place items end n

-- item 0 begins at byte 0, item 1 at the first word, and the end where the text ends
abbrev pub item_begin : List Item → ℕ → ℕ → ℕ
item_begin items end zero = 0
item_begin items end (suc n) = word_place items end n

-- The place lies in the item: from its word to the word of the next, or the end of the text.
pub record LiesInItem (ts : TextTokens) (number place : ℕ) : Type 0 where
  pub front : List Lexeme
  pub items : List Item
  pub divided : IsDivided ts.lexemes front items
  pub from : item_begin items ts.end number ≤ place
  pub to : place ≤ word_place items ts.end number

-- What is decided by where an item stands, before its body is read.
pub data IsDecided (ts : TextTokens) (number : ℕ) (fault : ItemFault) (place : ℕ) : Type 0 where
  before_items : (l : Lexeme) (ls : List Lexeme) (items : List Item) → IsDivided ts.lexemes (l ∷ ls) items
      → number ≡ 0 → fault ≡ BeforeFirstItem → place ≡ l.place → IsDecided ts number fault place
  at_word : (before : List Item) (item : Item) (after : List Item) (k : ModelSoFar) (t : Topic) → IsDivided ts.lexemes [] (before ++ item ∷ after)
      → AreRight nothing_known before k → topic item.word ≡ Some t → word_fault k t ≡ Some fault
      → number ≡ length before + 1 → place ≡ item.word.place → IsDecided ts number fault place
  at_end : (items : List Item) (k : ModelSoFar) → IsDivided ts.lexemes [] items → AreRight nothing_known items k → ts.ending ≡ None
      → preamble_fault k ≡ Some fault → number ≡ length items + 1 → place ≡ ts.end → IsDecided ts number fault place
