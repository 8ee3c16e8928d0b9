-- A lexeme more of an item that was begun, and an item that begins.
use Rattle.std.proofs.Common.{◌≡◌, ◌∙◌, false, Some, List, [], ◌∷◌, ◌++◌, refl, ap}
use Rattle.std.proofs.lemmas.List.{append_assoc}
use Rattle.polcert_format.proofs.Common.{Lexeme, Topic, topic, begins_item, ModelSoFar, AreRightItems, IsWithinItem}
use Rattle.polcert_cells.proofs.Basics.{or_false_from}
use Rattle.polcert_format.proofs.Dividing.{no_word_append}

-- a lexeme that begins no item is one more of the item
abbrev pub within_continues : (seen : List Lexeme) (l : Lexeme) (k : ModelSoFar) (t : Topic) (body : List Lexeme)
    (w : IsWithinItem seen k t body) → begins_item l ≡ false
    → IsWithinItem (seen ++ l ∷ []) k t (body ++ l ∷ [])
within_continues seen l k t body w e = record {
  before = w.before;
  word = w.word;
  whole = ap (λ (s : List Lexeme). s ++ l ∷ []) w.whole ∙ append_assoc w.before (w.word ∷ body) (l ∷ []);
  items = w.items;
  topic_is = w.topic_is;
  no_word = no_word_append body (l ∷ []) w.no_word (or_false_from (begins_item l) false e refl);
}

-- after right items, an item begins with its word
abbrev pub item_begins : (seen : List Lexeme) (word : Lexeme) (k : ModelSoFar) (t : Topic) (a : AreRightItems seen k) → topic word ≡ Some t
    → IsWithinItem (seen ++ word ∷ []) k t []
item_begins seen word k t a e = record { before = seen; word = word; whole = refl; items = a; topic_is = e; no_word = refl }
