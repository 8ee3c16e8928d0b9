-- Lexemes divided into items, put together.
use Rattle.std.proofs.Common.{◌≡◌, ◌∙◌, true, false, Some, is_some, List, [], ◌∷◌, ◌++◌, flat_map, refl, sym, ap, arith}
use Rattle.std.proofs.lemmas.List.{append_assoc}
use Rattle.polcert_format.proofs.Common.{All-nil, All-append, list_any, Lexeme, Topic, topic, begins_item, Item, lexemes_of}
use Rattle.polcert_format.proofs.Common.{IsItem, IsDivided}
use Rattle.polcert_cells.proofs.Basics.{or_false, or_false_from}

pub all_append : (xs ys : List Item) → flat_map lexemes_of (xs ++ ys) ≡ flat_map lexemes_of xs ++ flat_map lexemes_of ys
all_append [] ys = refl
all_append (x ∷ xs) ys = cc (all_append xs ys, append_assoc (lexemes_of x) (flat_map lexemes_of xs) (flat_map lexemes_of ys))

pub no_word_append : (xs ys : List Lexeme) → list_any begins_item xs ≡ false → list_any begins_item ys ≡ false
    → list_any begins_item (xs ++ ys) ≡ false
no_word_append [] ys p q = q
no_word_append (x ∷ xs) ys p q =
    let both = or_false _ _ p in
    or_false_from _ _ both.0 (no_word_append xs ys both.1 q)

pub begins : (l : Lexeme) (t : Topic) → topic l ≡ Some t → begins_item l ≡ true
begins l t e = ap (λ o. is_some o) e

-- lexemes before what is divided
pub append_division : (xs ls f : List Lexeme) (ys : List Item) → list_any begins_item xs ≡ false → IsDivided ls f ys
    → IsDivided (xs ++ ls) (xs ++ f) ys
append_division xs ls f ys p d = grind (arith, append_assoc, no_word_append)

-- an item after items
pub next_division : (seen tail f : List Lexeme) (word : Lexeme) (items ys : List Item) → begins_item word ≡ true → IsDivided seen [] items
    → IsDivided tail f ys
    → IsDivided (seen ++ word ∷ tail) [] (items ++ (record { word = word; body = f }) ∷ ys)
next_division seen tail f word items ys w a d =
    let item : Item = record { word = word; body = f } in
    let following : word ∷ tail ≡ flat_map lexemes_of (item ∷ ys) = ap (λ (l : List Lexeme). word ∷ l) d.whole in
    record {
      whole = (λ i. a.whole i ++ following i) ∙ sym (all_append items (item ∷ ys));
      no_word = refl;
      each = All-append IsItem items (item ∷ ys) a.each (grind arith);
    }

pub empty_division : IsDivided [] [] []
empty_division = record { whole = refl; no_word = refl; each = All-nil _ }
