-- Every list of lexemes is divided into items in just one way.
use Rattle.std.proofs.Common.{◌≡◌, ◌∙◌, false, ⊎_elim, List, [], ◌∷◌, ◌++◌, flat_map, All, refl, sym, ap, arith}
use Rattle.polcert_format.proofs.Common.{All-cons, All-nil, list_any, Lexeme, begins_item, Item, lexemes_of, IsItem, IsDivided}
use Rattle.std.proofs.lemmas.List.Elements.{All-head, All-tail}
use Rattle.polcert_cells.proofs.Basics.{true≢false, or_false, is_true_or_false, cons≢nil, same_head, same_tail}

abbrev all_lexemes : List Item → List Lexeme
all_lexemes items = flat_map lexemes_of items

-- a lexeme that begins no item isn't the first of items
no_first : (l : Lexeme) (rest : List Lexeme) (items : List Item) → begins_item l ≡ false → All IsItem items → l ∷ rest ≡ all_lexemes items
    → ⊥
no_first l rest [] none all e = cons≢nil e
no_first l rest (x ∷ xs) none all e = true≢false ((All-head IsItem x xs all).word) (sym (ap begins_item (same_head e)) ∙ none)

-- items have one first front, if what comes after has one division
same_front : (xs : List Item) → All IsItem xs → ((ys : List Item) → All IsItem ys → all_lexemes xs ≡ all_lexemes ys → xs ≡ ys)
    → (f g : List Lexeme) (ys : List Item) → All IsItem ys → list_any begins_item f ≡ false → list_any begins_item g ≡ false
    → f ++ all_lexemes xs ≡ g ++ all_lexemes ys → (f ≡ g) × (xs ≡ ys)
same_front xs all following [] [] ys others p q e = (refl, following ys others e)
same_front xs all following (l ∷ f) [] ys others p q e = grind (arith, or_false, no_first)
same_front xs all following [] (l ∷ g) ys others p q e = grind (arith, or_false, no_first)
same_front xs all following (l ∷ f) (m ∷ g) ys others p q e =
    let rest = same_front xs all following f g ys others (or_false _ _ p).1
    (or_false _ _ q).1 (same_tail e) in
    ((λ i. (same_head e) i ∷ rest.0 i), rest.1)

same_items : (xs : List Item) → All IsItem xs → (ys : List Item) → All IsItem ys → all_lexemes xs ≡ all_lexemes ys → xs ≡ ys
same_items [] all [] others e = refl
same_items [] all (y ∷ ys) others e = absurd (cons≢nil (sym e))
same_items (x ∷ xs) all [] others e = absurd (cons≢nil e)
same_items (x ∷ xs) all (y ∷ ys) others e =
    let rest = same_front xs (All-tail IsItem x xs all) (same_items xs (All-tail IsItem x xs all)) x.body y.body ys
    (All-tail IsItem y ys others)
    (All-head IsItem x xs all).body (All-head IsItem y ys others).body (same_tail e) in
    (λ i. record { word = (same_head e) i; body = rest.0 i } ∷ rest.1 i)

pub one_division : (ls f g : List Lexeme) (xs ys : List Item) → IsDivided ls f xs → IsDivided ls g ys → (f ≡ g) × (xs ≡ ys)
one_division ls f g xs ys a b = same_front xs a.each (same_items xs a.each) f g ys b.each a.no_word b.no_word (sym a.whole ∙ b.whole)

-- a further lexeme before lexemes that are divided
more_division : (l : Lexeme) (ls f : List Lexeme) (xs : List Item) → IsDivided ls f xs → (g : List Lexeme) × (ys : List Item)
    × IsDivided (l ∷ ls) g ys
more_division l ls f xs rest = ⊎_elim (λ begins. let item : Item = record { word = l; body = f } in (
  [],
  item ∷ xs,
  record {
    whole = ap (λ t. l ∷ t) rest.whole;
    no_word = refl;
    each = All-cons IsItem item xs (record { word = begins; body = rest.no_word }) rest.each;
  },
))
    (λ none. (
      l ∷ f,
      xs,
      record {
        whole = ap (λ t. l ∷ t) rest.whole;
        no_word = grind arith;
        each = rest.each;
      },
    ))
    (is_true_or_false _)

pub has_division : (ls : List Lexeme) → (f : List Lexeme) × (xs : List Item) × IsDivided ls f xs
has_division [] = ([], [], record { whole = refl; no_word = refl; each = All-nil _ })
has_division (l ∷ ls) = let rest = has_division ls in more_division l ls _ _ rest.2
