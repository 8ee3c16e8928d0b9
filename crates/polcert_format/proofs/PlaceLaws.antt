-- The places of a text's lexemes rise, so that a refusal lies in its item.
use Rattle.std.proofs.Common.{◌≡◌, ◌∙◌, ℕ, suc, ◌+◌, ◌-◌, ◌≤◌, Bool, cond, Option, Some, None, List, [], ◌∷◌, ◌++◌, length}
use Rattle.std.proofs.Common.{take, nat_lt, flat_map, refl, sym, ap, subst, arith, length-drop, length-take-le, add-one, rules}
use Rattle.std.proofs.lemmas.List.{append_assoc}
use Rattle.polcert_format.proofs.Common.{Lexeme, Rest, TakesToken, IsCut, text_rest, end_place, text_limit, TextTooLong, Item, lexemes_of}
use Rattle.polcert_format.proofs.Common.{IsDivided, TextTokens, AreTokensOf, word_place, place_or, TokenFault}
use Rattle.polcert_text.specs.Reading.{fault_place}
use Rattle.polcert_format.specs.FirstWrong.{item_begin, LiesInItem}
use Rattle.polcert_format.proofs.Dividing.{all_append, empty_division}

-- from here to there the places of the lexemes rise
abbrev pub Rises : ℕ → List Lexeme → ℕ → Type 0
Rises from [] to = from ≤ to
Rises from (l ∷ ls) to = (from ≤ l.place) × Rises l.place ls to

pub rises_le : (a b : ℕ) (ls : List Lexeme) → Rises a ls b → a ≤ b
rises_le a b [] r = r
rises_le a b (l ∷ ls) r = omega (arith, rises_le l.place b ls r.1, r.0)

pub rises_from : (a b c : ℕ) (ls : List Lexeme) → a ≤ b → Rises b ls c → Rises a ls c
rises_from a b c [] l r = omega (arith, l, r)
rises_from a b c (x ∷ ls) l r = (omega (arith, l, r.0), r.1)

pub rises_split : (a b : ℕ) (xs ys : List Lexeme) → Rises a (xs ++ ys) b → Rises a xs (place_or ys b) × Rises (place_or ys b) ys b
rises_split a b [] [] r = (r, omega arith)
rises_split a b [] (y ∷ ys) r = (r.0, (omega arith, r.1))
rises_split a b (x ∷ xs) ys r = let rest = rises_split _ b xs ys r.1 in ((r.0, rest.0), rest.1)

-- what a token leaves ends where it ended before, and begins after the token
pub token_leaves : (old new : Rest) (token : Lexeme) → TakesToken old token new → (old.place ≤ token.place) × (token.place ≤ new.place)
    × (end_place new ≡ end_place old)
token_leaves old new token t = grind (arith, length-drop)

pub cut_rises : (rest : Rest) (ls : List Lexeme) (ending : Option TokenFault) → IsCut rest ls ending → Rises rest.place ls (end_place rest)
cut_rises rest [] ending cut = omega arith
cut_rises rest (l ∷ ls) ending cut =
    let leaves = token_leaves rest _ l cut.1 in
    (leaves.0, subst (Rises l.place ls) leaves.2 (rises_from _ _ _ ls leaves.1 (cut_rises cut.0 ls ending cut.2)))

pub tokens_rise : (text : List ℕ) (ts : TextTokens) → AreTokensOf text ts → Rises 0 ts.lexemes ts.end
tokens_rise text ts tokens =
    subst (Rises 0 ts.lexemes) (sym tokens.end_is)
    (rises_from 0 (text_rest text text_limit).place _ _ (omega arith)
    (cut_rises _ _ _ tokens.cut))

-- ---- items

first_place : (items : List Item) (stop : ℕ) → place_or (flat_map lexemes_of items) stop ≡ word_place items stop 0
first_place [] stop = refl
first_place (x ∷ xs) stop = refl

nth_place : (before items : List Item) (stop : ℕ) → word_place (before ++ items) stop (length before) ≡ word_place items stop 0
nth_place [] items stop = refl
nth_place (x ∷ xs) items stop = nth_place xs _ stop

next_place : (before : List Item) (item : Item) (after : List Item) (stop : ℕ)
    → word_place (before ++ item ∷ after) stop (suc (length before)) ≡ word_place after stop 0
next_place [] item after stop = refl
next_place (x ∷ xs) item after stop = next_place xs item _ stop

place_after : (rest : List Lexeme) (items : List Item) (stop : ℕ)
    → place_or (rest ++ flat_map lexemes_of items) stop ≡ place_or rest (word_place items stop 0)
place_after rest items stop = grind (arith, first_place)

module _ (ts : TextTokens) (before : List Item) (item : Item) (after : List Item) where
  -- what stands from its word on, up to the next, lies in an item
  lies_between : (place : ℕ)
      → IsDivided ts.lexemes [] (before ++ item ∷ after)
      → item.word.place ≤ place → place ≤ word_place after ts.end 0 → LiesInItem ts (length before + 1) place
  lies_between place d low high = search (rules, add-one, nth_place, next_place)

  -- a place where a part of the item's body was taken lies in the item
  pub lies_in_item : (taken rest : List Lexeme)
      → Rises 0 ts.lexemes ts.end
      → IsDivided ts.lexemes [] (before ++ item ∷ after) → item.body ≡ taken ++ rest
      → LiesInItem ts (length before + 1) (place_or rest (word_place after ts.end 0))
  lies_in_item taken rest rises d e =
      let following = flat_map lexemes_of after in
      let all = rises_split 0 ts.end (flat_map lexemes_of before) (item.word ∷ (taken ++ (rest ++ following)))
      (subst (λ ls. Rises 0 ls ts.end) (grind (arith, append_assoc, all_append)) rises) in
      let inner = rises_split item.word.place ts.end taken (rest ++ following) all.1.1 in
      let place : place_or (rest ++ following) ts.end ≡ place_or rest (word_place after ts.end 0) = place_after rest after ts.end in
      let low = rises_le item.word.place (place_or (rest ++ following) ts.end) taken inner.0 in
      let outer = rises_split (place_or (rest ++ following) ts.end) ts.end rest following inner.1 in
      let next : place_or following ts.end ≡ word_place after ts.end 0 = first_place after ts.end in
      let high = rises_le (place_or (rest ++ following) ts.end) (place_or following ts.end) rest outer.0 in
      lies_between (place_or rest (word_place after ts.end 0)) d (omega (arith, low, place))
      (omega (arith, high, place, next))

  -- so does the place of its word
  pub lies_at_word : Rises 0 ts.lexemes ts.end
      → IsDivided ts.lexemes [] (before ++ item ∷ after) → LiesInItem ts (length before + 1) item.word.place
  lies_at_word rises d =
      let following = flat_map lexemes_of after in
      let all = rises_split 0 ts.end (flat_map lexemes_of before) (item.word ∷ (item.body ++ following))
      (subst (λ ls. Rises 0 ls ts.end) (d.whole ∙ all_append before (item ∷ after)) rises) in
      let high = rises_le item.word.place (place_or following ts.end) item.body
      (rises_split item.word.place ts.end item.body following all.1.1).0 in
      lies_between item.word.place d (omega arith) (omega (arith, high, first_place after ts.end))

-- what stands before the first item word lies in item 0
pub lies_before_items : (ts : TextTokens) (l : Lexeme) (ls : List Lexeme) (items : List Item) → Rises 0 ts.lexemes ts.end
    → IsDivided ts.lexemes (l ∷ ls) items → LiesInItem ts 0 l.place
lies_before_items ts l ls items rises d = grind (arith, rises_le, rises_split, first_place)

last_place : (items : List Item) (stop : ℕ) → word_place items stop (length items) ≡ stop
last_place [] stop = refl
last_place (x ∷ xs) stop = last_place xs stop

past_place : (items : List Item) (stop : ℕ) → word_place items stop (suc (length items)) ≡ stop
past_place [] stop = refl
past_place (x ∷ xs) stop = past_place xs stop

-- the end lies where the text ends
pub lies_at_end : (ts : TextTokens) (items : List Item) → IsDivided ts.lexemes [] items → LiesInItem ts (length items + 1) ts.end
lies_at_end ts items d = search (rules, add-one, last_place, past_place)

-- ---- the place of a fault

-- a fault in place of the clean end stands where the bytes end
abbrev EndsThere : Rest → Type 0
EndsThere rest = (f : TokenFault) → rest.ending ≡ Some f → fault_place f ≡ end_place rest

cut_fault : (rest : Rest) (ls : List Lexeme) (f : TokenFault) → EndsThere rest → IsCut rest ls (Some f)
    → Rises rest.place ls (fault_place f) × (fault_place f ≤ end_place rest)
cut_fault rest [] f there cut = grind arith
cut_fault rest (l ∷ ls) f there cut =
    let leaves = token_leaves rest _ l cut.1 in
    let following = cut_fault _ ls f (λ g e. there g (sym (ap (λ (r : Rest). r.ending) cut.1.rest) ∙ e) ∙ sym leaves.2) cut.2 in (
      (leaves.0, rises_from _ _ _ ls leaves.1 following.0),
      grind arith,
    )

abbrev too_long : List ℕ → ℕ → Rest
too_long text limit = record { place = 0; bytes = take limit text; ending = Some (TextTooLong limit) }

abbrev whole_text : List ℕ → Rest
whole_text text = record { place = 0; bytes = text; ending = None }

too_long_there : (text : List ℕ) (limit : ℕ) (long : Bool) → nat_lt limit (length text) ≡ long
    → EndsThere (cond long (too_long text limit) (whole_text text))
too_long_there text limit long h1 = grind (arith, length-take-le)

pub fault_rises : (text : List ℕ) (ts : TextTokens) (f : TokenFault) → AreTokensOf text ts → ts.ending ≡ Some f
    → Rises 0 ts.lexemes (fault_place f) × (fault_place f ≤ ts.end)
fault_rises text ts f tokens e =
    let rest = text_rest text text_limit in
    let cut = cut_fault rest _ f (too_long_there text _ _ refl)
    (subst (IsCut rest ts.lexemes) e tokens.cut) in
    (rises_from 0 _ _ _ (omega arith) cut.0, grind arith)

-- a fault lies in the last item
pub lies_at_fault : (ts : TextTokens) (before : List Item) (item : Item) (place : ℕ) → Rises 0 ts.lexemes place → place ≤ ts.end
    → IsDivided ts.lexemes [] (before ++ item ∷ []) → LiesInItem ts (length before + 1) place
lies_at_fault ts before item place rises high d =
    let all = rises_split 0 place (flat_map lexemes_of before) (item.word ∷ (item.body ++ []))
    (subst (λ ls. Rises 0 ls place) (d.whole ∙ all_append before (item ∷ [])) rises) in
    record {
      front = [];
      items = before ++ item ∷ [];
      divided = d;
      from = subst (λ n. item_begin (before ++ item ∷ []) ts.end n ≤ place) (sym (add-one (length before)))
          (omega (arith, nth_place before (item ∷ []) ts.end, rises_le item.word.place place (item.body ++ []) all.1.1));
      to = subst (λ n. place ≤ word_place (before ++ item ∷ []) ts.end n) (sym (add-one (length before)))
          (omega (arith, next_place before item [] ts.end, high));
    }

-- where no lexeme came, it lies in item 0
pub lies_at_once : (ts : TextTokens) (place : ℕ) → place ≤ ts.end → ts.lexemes ≡ [] → LiesInItem ts 0 place
lies_at_once ts place high none = grind (arith, empty_division)
