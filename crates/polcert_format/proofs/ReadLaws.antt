-- The first wrong item, from the lexemes taken so far and however the text continues.
use Rattle.std.proofs.Common.{◌≡◌, ◌∙◌, ℕ, suc, ◌+◌, arith, length-append, true, false, Option, Some, None, List, [], ◌∷◌, ◌++◌, length}
use Rattle.std.proofs.Common.{rules}
use Rattle.std.proofs.Common.{refl, sym, ap, subst}
use Rattle.std.proofs.lemmas.List.{append_assoc, append-nil}
use Rattle.polcert_format.proofs.Common.{Lexeme, TokenFault, Topic, topic, begins_item, Item, IsDivided, Preamble, ModelSoFar}
use Rattle.polcert_format.proofs.Common.{nothing_known, IsComplete, IsRight, AreRight, none, more, IsRightText, AreRightItems, IsWithinItem}
use Rattle.polcert_format.proofs.Common.{IsWrong, TextTokens, text_tokens}
use Rattle.polcert_format.specs.Reading.{CannotGoOn}
use Rattle.polcert_format.specs.FirstWrong.{IsFirstWrong, wrong_front, wrong_fault, wrong_item, wrong_last, wrong_end}
use Rattle.polcert_cells.proofs.Basics.{one_some, some≢none, cons≢nil, same_head, same_tail}
use Rattle.polcert_format.proofs.ItemLaws.{one_division, has_division}
use Rattle.polcert_format.proofs.TextLaws.{one_right, one_known}
use Rattle.polcert_format.proofs.Dividing.{begins, append_division, next_division, empty_division}
use Rattle.polcert_format.proofs.RightItems.{append_right, no_wrong_next, no_wrong_item}

-- the lexemes, cut as the item is that was begun
pub within_division : (seen body tail f : List Lexeme) (k : ModelSoFar) (t : Topic) (ys : List Item) (w : IsWithinItem seen k t body)
    → IsDivided tail f ys
    → IsDivided (seen ++ tail) [] (w.items.items ++ (record { word = w.word; body = body ++ f }) ∷ ys)
within_division seen body tail f k t ys w d =
    let joined = ap (λ s. s ++ tail) w.whole
    ∙ append_assoc _ _ tail in
    rw joined
    (next_division _ _ _ _ _ ys (begins w.word t w.topic_is) w.items.divided (append_division body tail f ys w.no_word d))

pub seen_division : (seen body : List Lexeme) (k : ModelSoFar) (t : Topic) (w : IsWithinItem seen k t body)
    → IsDivided seen [] (w.items.items ++ (record { word = w.word; body = body }) ∷ [])
seen_division seen body k t w =
    rw (← append-nil seen)
    (rw (← append-nil body)
    (within_division seen body [] [] k t [] w empty_division))

-- where the item is right with the lexemes so far, they are right items again
abbrev pub item_ends : (seen body : List Lexeme) (k after : ModelSoFar) (t : Topic) → IsWithinItem seen k t body → IsRight k t body after
    → AreRightItems seen after
item_ends seen body k after t w r =
    let item : Item = record { word = w.word; body = body } in
    record {
      items = w.items.items ++ item ∷ [];
      divided = seen_division seen body k t w;
      right = append_right nothing_known k after w.items.items (item ∷ []) w.items.right (more t w.topic_is r none);
    }

-- a wrong item, whatever topic its word is said to have
whatever_topic : (k : ModelSoFar) (t : Topic) (word : Lexeme) (body : List Lexeme) → topic word ≡ Some t → IsWrong k t body → (u : Topic)
    → topic word ≡ Some u → IsWrong k u body
whatever_topic k t word body e wrong u f = subst (λ x. IsWrong k x body) (one_some e f) wrong

module _ (seen : List Lexeme) (body : List Lexeme) (k : ModelSoFar) (t : Topic) where
  pub wrong_within : (w : IsWithinItem seen k t body) → CannotGoOn k t body
      → (further : List Lexeme) (ending : Option TokenFault) (stop : ℕ)
      → IsFirstWrong (text_tokens (seen ++ further) ending stop) (length w.items.items + 1)
  wrong_within w stuck further ending stop =
      let d = has_division _ in
      wrong_item _ _ d.1 k (within_division seen body _ d.0 k t d.1 w d.2)
      w.items.right
      (grind arith) refl

  pub wrong_at_word : (next : Lexeme) (w : IsWithinItem seen k t body)
      → IsWrong k t body → begins_item next ≡ true
      → (further : List Lexeme) (ending : Option TokenFault) (stop : ℕ)
      → IsFirstWrong (text_tokens (seen ++ next ∷ further) ending stop) (length w.items.items + 1)
  wrong_at_word next w wrong b further ending stop =
      let d = has_division _ in
      let item : Item = record { word = next; body = d.0 } in
      wrong_item _ _ _ k
      (within_division seen body _ [] k t _ w (next_division [] further d.0 next [] d.1 b empty_division d.2)) w.items.right
      (search rules) refl

  pub wrong_at_end : (w : IsWithinItem seen k t body) → IsWrong k t body
      → (ending : Option TokenFault) (stop : ℕ) → IsFirstWrong (text_tokens seen ending stop) (length w.items.items + 1)
  wrong_at_end w wrong ending stop =
      wrong_item _ _ [] k (seen_division seen body k t w) w.items.right
      (whatever_topic k t w.word body w.topic_is wrong) refl

  pub wrong_at_fault : (w : IsWithinItem seen k t body) (fault : TokenFault) (stop : ℕ)
      → IsFirstWrong (text_tokens seen (Some fault) stop) (length w.items.items + 1)
  wrong_at_fault w fault stop = wrong_last _ _ k _ (seen_division seen body k t w) w.items.right refl refl

pub wrong_before_items : (l : Lexeme) → begins_item l ≡ false → (further : List Lexeme) (ending : Option TokenFault) (stop : ℕ)
    → IsFirstWrong (text_tokens (l ∷ further) ending stop) 0
wrong_before_items l e further ending stop =
    let d = has_division further in
    wrong_front l d.0 d.1 (grind arith) refl

pub wrong_at_once : (fault : TokenFault) (stop : ℕ) → IsFirstWrong (text_tokens [] (Some fault) stop) 0
wrong_at_once fault stop = wrong_fault _ refl refl refl

pub wrong_after_items : (seen : List Lexeme) (k : ModelSoFar) (r : AreRightItems seen k) → ((p : Preamble) → IsComplete k p → ⊥)
    → (stop : ℕ)
    → IsFirstWrong (text_tokens seen None stop) (length r.items + 1)
wrong_after_items seen k r lacking stop = wrong_end _ k r.divided r.right refl lacking refl

nil≢cons : {A : Type 0} {x : A} {xs : List A} → [] ≡ x ∷ xs → ⊥
nil≢cons e = cc

-- no text with a first wrong item is taken
pub not_taken : (ts : TextTokens) (n : ℕ) (p : Preamble) (last : ModelSoFar) → IsFirstWrong ts n → ts.ending ≡ None
    → IsRightText ts.lexemes p last → ⊥
not_taken ts n p last (wrong_front l ls items d e) clean text = nil≢cons (one_division _ [] (l ∷ ls) _ _ text.divided d).0
not_taken ts n p last (wrong_fault f empty e z) clean text = some≢none e clean
not_taken ts n p last (wrong_item before wrong after k d right is_wrong e) clean text =
    let items = one_division _ [] [] text.items _ text.divided d in
    no_wrong_item _ k last _ _ _ is_wrong right (subst (λ x. AreRight nothing_known x last) items.1 text.right)
not_taken ts n p last (wrong_last before item k f d right e z) clean text = some≢none e clean
not_taken ts n p last (wrong_end items k d right e lacking z) clean text =
    let same = one_division _ [] [] text.items _ text.divided d in
    let known = one_known _ _ last k (grind arith) right in
    lacking p (subst (λ x. IsComplete x p) known text.complete)

-- items after right ones, of which the first isn't taken, begin at one place
same_place : (k m n : ModelSoFar) (xs ys : List Item) (x y : Item) (us vs : List Item) → AreRight k xs m → AreRight k ys n
    → ((t : Topic) → topic x.word ≡ Some t → IsWrong m t x.body) → ((t : Topic) → topic y.word ≡ Some t → IsWrong n t y.body)
    → xs ++ x ∷ us ≡ ys ++ y ∷ vs → length xs ≡ length ys
same_place k m n [] [] x y us vs a b wrong other e = refl
same_place k m n [] (z ∷ ys) x y us vs none b wrong other e = grind (arith, same_head, no_wrong_next)
same_place k m n (z ∷ xs) [] x y us vs a none wrong other e = grind (arith, same_head, no_wrong_next)
same_place k m n (z ∷ xs) (w ∷ ys) x y us vs (more {next = p} t f a following) (more {next = q} u g b after) wrong other e =
    let items = sym (same_head e) in
    let right = subst (λ i. IsRight k t i.body q) items
    (subst (λ v. IsRight k v w.body q) (one_some (subst (λ (i : Item). topic i.word ≡ Some u) items g) f) b) in
    let rest = same_place p m n xs ys x y us vs following (subst (λ v. AreRight v ys n) (one_right k t z.body q p right a) after) wrong
    other (same_tail e) in
    ap suc rest

pub no_empty : (xs : List Item) (x : Item) (ys : List Item) → xs ++ x ∷ ys ≡ [] → ⊥
no_empty [] x ys e = cons≢nil e
no_empty (z ∷ xs) x ys e = cons≢nil e

-- the last item of the text, after right ones, where one of the items isn't taken
place_of_last : (k m n : ModelSoFar) (xs ys : List Item) (x y : Item) (us : List Item) → AreRight k xs m → AreRight k ys n
    → ((t : Topic) → topic x.word ≡ Some t → IsWrong m t x.body) → xs ++ x ∷ us ≡ ys ++ y ∷ [] → length xs ≡ length ys
place_of_last k m n [] [] x y us a b wrong e = refl
place_of_last k m n [] (z ∷ ys) x y us none b wrong e = grind (arith, same_head, no_wrong_next)
place_of_last k m n (z ∷ xs) [] x y us a b wrong e = absurd (no_empty xs x us (same_tail e))
place_of_last k m n (z ∷ xs) (w ∷ ys) x y us (more {next = p} t f a following) (more {next = q} u g b after) wrong e =
    let items = sym (same_head e) in
    let right = subst (λ i. IsRight k t i.body q) items
    (subst (λ v. IsRight k v w.body q) (one_some (subst (λ (i : Item). topic i.word ≡ Some u) items g) f) b) in
    let rest = place_of_last p m n xs ys x y us following (subst (λ v. AreRight v ys n) (one_right k t z.body q p right a) after) wrong
    (same_tail e) in
    ap suc rest

front_or_none : (ls : List Lexeme) (l : Lexeme) (fs : List Lexeme) (items others : List Item) → IsDivided ls (l ∷ fs) items
    → IsDivided ls [] others → ⊥
front_or_none ls l fs items others a b = cons≢nil (one_division ls _ [] items _ a b).0

pub item_or_empty : (ls : List Lexeme) (xs : List Item) (x : Item) (ys : List Item) → IsDivided ls [] (xs ++ x ∷ ys) → ls ≡ [] → ⊥
item_or_empty ls xs x ys a e = no_empty xs x ys (one_division [] [] [] (xs ++ x ∷ ys) [] (subst (λ s. IsDivided s [] (xs ++ x ∷ ys)) e a)
    empty_division).1

item_or_end : (ls : List Lexeme) (xs : List Item) (x : Item) (ys items : List Item) (k last : ModelSoFar) → IsDivided ls [] (xs ++ x ∷ ys)
    → AreRight nothing_known xs k
    → ((t : Topic) → topic x.word ≡ Some t → IsWrong k t x.body) → IsDivided ls [] items → AreRight nothing_known items last → ⊥
item_or_end ls xs x ys items k last a taken wrong b all =
    no_wrong_item _ k last xs ys x wrong taken
    (subst (λ v. AreRight nothing_known v last) (one_division ls [] [] items _ b a).1 all)

zeros : (m n : ℕ) → m ≡ 0 → n ≡ 0 → m ≡ n
zeros m n a b = a ∙ sym b

numbers : (m n : ℕ) (xs ys : List Item) → m ≡ length xs + 1 → n ≡ length ys + 1 → length xs ≡ length ys → m ≡ n
numbers m n xs ys a b e = a ∙ ap (λ k. k + 1) e ∙ sym b

-- at most one item is the first wrong one
pub one_number : (ts : TextTokens) (m n : ℕ) → IsFirstWrong ts m → IsFirstWrong ts n → m ≡ n
one_number ts m n (wrong_front l ls xs a p) (wrong_front k ks ys b q) = zeros m n p q
one_number ts m n (wrong_front l ls xs a p) (wrong_fault f b c q) = zeros m n p q
one_number ts m n (wrong_front l ls xs a p) (wrong_item ys y vs k b t w q) = absurd (front_or_none _ l ls xs _ a b)
one_number ts m n (wrong_front l ls xs a p) (wrong_last ys y k f b t c q) = absurd (front_or_none _ l ls xs _ a b)
one_number ts m n (wrong_front l ls xs a p) (wrong_end ys k b t c i q) = absurd (front_or_none _ l ls xs _ a b)
one_number ts m n (wrong_fault f a c p) (wrong_front l ls xs b q) = zeros m n p q
one_number ts m n (wrong_fault f a c p) (wrong_fault g b d q) = zeros m n p q
one_number ts m n (wrong_fault f a c p) (wrong_item ys y vs k b t w q) = absurd (item_or_empty _ ys y vs b a)
one_number ts m n (wrong_fault f a c p) (wrong_last ys y k g b t d q) = absurd (item_or_empty _ ys y [] b a)
one_number ts m n (wrong_fault f a c p) (wrong_end ys k b t d i q) = absurd (some≢none c d)
one_number ts m n (wrong_item xs x us j a s v p) (wrong_front l ls ys b q) = absurd (front_or_none _ l ls ys _ b a)
one_number ts m n (wrong_item xs x us j a s v p) (wrong_fault f b c q) = absurd (item_or_empty _ xs x us a b)
one_number ts m n (wrong_item xs x us j a s v p) (wrong_item ys y vs k b t w q) =
    numbers m n xs ys p q (same_place _ j k xs ys x y us vs s t v w
    (one_division _ [] [] (xs ++ x ∷ us) _ a b).1)
one_number ts m n (wrong_item xs x us j a s v p) (wrong_last ys y k f b t c q) =
    numbers m n xs ys p q (place_of_last _ j k xs ys x y us s t v
    (one_division _ [] [] (xs ++ x ∷ us) _ a b).1)
one_number ts m n (wrong_item xs x us j a s v p) (wrong_end ys k b t c i q) = absurd (item_or_end _ xs x us ys j k a s v b t)
one_number ts m n (wrong_last xs x j g a s d p) (wrong_front l ls ys b q) = absurd (front_or_none _ l ls ys _ b a)
one_number ts m n (wrong_last xs x j g a s d p) (wrong_fault f b c q) = absurd (item_or_empty _ xs x [] a b)
one_number ts m n (wrong_last xs x j g a s d p) (wrong_item ys y vs k b t w q) =
    sym (numbers n m ys xs q p (place_of_last _ k j ys xs y x vs t s w
    (one_division _ [] [] (ys ++ y ∷ vs) _ b a).1))
one_number ts m n (wrong_last xs x j g a s d p) (wrong_last ys y k f b t c q) =
    numbers m n xs ys p q (omega (
      arith,
      simp length-append at
          (ap length (one_division ts.lexemes [] [] (xs ++ x ∷ []) (ys ++ y ∷ []) a b).1),
    ))
one_number ts m n (wrong_last xs x j g a s d p) (wrong_end ys k b t c i q) = absurd (some≢none d c)
one_number ts m n (wrong_end xs j a s d i p) (wrong_front l ls ys b q) = absurd (front_or_none _ l ls ys _ b a)
one_number ts m n (wrong_end xs j a s d i p) (wrong_fault f b c q) = absurd (some≢none c d)
one_number ts m n (wrong_end xs j a s d i p) (wrong_item ys y vs k b t w q) = absurd (item_or_end _ ys y vs xs k j b t w a s)
one_number ts m n (wrong_end xs j a s d i p) (wrong_last ys y k f b t c q) = absurd (some≢none c d)
one_number ts m n (wrong_end xs j a s d i p) (wrong_end ys k b t c e q) =
    numbers m n xs ys p q (ap length (one_division _ [] [] xs ys a b).1)
