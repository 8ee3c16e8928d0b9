-- What is decided at an item's word is one thing, or nothing.
use Rattle.std.proofs.Common.{◌≡◌, ◌∙◌, ℕ, suc, ◌+◌, Some, None, List, [], ◌∷◌, ◌++◌, length, refl, sym, ap, arith}
use Rattle.std.proofs.Common.{length-append}
use Rattle.polcert_format.proofs.Common.{ItemFault, Topic, topic, Item, IsDivided, ModelSoFar, nothing_known, AreRight}
use Rattle.polcert_format.proofs.Common.{word_fault, TextTokens, IsDecided}
use Rattle.polcert_format.specs.FirstWrong.{before_items, at_word, at_end}
use Rattle.polcert_cells.proofs.Basics.{same_head, same_tail}
use Rattle.polcert_format.proofs.ItemLaws.{one_division}
use Rattle.polcert_format.proofs.TextLaws.{one_known}

-- lists that are the same, cut at the same length
pub record SameCut {A : Type 0} (xs ys us vs : List A) (x y : A) : Type 0 where
  pub front : xs ≡ ys
  pub here : x ≡ y
  pub following : us ≡ vs

pub same_cut : (xs ys us vs : List Item) (x y : Item) → xs ++ x ∷ us ≡ ys ++ y ∷ vs → length xs ≡ length ys → SameCut xs ys us vs x y
same_cut [] [] us vs x y e l = record { front = refl; here = same_head e; following = same_tail e }
same_cut [] (z ∷ ys) us vs x y e l = absurd (omega (arith, l))
same_cut (z ∷ xs) [] us vs x y e l = absurd (omega (arith, l))
same_cut (z ∷ xs) (w ∷ ys) us vs x y e l =
    let rest = same_cut xs ys us vs x y (same_tail e) (omega (arith, l)) in
    record { front = (λ i. (same_head e) i ∷ rest.front i); here = rest.here; following = rest.following }

pub same_length : (n : ℕ) (xs ys : List Item) → n ≡ length xs + 1 → n ≡ length ys + 1 → length xs ≡ length ys
same_length n xs ys a b = omega (arith, a, b)

-- an item of the text and the end have two numbers
word_or_end : (ts : TextTokens) (n : ℕ) (xs : List Item) (x : Item) (us items : List Item) → IsDivided ts.lexemes [] (xs ++ x ∷ us)
    → IsDivided ts.lexemes [] items
    → n ≡ length xs + 1 → n ≡ length items + 1 → ⊥
word_or_end ts n xs x us items a b p q =
    let same = (one_division _ [] [] (xs ++ x ∷ us) _ a b).1 in
    let lengths : length xs + length (x ∷ us) ≡ length items = sym (length-append xs _) ∙ ap length same in
    let more : length (x ∷ us) ≡ suc (length us) = refl in
    omega arith

pub one_decided : (ts : TextTokens) (n : ℕ) (f g : ItemFault) (p q : ℕ) → IsDecided ts n f p → IsDecided ts n g q → (f ≡ g) × (p ≡ q)
one_decided ts n f g p q (before_items l ls items a z e c) (before_items m ms others b y d h) = grind arith
one_decided ts n f g p q (before_items l ls items a z e c) (at_word ys y vs k u b taken tu fault m h) = absurd (omega arith)
one_decided ts n f g p q (before_items l ls items a z e c) (at_end ys k b taken clean fault m h) = absurd (omega arith)
one_decided ts n f g p q (at_word xs x us j t a taken tt' fault m c) (before_items l ls others b y d h) = absurd (omega arith)
one_decided ts n f g p q (at_word xs x us j t a taken topics fault m c) (at_word ys y vs k u b others topic_is reason l h) =
    let cut = same_cut xs ys us vs x y (one_division _ [] [] (xs ++ x ∷ us) _ a b).1 (same_length n xs ys m l) in
    let known : j ≡ k = one_known _ ys j k (grind arith) others in
    let kinds : t ≡ u = cc in
    (cc, grind arith)
one_decided ts n f g p q (at_word xs x us j t a taken topics fault m c) (at_end ys k b others clean reason l h) =
    absurd (word_or_end ts n xs x us ys a b m l)
one_decided ts n f g p q (at_end xs j a taken clean fault m c) (before_items l ls others b y d h) = absurd (omega arith)
one_decided ts n f g p q (at_end xs j a taken clean fault m c) (at_word ys y vs k u b others topic_is reason l h) =
    absurd (word_or_end ts n ys y vs xs b a l m)
one_decided ts n f g p q (at_end xs j a taken clean fault m c) (at_end ys k b others clean' reason l h) =
    let same = (one_division _ [] [] xs ys a b).1 in
    let known : j ≡ k = one_known _ ys j k (rw (← same) taken) others in
    (cc, c ∙ sym h)

-- nothing is decided where the item's word may stand
pub nothing_decided : (ts : TextTokens) (xs : List Item) (x : Item) (us : List Item) (k : ModelSoFar) (t : Topic) (f : ItemFault) (p : ℕ)
    → IsDivided ts.lexemes [] (xs ++ x ∷ us)
    → AreRight nothing_known xs k → topic x.word ≡ Some t → word_fault k t ≡ None → IsDecided ts (length xs + 1) f p → ⊥
nothing_decided ts xs x us j t f p a taken topics free (before_items l ls others b y d h) = omega arith
nothing_decided ts xs x us j t f p a taken topics free (at_word ys y vs k u b others topic_is reason l h) =
    let cut = same_cut xs ys us vs x y (one_division _ [] [] (xs ++ x ∷ us) _ a b).1
    (same_length _ xs ys refl l) in
    let known : j ≡ k = one_known _ ys j k (grind arith) others in
    let kinds : t ≡ u = cc in
    cc
nothing_decided ts xs x us j t f p a taken topics free (at_end ys k b others clean reason l h) = word_or_end ts _ xs x us ys a b refl l
