-- The lines of the full form, as a printer puts them together.
use Rattle.std.proofs.Common.{◌≡◌, ◌∙◌, ℕ, zero, suc, ◌+◌, ◌/◌, ◌==◌, ◌<◌, ◌≤◌, ◌||◌, ◌&&◌, Bool, true, false, cond, if◌then◌else◌, ⊎_elim}
use Rattle.std.proofs.Common.{List, [], ◌∷◌, ◌++◌, length, get_or, map, filter, flat_map, sum, ℤ, pos, decimal, codes, refl, sym, ap, arith}
use Rattle.std.proofs.Common.{append_assoc, append-nil, zero-add}
use Rattle.polcert_full_form.proofs.Common.{list_all, range_with_len, sum_by-cons, line, scaled_text, Table, Reward}
use Rattle.polcert_full_form.proofs.Common.{Elements, one, StartWeights, Meaning, for_each}
use Rattle.polcert_full_form.proofs.Common.{values, all_below, millionths_text, element_words, observations_line, preamble_text}
use Rattle.polcert_full_form.proofs.Common.{chosen_states}
use Rattle.polcert_full_form.proofs.Common.{is_uniform_start, is_choice, start_text, table_word, row_words, is_uniform, is_decimal}
use Rattle.polcert_full_form.proofs.Common.{cell_text}
use Rattle.polcert_full_form.proofs.Common.{row_text, written, is_zero, reward_words, rewards_row}
use Rattle.polcert_full_form.proofs.Common.{after_blank, values_line, name_text, share_of}
use Rattle.std.proofs.lemmas.List.FromFn.{length-range_with_len, get_or-range_with_len}
use Rattle.std.proofs.lemmas.List.Sums.{get_or-le-sum_by}
use Rattle.polcert_full_form.specs.Steps.Printing.{settings_text, elements_line, chosen_text, share_text, pattern_text, blank_before}
use Rattle.polcert_full_form.specs.Steps.Printing.{body_text}
use Rattle.polcert_cells.proofs.Basics.{is_true_or_false, true≢false, and_true}
use Rattle.polcert_full_form.proofs.Denoting.RowEntries.{test_below, test_same, test_itself}
use Rattle.polcert_full_form.proofs.Denoting.SameForms.{same_for_each}
use Rattle.polcert_full_form.proofs.Printing.LineLoops as lines

-- ---- tests of all below a bound
pub test_fails : (n k : ℕ) (test : ℕ → Bool) → k < n → test k ≡ false → false ≡ all_below n test
test_fails n k test l e = ⊎_elim (λ all. absurd (true≢false (test_below n k _ all l) e)) sym (is_true_or_false _)

pub test_more : (k : ℕ) (test : ℕ → Bool) → true ≡ all_below k test → test k ≡ true → true ≡ all_below (k + 1) test
test_more k test before here = grind arith

-- the first of all comes before the others
below_front : (n : ℕ) (test : ℕ → Bool) → all_below (suc n) test ≡ (test 0 && all_below n (λ i. test (suc i)))
below_front zero test = grind arith
below_front (suc n) test = grind (arith, below_front n test)

-- a test of a list is one of its places
pub list_below : {A : Type 0} (test : A → Bool) (xs : List A) (d : A) → list_all test xs ≡ all_below (length xs) (λ i. test (get_or xs i d))
list_below test [] d = refl
list_below test (x ∷ xs) d = ap (λ b. test x && b) (list_below _ xs d) ∙ sym (below_front (length xs) _)

-- ---- texts of many parts
pub each_front : {A : Type 0} (n : ℕ) (f : ℕ → List A) → for_each (suc n) f ≡ f 0 ++ for_each n (λ i. f (suc i))
each_front zero f = sym (append-nil _)
each_front (suc n) f = ap (λ xs. xs ++ f (suc n)) (each_front n f) ∙ append_assoc (f 0) _ _

pub flat_each : {A : Type 0} (f : A → List ℕ) (xs : List A) (d : A) → flat_map f xs ≡ for_each (length xs) (λ i. f (get_or xs i d))
flat_each f [] d = refl
flat_each f (x ∷ xs) d = ap (λ bs. f x ++ bs) (flat_each f xs d) ∙ sym (each_front (length xs) _)

-- a word, and others each after a blank
pub words_line : (w : List ℕ) (ws : List (List ℕ)) → w ++ for_each (length ws) (name_text ws) ++ codes "\n" ≡ line (w ∷ ws)
words_line w ws = ap (λ bs. w ++ bs ++ codes "\n") (sym (flat_each after_blank ws [])) ∙ sym (lines.line_is w ws)

pub elements_is : (w : List ℕ) (elements : Elements) → elements_line w elements ≡ line (w ∷ element_words elements)
elements_is w elements = grind (arith, append_assoc, words_line)

pub preamble_is : (m : Meaning) → settings_text m ++ elements_line (codes "states:") m.preamble.states ++ elements_line (codes "actions:")
    m.preamble.actions
    ++ observations_line m.preamble.observations ≡ preamble_text m
preamble_is m = λ i. settings m.preamble.costs i ++ elements_is (codes "states:") m.preamble.states i ++ elements_is (codes "actions:")
    m.preamble.actions i
    ++ observations_line m.preamble.observations
  where
    settings : (costs : Bool) → codes "discount: " ++ millionths_text m.preamble.discount ++ codes "\n" ++ values_line costs
        ≡ line (codes "discount:" ∷ millionths_text m.preamble.discount ∷ []) ++ line
        (codes "values:" ∷ (if costs then codes "cost" else codes "reward") ∷ [])
    settings true = cc
    settings false = cc

-- ---- lines of numbers
pub numbers_line : (n : ℕ) (f : ℕ → List ℕ) → 0 < n → for_each n (λ i. blank_before i ++ f i) ++ codes "\n" ≡ line (values n f)
numbers_line zero f some = grind arith
numbers_line (suc n) f some =
    ap (λ bs. bs ++ codes "\n") (each_front n _)
    ∙ ap (λ bs. f 0 ++ bs ++ codes "\n") (grind arith)
    ∙ sym (lines.values_line n f)
  where
    next : (i : ℕ) → suc i ≡ i + 1
    next i = omega arith

-- ---- rows of T and O
pub row_is : (table : Table) (a s n : ℕ) (w : ℕ → ℕ)
    → pattern_text table (a ∷ s ∷ []) ++ codes "\n" ++ body_text table a s n w ≡ row_text table a s n w
row_is table a s n w = grind (arith, append_assoc)

flat : (t b a m s c : List ℕ) → t ++ ((b ++ a ++ (m ++ s)) ++ (m ++ c)) ≡ t ++ b ++ a ++ m ++ s ++ m ++ c
flat t b a m s c = simp append_assoc

three_indices : (table : Table) (a s c : ℕ) → pattern_text table (a ∷ s ∷ c ∷ [])
    ≡ table_word table ++ codes " " ++ decimal a ++ codes " : " ++ decimal s ++ codes " : " ++ decimal c
three_indices table a s c = flat _ (codes " ") _ _ _ _

pub cell_is : (table : Table) (a s c q : ℕ) → pattern_text table (a ∷ s ∷ c ∷ []) ++ codes " " ++ millionths_text q ++ codes "\n"
    ≡ line (row_words table a s ++ codes ":" ∷ decimal c ∷ millionths_text q ∷ [])
cell_is table a s c q = ap (λ bs. bs ++ codes " " ++ millionths_text q ++ codes "\n") (three_indices _ a s c)
    ∙ sym (lines.cell_line_is _ a s c q)

module _ (table : Table) (a s n : ℕ) (w : ℕ → ℕ) where
  body_other : (d : Bool) → is_uniform n w ≡ false → is_decimal n w ≡ d
      → cond d (line (values n (λ c. millionths_text (w c / n)))) (line (codes "uniform" ∷ []) ++ for_each n (cell_text table a s n w))
      ≡ body_text table a s n w
  body_other d e f = grind arith

  pub body_decimal : is_uniform n w ≡ false → is_decimal n w ≡ true → 0 < n
      → for_each n (λ c. blank_before c ++ millionths_text (w c / n)) ++ codes "\n" ≡ body_text table a s n w
  body_decimal e f some = numbers_line n _ some ∙ body_other true e f

  pub cell_single : (c : ℕ) → (w c == one) ≡ false → line (row_words table a s ++ codes ":" ∷ decimal c ∷ millionths_text (w c / n) ∷ [])
      ≡ cell_text table a s n w c
  cell_single c e = cc

-- ---- rewards
pub cell_head : (a s e : ℕ) → pattern_text Reward (a ∷ s ∷ e ∷ []) ++ codes "\n" ≡ line (reward_words a s e)
cell_head a s e = ap (λ bs. bs ++ codes "\n") (three_indices Reward a s e) ∙ sym (lines.reward_line_is a s e)

pub row_head : (a s : ℕ) → pattern_text Reward (a ∷ s ∷ []) ++ codes "\n" ≡ line (row_words Reward a s)
row_head a s = simp append_assoc

pub paid_is : (costs : Bool) (indices : List ℕ) (words : List (List ℕ)) (n : ℕ) (r : ℕ → ℤ)
    → pattern_text Reward indices ++ codes "\n" ≡ line words
    → 0 < n → all_below n (λ z. is_zero (r z)) ≡ false
    → pattern_text Reward indices ++ codes "\n" ++ for_each n (λ z. blank_before z ++ scaled_text (written costs (r z))) ++ codes "\n"
    ≡ rewards_row costs words n r
paid_is costs indices words n r head some f =
    ap (λ bs. bs ++ for_each n (λ z. blank_before z ++ scaled_text (written costs (r z))) ++ codes "\n") head
    ∙ append_assoc _ _ (codes "\n")
    ∙ ap (λ bs. line words ++ bs) (numbers_line n _ some)
    ∙ sym (cc)

pub all_zero : (n : ℕ) (q : ℕ → ℤ) → ((z : ℕ) → z < n → q z ≡ pos 0) → all_below n (λ z. is_zero (q z)) ≡ true
all_zero zero q h = refl
all_zero (suc n) q h = λ i. (all_zero n q (λ z l. h z (omega arith))) i && is_zero ((h n (omega arith)) i)

-- no row is written where there are no rewards
none_in_rows : (costs : Bool) (a s n k : ℕ) (r : ℕ → ℕ → ℤ) → ((e z : ℕ) → e < k → z < n → r e z ≡ pos 0)
    → [] ≡ for_each k (λ e. rewards_row costs (reward_words a s e) n (r e))
none_in_rows costs a s n zero r h = refl
none_in_rows costs a s n (suc k) r h = grind (arith, all_zero, none_in_rows costs a s n k r)

pub none_paid : (mdp costs : Bool) (a s n k : ℕ) (r : ℕ → ℕ → ℤ) → 0 < n → ((e z : ℕ) → e < k → z < n → r e z ≡ pos 0)
    → [] ≡ (if mdp then rewards_row costs (row_words Reward a s) k (λ e. r e 0) else for_each k
    (λ e. rewards_row costs (reward_words a s e) n (r e)))
none_paid mdp costs a s n k r h1 h2 = grind (arith, all_zero, none_in_rows)

-- ---- the start
chosen_parts : (picks : ℕ → Bool) (xs : List ℕ) → flat_map (λ s. cond (picks s) (after_blank (decimal s)) []) xs
    ≡ flat_map after_blank (map decimal (filter picks xs))
chosen_parts picks [] = refl
chosen_parts picks (x ∷ xs) = grind (arith, chosen_parts picks xs)

mapped : {A : Type 0} (f : A → List ℕ) (xs : List A) → flat_map (λ x. after_blank (f x)) xs ≡ flat_map after_blank (map f xs)
mapped f [] = refl
mapped f (x ∷ xs) = rw (mapped f xs)

pub sum_ones : (ws : List ℕ) → list_all (λ w. w == 1) ws ≡ true → sum ws ≡ length ws
sum_ones [] e = refl
sum_ones (w ∷ ws) e =
    let both = and_true _ _ e in
    let here = test_same w 1 both.0 in
    omega (arith, here, sum_ones ws both.1, sum_by-cons (λ x. x) w ws)

module _ (start : StartWeights) (n : ℕ) (count : length start.weights ≡ n) (total : sum start.weights ≡ start.total) where
  all_shares : (test : ℕ → Bool) → list_all test start.weights ≡ all_below n (λ s. test (share_of start s))
  all_shares test = list_below test _ 0 ∙ ap (λ k. all_below k (λ s. test (share_of start s))) count

  whole_if : all_below n (λ s. share_of start s == 1) ≡ true → is_uniform_start start ≡ true
  whole_if e = grind (arith, sum_ones, all_shares)

  pub start_whole : all_below n (λ s. share_of start s == 1) ≡ true → codes "start: uniform\n" ≡ start_text start
  start_whole e = rw (whole_if e)

  other : (c : Bool) → all_below n (λ s. share_of start s == 1) ≡ false → is_choice start ≡ c
      → cond c (line (codes "start" ∷ codes "include:" ∷ map decimal (chosen_states start)))
      (line (codes "start:" ∷ map millionths_text start.weights)) ≡ start_text start
  other c e f = grind (arith, all_shares)

  pub start_choice : all_below n (λ s. share_of start s == 1) ≡ false
      → all_below n (λ s. share_of start s == 0 || share_of start s == 1) ≡ true
      → codes "start include:" ++ for_each n (chosen_text start) ++ codes "\n" ≡ start_text start
  start_choice e f =
      let bits = all_shares _ ∙ f in
      let yes : is_choice start ≡ true = (λ i. bits i && (ap (λ k. start.total == k) total ∙ test_itself _) i) in
      let parts =
      same_for_each n _ _
      (λ i l. ap (chosen_text start) (sym (get_or-range_with_len 0 n i 0 l ∙ zero-add i)))
      ∙ ap (λ k. for_each k (λ i. chosen_text start (get_or (range_with_len 0 n) i 0))) (sym (length-range_with_len 0 n))
      ∙ sym (flat_each (chosen_text start) _ 0)
      ∙ chosen_parts (λ s. share_of start s == 1) _
      ∙ ap (λ k. flat_map after_blank (map decimal (filter (λ s. share_of start s == 1) (range_with_len 0 k)))) (sym count) in
      ap (λ bs. codes "start include:" ++ bs ++ codes "\n") parts
      ∙ sym (lines.line_is (codes "start include:") _) ∙ two_words _
      ∙ other true e yes
    where
      two_words : (ws : List (List ℕ)) → line (codes "start include:" ∷ ws) ≡ line (codes "start" ∷ codes "include:" ∷ ws)
      two_words [] = refl
      two_words (w ∷ ws) = refl

  pub start_shares : all_below n (λ s. share_of start s == 1) ≡ false
      → all_below n (λ s. share_of start s == 0 || share_of start s == 1) ≡ false
      → codes "start:" ++ for_each n (share_text start) ++ codes "\n" ≡ start_text start
  start_shares e f =
      let no = ap (λ b. b && start.total == sum start.weights) (all_shares _ ∙ f) in
      ap (λ bs. codes "start:" ++ bs ++ codes "\n") (ap (λ k. for_each k (share_text start)) (sym count)
      ∙ sym (flat_each (λ w. after_blank _) _ 0) ∙ mapped _ _) ∙ sym (lines.line_is (codes "start:") _)
      ∙ other false e no

  -- no share is larger than one
  pub share_small : start.total ≤ one → (s : ℕ) → s < n → share_of start s ≤ one
  share_small most s l = grind (arith, get_or-le-sum_by)
