-- The full form is shorter than a text may be.
use Rattle.std.proofs.Common.{◌≡◌, ◌∙◌, ℕ, zero, suc, ◌+◌, ◌*◌, ◌/◌, ◌<◌, ◌≤◌, ◌==◌, Bool, true, false, cond, List, [], ◌∷◌, ◌++◌, length}
use Rattle.std.proofs.Common.{map, filter, sum, All, codes, decimal, ℤ, refl, sym, arith, length-append, unsigned_abs}
use Rattle.polcert_full_form.proofs.Common.{range_with_len, ForSome, All-head, All-tail, sum_by-cons, text_limit, unsigned_text}
use Rattle.polcert_full_form.proofs.Common.{scaled_text, largest, Table, Transition, Observation, Reward, Elements, Count, Names}
use Rattle.polcert_full_form.proofs.Common.{StartWeights, one, IsPrintable, count_of, most_states, most_actions, most_observations}
use Rattle.polcert_full_form.proofs.Common.{most_elements, is_mdp, rewarded, Meaning, HasLimitedNumbers, states_of, actions_of}
use Rattle.polcert_full_form.proofs.Common.{observations_of, line, for_each, values, all_below, millionths_text, element_words}
use Rattle.polcert_full_form.proofs.Common.{preamble_text, start_text, table_word, row_words, is_uniform, cell_text, row_text}
use Rattle.polcert_full_form.proofs.Common.{transitions_text, observations_text, written, reward_words, rewards_row, rewards_from}
use Rattle.polcert_full_form.proofs.Common.{rewards_text, full_form, IsWritableName}
use Rattle.std.proofs.Math.Nat.{mul_assoc, mul-le-mul_right}
use Rattle.std.proofs.lemmas.Fmt.{length-decimal-le}
use Rattle.polcert_format.specs.Limits.{most_cells}
use Rattle.polcert_text.proofs.Printing.WrittenNumbers.{plain_size}
use Rattle.polcert_full_form.proofs.Printing.PrintedPreamble.{AreWritable}
use Rattle.polcert_full_form.proofs.Denoting.Observing.{one_rewarded, seen_rewarded}

-- ---- lines
-- the bytes of the words, and one after each
abbrev words_length : List (List ℕ) → ℕ
words_length [] = 0
words_length (w ∷ ws) = length w + 1 + words_length ws

line_length : (ws : List (List ℕ)) → length (line ws) ≤ words_length ws + 1
line_length [] = omega arith
line_length (w ∷ []) = omega (arith, length-append w (codes "\n"))
line_length (w ∷ v ∷ ws) = grind (arith, length-append, line_length (v ∷ ws))

each_length : (n b : ℕ) (f : ℕ → List ℕ) → ((i : ℕ) → i < n → length (f i) ≤ b) → length (for_each n f) ≤ n * b
each_length zero b f h = omega arith
each_length (suc n) b f h = grind (arith, length-append, each_length n b f)

words_from : (k n b : ℕ) (f : ℕ → List ℕ) → ((i : ℕ) → i < k + n → length (f i) ≤ b)
    → words_length (map f (range_with_len k n)) ≤ n * (b + 1)
words_from k zero b f h = omega arith
words_from k (suc n) b f h = grind (arith, words_from (k + 1) n b f)

words_of_values : (n b : ℕ) (f : ℕ → List ℕ) → ((i : ℕ) → i < n → length (f i) ≤ b) → words_length (values n f) ≤ n * (b + 1)
words_of_values n b f h = words_from 0 n b f (λ i l. h i (omega arith))

-- ---- words
index_length : (i : ℕ) → i < most_elements → length (decimal i) ≤ 4
index_length i l = length-decimal-le 4 i (omega arith) (omega arith) (omega arith)

unsigned_length : (n : ℕ) → n ≤ largest → length (unsigned_text n) ≤ 30
unsigned_length n l = (plain_size n l).short

scaled_length : (h : ℤ) → unsigned_abs h ≤ largest → length (scaled_text h) ≤ 31
scaled_length h h1 = grind (arith, unsigned_length)

table_length : (table : Table) → length (table_word table) ≤ 2
table_length table = grind arith

-- ---- rows
module _ (table : Table) (a s n : ℕ) (w : ℕ → ℕ) (la : a < most_actions) (ls : s < most_states) (some : 0 < n) (few : n ≤ most_elements)
    (within : (c : ℕ) → c < n → w c ≤ one * n) where
  share_small : (c : ℕ) → c < n → w c / n ≤ largest
  share_small c d = grind arith

  head_length : length (line (row_words table a s)) ≤ 16
  head_length = omega (arith, line_length (row_words table a s), table_length table, index_length a (omega arith), index_length s ls)

  cell_length : (c : ℕ) → c < n → length (cell_text table a s n w c) ≤ 54
  cell_length c d = at (w c == one)
    where
      at : (b : Bool) → length (cond b [] (line (row_words table a s ++ codes ":" ∷ decimal c ∷ millionths_text (w c / n) ∷ []))) ≤ 54
      at true = omega arith
      at false = omega (
        arith,
        line_length (row_words table a s ++ codes ":" ∷ decimal c ∷ millionths_text (w c / n) ∷ []),
        table_length table,
        index_length a (omega arith),
        index_length s ls,
        index_length c (omega arith),
        unsigned_length _ (share_small c d),
      )

  row_length : length (row_text table a s n w) ≤ n * 80
  row_length = at (is_uniform n w) _
    where
      uniform_length : length (line (codes "uniform" ∷ [])) ≤ 9
      uniform_length = grind arith

      numbers_length : length (line (values n (λ c. millionths_text (w c / n)))) ≤ n * 31 + 1
      numbers_length =
          let all = words_of_values n 30 _ (λ c d. unsigned_length _ (share_small c d)) in
          omega (arith, line_length (values n (λ c. millionths_text (w c / n))))

      cells_length : length (line (codes "uniform" ∷ []) ++ for_each n (cell_text table a s n w)) ≤ 9 + n * 54
      cells_length =
          let all = each_length n 54 _ cell_length in
          omega arith

      at : (u d : Bool) → length (line (row_words table a s) ++ cond u (line (codes "uniform" ∷ []))
          (cond d (line (values n (λ c. millionths_text (w c / n)))) (line (codes "uniform" ∷ []) ++ for_each n (cell_text table a s n w))))
          ≤ n * 80
      at true d = omega (arith, head_length, length-append (line (row_words table a s)) (line (codes "uniform" ∷ [])))
      at false true = omega (
        arith,
        head_length,
        numbers_length,
        length-append (line (row_words table a s))
            (line (values n (λ c. millionths_text (w c / n)))),
      )
      at false false = omega (
        arith,
        head_length,
        cells_length,
        length-append (line (row_words table a s))
            (line (codes "uniform" ∷ []) ++ for_each n (cell_text table a s n w)),
      )

rewards_length : (costs : Bool) (words : List (List ℕ)) (n : ℕ) (r : ℕ → ℤ) → length (line words) ≤ 23 → 0 < n
    → ((z : ℕ) → z < n → unsigned_abs (written costs (r z)) ≤ largest) → length (rewards_row costs words n r) ≤ n * 56
rewards_length costs words n r head some small = at (all_below n _)
  where
    numbers_length : length (line (values n (λ z. scaled_text (written costs (r z))))) ≤ n * 32 + 1
    numbers_length =
        let all = words_of_values n 31 _ (λ z d. scaled_length (written costs _) (small z d)) in
        omega (arith, line_length (values n (λ z. scaled_text (written costs (r z)))))

    at : (b : Bool) → length (cond b [] (line words ++ line (values n (λ z. scaled_text (written costs (r z)))))) ≤ n * 56
    at true = omega arith
    at false = omega (arith, head, numbers_length, length-append (line words) (line (values n (λ z. scaled_text (written costs (r z))))))

-- the lines that begin a row of rewards
cell_head : (a s e : ℕ) → a < most_actions → s < most_states → e < most_states → length (line (reward_words a s e)) ≤ 23
cell_head a s e la ls le = omega (
  arith,
  line_length (reward_words a s e),
  index_length a (omega arith),
  index_length s ls,
  index_length e le,
)

row_head : (a s : ℕ) → a < most_actions → s < most_states → length (line (row_words Reward a s)) ≤ 23
row_head a s la ls = omega (arith, line_length (row_words Reward a s), index_length a (omega arith), index_length s ls)

-- ---- the preamble and the start
names_length : (names : List (List ℕ)) → All IsWritableName names → words_length names ≤ length names * 401
names_length [] a = omega arith
names_length (x ∷ xs) a = omega (arith, names_length xs (All-tail IsWritableName x xs a), (All-head IsWritableName x xs a).short)

elements_length : (word : List ℕ) (elements : Elements) → length word ≤ 20 → AreWritable most_elements elements
    → length (line (word ∷ element_words elements)) ≤ 4_100_000
elements_length word (Count n) l w =
    omega (arith, l, length-decimal-le 5 n (omega arith) (omega arith) (omega arith), line_length (word ∷ decimal n ∷ []))
elements_length word (Names names) l w = omega (arith, l, names_length names w.0, line_length (word ∷ names))

preamble_length : (m : Meaning) → m.preamble.discount ≤ one → AreWritable most_states m.preamble.states
    → AreWritable most_actions m.preamble.actions → ForSome m.preamble.observations (AreWritable most_observations)
    → length (preamble_text m) ≤ 13_000_000
preamble_length m small states actions observations = grind (arith, length-append, unsigned_length, elements_length)

states_length : (p : ℕ → Bool) (k n : ℕ) → k + n ≤ most_states → words_length (map decimal (filter p (range_with_len k n))) ≤ n * 5
states_length p k zero l = omega arith
states_length p k (suc n) l = grind (arith, index_length, states_length p (k + 1) n (omega arith))

weights_length : (ws : List ℕ) → sum ws ≤ one → words_length (map millionths_text ws) ≤ length ws * 31
weights_length [] l = omega arith
weights_length (w ∷ ws) l =
    let sums = sum_by-cons (λ y. y) w ws in
    omega (arith, weights_length ws (omega arith), unsigned_length w (omega arith))

start_length : (start : StartWeights) → length start.weights ≤ most_states → sum start.weights ≤ one → length (start_text start) ≤ 400_000
start_length start few small = grind (arith, line_length, states_length, weights_length)

-- ---- the whole
grouped : (a s n k : ℕ) → a * (s * (n * k)) ≡ a * s * n * k
grouped a s n k = omega arith

cells_bound : (a s n k : ℕ) → a * s * n ≤ most_cells → a * (s * (n * k)) ≤ most_cells * k
cells_bound a s n k l = rw (grouped a s n k) (mul-le-mul_right k l)

module _ (m : Meaning) (limits : HasLimitedNumbers m) (printable : IsPrintable m.preamble)
    (states : AreWritable most_states m.preamble.states) (actions : AreWritable most_actions m.preamble.actions)
    (observations : ForSome m.preamble.observations (AreWritable most_observations))
    (small : (a s e z : ℕ) → a < actions_of m → s < states_of m → e < states_of m → z < observations_of m
    → unsigned_abs (written m.preamble.costs (m.r a s e z)) ≤ largest) where
  -- the rows of a table, by action and state
  rows_length : (table : Table) (n : ℕ) (w : ℕ → ℕ → ℕ → ℕ) → 0 < n → n ≤ most_elements
      → ((a s c : ℕ) → a < actions_of m → s < states_of m → c < n → w a s c ≤ one * n) → actions_of m * states_of m * n ≤ most_cells
      → length (for_each (actions_of m) (λ a. for_each (states_of m) (λ s. row_text table a s n (w a s)))) ≤ most_cells * 80
  rows_length table n w some few within cells =
      let A = actions_of m in
      let S = states_of m in
      omega (
        arith,
        each_length A _ _ (λ a l. each_length S _ _
            (λ s k. row_length table a s n (w a s) (omega arith) (omega arith) some few (λ c. within a s c l k))),
        cells_bound A S n 80 cells,
      )

  transitions_length : length (transitions_text m) ≤ most_cells * 80
  transitions_length = rows_length Transition _ _ limits.states.0 limits.states.1 limits.t printable.transitions

  observations_length : length (observations_text m) ≤ most_cells * 80
  observations_length = at (is_mdp m.preamble)
    where
      at : (b : Bool) → length (cond b [] (for_each (actions_of m)
          (λ a. for_each (states_of m) (λ e. row_text Observation a e (observations_of m) (m.o a e))))) ≤ most_cells * 80
      at true = omega arith
      at false = rows_length Observation _ _ limits.observations.0 limits.observations.1 limits.o printable.observations

  -- the rewards of an action in a state: a number for each end state and each thing that a reward depends on
  from_length : (a s : ℕ) → a < actions_of m → s < states_of m
      → length (rewards_from m a s) ≤ states_of m * (count_of (rewarded m.preamble) * 56)
  from_length a s l k = at (is_mdp m.preamble) refl
    where
      S : ℕ
      S = states_of m

      Z : ℕ
      Z = observations_of m

      costs : Bool
      costs = m.preamble.costs

      at : (b : Bool) → is_mdp m.preamble ≡ b
          → length (cond b (rewards_row costs (row_words Reward a s) S (λ e. m.r a s e 0))
          (for_each S (λ e. rewards_row costs (reward_words a s e) Z (m.r a s e)))) ≤ S * (count_of (rewarded m.preamble) * 56)
      at true mdp = rw (one_rewarded m.preamble mdp) (rewards_length _ (row_words Reward a s) S _
          (row_head a s (omega arith) (omega arith)) limits.states.0
          (λ e d. small a s e 0 l k d limits.observations.0))
      at false seen = rw (seen_rewarded m.preamble seen) (each_length S _ _ (λ e d. rewards_length _ (reward_words a s e) Z _
          (cell_head a s e (omega arith) (omega arith) (omega arith))
          limits.observations.0
          (λ z. small a s e z l k d)))

  rewards_short : length (rewards_text m) ≤ most_cells * 56
  rewards_short =
      let A = actions_of m in
      let S = states_of m in
      let R = count_of (rewarded m.preamble) in
      let all =
      each_length A _ _
      (λ a l. each_length S _ _ (λ s. from_length a s l)) in
      let same = grouped A S S _ ∙ sym (mul_assoc _ R 56) in
      omega arith

  pub form_short : length (full_form m) < text_limit
  form_short = grind (arith, length-append, preamble_length, start_length, transitions_length, observations_length, rewards_short)
