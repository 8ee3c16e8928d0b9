-- A printed row is read as its entries.
use Rattle.std.proofs.Common.{◌≡◌, ◌∙◌, ℕ, zero, suc, ◌*◌, ◌/◌, ◌<◌, ◌≤◌, ◌==◌, Bool, true, false, cond, Some, List, [], ◌∷◌, ◌++◌}
use Rattle.std.proofs.Common.{map, All, codes, decimal, ℤ, refl, sym, ap, arith, append_assoc, unsigned_abs}
use Rattle.polcert_full_form.proofs.Common.{list_any, is_letter, is_name_byte, is_digit, is_point, is_exponent_mark, kind_of}
use Rattle.polcert_full_form.proofs.Common.{unsigned_text, scaled_text, largest, Name, Numeral, Colon, Table, Reward, Body}
use Rattle.polcert_full_form.proofs.Common.{Rewards, Uniform, Entry, StartWeights, topic_of, begins_item, one, count_of, most_states}
use Rattle.polcert_full_form.proofs.Common.{most_actions, most_elements, Preamble, is_mdp, observed, rewarded, cells_in, forms, IsBody}
use Rattle.polcert_full_form.proofs.Common.{line, for_each, values, all_below, millionths_text, table_word, row_words, is_uniform}
use Rattle.polcert_full_form.proofs.Common.{cell_text, row_text, written, reward_words, rewards_row}
use Rattle.polcert_cells.specs.Numbers as numbers
use Rattle.polcert_cells.specs.Entry as entries
use Rattle.polcert_text.proofs.Printing.PrintedCut.{Printed, text_of, lexemes_at, ArePrinted, text-append, printed-append}
use Rattle.polcert_text.proofs.Printing.PrintedWords.{Word, plain, key, word_text, spelled_line, IsPiece, text_line, line_printed}
use Rattle.polcert_text.proofs.Printing.PrintedWords.{numeral_piece}
use Rattle.polcert_text.proofs.Printing.WrittenNumbers.{plain_size}
use Rattle.polcert_full_form.proofs.Writable.Printable.{HasRoom}
use Rattle.polcert_full_form.proofs.Printing.PrintedNumbers.{whole_piece, millionths_at}
use Rattle.polcert_full_form.proofs.Printing.NumberLines.{inside, length_values, all_values, share_line, reward_line}
use Rattle.polcert_full_form.proofs.Printing.PrintedEntries.{letter, letter_piece, text_letter, PrintsEntries, no_entries, entries_then}
use Rattle.polcert_full_form.proofs.Printing.PrintedEntries.{entries_each, two_places, three_places}
use Rattle.polcert_full_form.proofs.Denoting.RowEntries.{whole_row, one_cell, cell_entries, single_cells, decimal_row, uniform_row}
use Rattle.polcert_full_form.proofs.Denoting.RowEntries.{row_entries, HasRows}
use Rattle.polcert_full_form.proofs.Denoting.RewardEntries.{reward_row, reward_entries, end_row, end_entries, entries_from}
use Rattle.polcert_full_form.proofs.Denoting.Observing.{seen_rewarded}

-- ---- words
abbrev row_line : ℕ → ℕ → List Word
row_line a s = plain Numeral (decimal a) ∷ plain Colon (codes ":") ∷ plain Numeral (decimal s) ∷ []

abbrev cell_line : ℕ → ℕ → ℕ → List Word
cell_line a s c = plain Numeral (decimal a) ∷ plain Colon (codes ":") ∷ plain Numeral (decimal s) ∷ plain Colon (codes ":") ∷ plain Numeral
    (decimal c) ∷ []

abbrev share_words : ℕ → ℕ → ℕ → ℕ → List Word
share_words a s c q =
    plain Numeral (decimal a) ∷ plain Colon (codes ":") ∷ plain Numeral (decimal s) ∷ plain Colon (codes ":") ∷ plain Numeral (decimal c) ∷
    plain Numeral (unsigned_text q) ∷ []

abbrev uniform_line : List Printed
uniform_line = spelled_line (plain Name (codes "uniform")) []

text_head : (table : Table) (ws : List Word) → text_of (spelled_line (key (letter table)) ws) ≡ line (table_word table ∷ map word_text ws)
text_head table ws = text_line _ ws ∙ ap (λ w. line (w ∷ map word_text ws)) (text_letter _)

colon_kind : kind_of (codes ":") ≡ Some Colon
unfolding kind_of is_letter is_name_byte is_digit is_point is_exponent_mark
colon_kind = refl

colon_piece : IsPiece Colon (codes ":")
colon_piece = record { kind_is = colon_kind; short = omega arith }

index_piece : (i : ℕ) → i < most_elements → IsPiece Numeral (decimal i)
index_piece i l = whole_piece i (omega arith)

an_element : (a : ℕ) → a < most_actions → a < most_elements
an_element a l = omega arith

row_printed : (table : Table) (a s : ℕ) → a < most_actions → s < most_states → ArePrinted (spelled_line (key (letter table)) (row_line a s))
row_printed table a s l k = line_printed (key _) (row_line a s) (letter_piece _)
    (index_piece a (an_element a l), (colon_piece, (index_piece s k, tt)))

cell_printed : (table : Table) (a s c : ℕ) → a < most_actions → s < most_states → c < most_elements
    → ArePrinted (spelled_line (key (letter table)) (cell_line a s c))
cell_printed table a s c l k d =
    line_printed (key _) (cell_line a s c) (letter_piece _)
    (index_piece a (an_element a l), (colon_piece, (index_piece s k, (colon_piece, (index_piece c d, tt)))))

share_printed : (table : Table) (a s c q : ℕ) → a < most_actions → s < most_states → c < most_elements → q ≤ largest
    → ArePrinted (spelled_line (key (letter table)) (share_words a s c q))
share_printed table a s c q l k d m =
    line_printed (key _) (share_words a s c q) (letter_piece _) (
      index_piece a (an_element a l),
      (
        colon_piece,
        (
          index_piece s k,
          (colon_piece, (index_piece c d, (numeral_piece _ (plain_size q m), tt))),
        ),
      ),
    )

uniform_kind : kind_of (codes "uniform") ≡ Some Name
unfolding kind_of is_letter is_name_byte is_digit is_point is_exponent_mark
uniform_kind = refl

uniform_printed : ArePrinted uniform_line
uniform_printed = line_printed (plain Name _) [] (record { kind_is = uniform_kind; short = omega arith }) tt

uniform_begins_none : (place : ℕ) → list_any begins_item (lexemes_at place uniform_line) ≡ false
unfolding topic_of
uniform_begins_none place = refl

uniform_body : (n place : ℕ) → IsBody n (lexemes_at place uniform_line) Uniform
uniform_body n place = entries.uniform (record { kind = refl; bytes = refl })

module _ (p : Preamble) (start : StartWeights) (room : HasRoom p) (few_actions : count_of p.actions ≤ most_actions)
    (few_states : count_of p.states ≤ most_states) where
  abbrev Entries : List ℕ → List Entry → Type 0
  Entries text new = PrintsEntries p start room text new

  module _ (table : Table) (a s n : ℕ) (w : ℕ → ℕ) (t : HasRows p table n) (l : a < count_of p.actions) (k : s < count_of p.states)
      (some : 0 < n) (few : n ≤ most_elements) where
    -- a body after the line of the row
    row_then : (us : List Printed) (body : Body) → ArePrinted us → list_any (λ k. k == 2) (forms (is_mdp p) table body) ≡ true
        → ((place : ℕ) → IsBody (cells_in (t.column ∷ [])) (lexemes_at place us) body)
        → ((place : ℕ) → list_any begins_item (lexemes_at place us) ≡ false)
        → Entries (line (row_words table a s) ++ text_of us) (whole_row table a s body ∷ [])
    row_then us body made form is none es = record {
      lexemes = spelled_line (key _) (row_line a s) ++ us;
      text_is = text-append (spelled_line (key _) (row_line a s)) us ∙ ap (λ bs. bs ++ text_of us) (text_head _ (row_line a s));
      printed = printed-append (spelled_line (key _) (row_line a s)) us (row_printed _ a s (omega arith) (omega arith)) made;
      items = λ place. two_places p _ room _ a s _ _ body t.given t.dimensions_are t.named_are l k
          (omega arith) (omega arith) form _ (is _) (none _) _ _ _ _ _ es;
    }

    uniform_prints : Entries (line (row_words table a s) ++ line (codes "uniform" ∷ [])) (uniform_row table a s)
    uniform_prints =
        rw (← text_line (plain Name (codes "uniform")) [])
        (row_then uniform_line _ uniform_printed t.uniform (uniform_body _) uniform_begins_none)

    module _ (within : (c : ℕ) → c < n → w c ≤ one * n) where
      share_small : (c : ℕ) → c < n → w c / n ≤ one
      share_small c d = grind arith

      decimal_prints : Entries (line (row_words table a s) ++ line (values n (λ c. millionths_text (w c / n)))) (decimal_row table a s n w)
      decimal_prints =
          let f : ℕ → ℕ = λ c. w c / n in
          let made = share_line n f some share_small in
          rw (← made.text_is)
          (row_then _ _ made.printed (t.row _)
          (λ place. entries.probabilities (made.numbers _) (omega (arith, length_values n f))
          (all_values (λ q. q ≤ one) n f share_small))
          (inside _ _ made))

      share_prints : (c : ℕ) → c < n → Entries (line (row_words table a s ++ codes ":" ∷ decimal c ∷ millionths_text (w c / n) ∷ []))
          (one_cell table a s c (w c / n) ∷ [])
      share_prints c d es =
          let q = w c / n in
          let small : q ≤ largest = let m = share_small c d in omega arith in
          record {
            lexemes = spelled_line (key _) (share_words a s c q);
            text_is = text_head _ (share_words a s c q);
            printed = share_printed _ a s c q (omega arith) (omega arith) (omega arith) small;
            items = λ place. three_places p _ room _ a s c _ [] _ _ t.given t.dimensions_are t.named_are l k (omega arith)
                (omega arith) (omega arith) (omega arith) (t.cell _) _
                (entries.probabilities (numbers.unsigned (millionths_at false _ q small) numbers.none) refl (alone q (share_small c d)))
                refl _ _ _ _ _ _ _ es;
          }
        where
          alone : (q : ℕ) → q ≤ one → All (λ q. q ≤ one) (q ∷ [])
          alone q m zero i b = m
          alone q m (suc j) i b = omega arith

      cell_prints : (c : ℕ) → c < n → Entries (cell_text table a s n w c) (cell_entries table a s n w c)
      cell_prints c d = at (w c == one)
        where
          at : (b : Bool) → Entries (cond b [] (line (row_words table a s ++ codes ":" ∷ decimal c ∷ millionths_text (w c / n) ∷ [])))
              (cond b [] (one_cell table a s c (w c / n) ∷ []))
          at true = no_entries p _ room
          at false = share_prints c d

      cells_print : Entries (line (row_words table a s) ++ (line (codes "uniform" ∷ []) ++ for_each n (cell_text table a s n w)))
          (single_cells table a s n w)
      cells_print =
          rw (← append_assoc (line (row_words table a s)) (line (codes "uniform" ∷ [])) (for_each n (cell_text table a s n w)))
          (entries_then p _ room _ _
          _ _ uniform_prints
          (entries_each p _ room n _ _ cell_prints))

      -- the row, in each of its shapes
      pub row_prints : Entries (row_text table a s n w) (row_entries table a s n w)
      row_prints = at (is_uniform n w) _
        where
          at : (u d : Bool) → Entries
              (line (row_words table a s) ++ cond u (line (codes "uniform" ∷ []))
              (cond d (line (values n (λ c. millionths_text (w c / n))))
              (line (codes "uniform" ∷ []) ++ for_each n (cell_text table a s n w))))
              (cond u (uniform_row table a s) (cond d (decimal_row table a s n w) (single_cells table a s n w)))
          at true d = uniform_prints
          at false true = decimal_prints
          at false false = cells_print

  -- ---- rows of rewards
  three_written : (mdp : Bool) (hs : List ℤ) → list_any (λ k. k == 3) (forms mdp Reward (Rewards hs)) ≡ true
  three_written mdp hs = grind arith

  two_written : (mdp : Bool) (hs : List ℤ) → list_any (λ k. k == 2) (forms mdp Reward (Rewards hs)) ≡ true
  two_written mdp hs = grind arith

  -- a number for each observation
  module _ (a s e n : ℕ) (r : ℕ → ℤ) (l : a < count_of p.actions) (k : s < count_of p.states) (d : e < count_of p.states) (some : 0 < n)
      (count : count_of (rewarded p) ≡ n)
      (small : (z : ℕ) → z < n → unsigned_abs (written p.costs (r z)) ≤ largest) where
    numbers_print : Entries (line (reward_words a s e) ++ line (values n (λ z. scaled_text (written p.costs (r z)))))
        (reward_row p.costs a s e n r ∷ [])
    numbers_print es =
        let f : ℕ → ℤ = λ z. written p.costs (r z) in
        let made = reward_line n f some small in
        record {
          lexemes = spelled_line (key (letter Reward)) (cell_line a s e) ++ made.lexemes;
          text_is = text-append (spelled_line (key (letter Reward)) (cell_line a s e)) made.lexemes
              ∙ (λ i. text_head Reward (cell_line a s e) i ++ made.text_is i);
          printed = printed-append (spelled_line (key (letter Reward)) (cell_line a s e)) _
              (cell_printed Reward a s e (omega arith) (omega arith) (omega arith))
              made.printed;
          items = λ place. three_places p _ room _ a s e _ _ _ _ tt refl refl l k d (omega arith) (omega arith) (omega arith)
              (three_written _ (values n f)) _
              (entries.rewards (made.numbers _) (omega (arith, length_values n f))) (inside _ _ made _) _ _ _ _ _ _ _ es;
        }

    rewards_print : Entries (rewards_row p.costs (reward_words a s e) n r) (reward_entries p.costs a s e n r)
    rewards_print = at (all_below n _)
      where
        at : (b : Bool) → Entries (cond b [] (line (reward_words a s e) ++ line (values n (λ z. scaled_text (written p.costs (r z))))))
            (cond b [] (reward_row p.costs a s e n r ∷ []))
        at true = no_entries p _ room
        at false = numbers_print

  -- in an MDP a number for each end state
  module _ (a s n : ℕ) (r : ℕ → ℤ) (mdp : is_mdp p ≡ true) (l : a < count_of p.actions) (k : s < count_of p.states) (some : 0 < n)
      (count : count_of p.states ≡ n)
      (small : (e : ℕ) → e < n → unsigned_abs (written p.costs (r e)) ≤ largest) where
    one_each : cells_in (p.states ∷ rewarded p ∷ []) ≡ n
    one_each = grind arith

    ends_print : Entries (line (row_words Reward a s) ++ line (values n (λ e. scaled_text (written p.costs (r e)))))
        (end_row p.costs a s n r ∷ [])
    ends_print es =
        let f : ℕ → ℤ = λ e. written p.costs (r e) in
        let made = reward_line n f some small in
        record {
          lexemes = spelled_line (key (letter Reward)) (row_line a s) ++ made.lexemes;
          text_is = text-append (spelled_line (key (letter Reward)) (row_line a s)) made.lexemes
              ∙ (λ i. text_head Reward (row_line a s) i ++ made.text_is i);
          printed = printed-append (spelled_line (key _) (row_line a s)) _
              (row_printed Reward a s (omega arith) (omega arith)) made.printed;
          items = λ place. two_places p _ room _ a s _ _ _ tt refl refl l k (omega arith) (omega arith) (two_written _ (values n f)) _
              (entries.rewards (made.numbers _) (length_values n f ∙ sym one_each)) (inside _ _ made _) _ _ _ _ _ es;
        }

    end_rewards_print : Entries (rewards_row p.costs (row_words Reward a s) n r) (end_entries p.costs a s n r)
    end_rewards_print = at (all_below n _)
      where
        at : (b : Bool) → Entries (cond b [] (line (row_words Reward a s) ++ line (values n (λ e. scaled_text (written p.costs (r e))))))
            (cond b [] (end_row p.costs a s n r ∷ []))
        at true = no_entries p _ room
        at false = ends_print

  -- the rewards of an action in a state
  pub from_prints : (mdp : Bool) (a s k n : ℕ) (r : ℕ → ℕ → ℤ) → is_mdp p ≡ mdp → a < count_of p.actions → s < count_of p.states
      → count_of p.states ≡ k → count_of (observed p) ≡ n → 0 < k → 0 < n
      → ((e z : ℕ) → e < k → z < n → unsigned_abs (written p.costs (r e z)) ≤ largest)
      → Entries (cond mdp (rewards_row p.costs (row_words Reward a s) k (λ e. r e 0))
      (for_each k (λ e. rewards_row p.costs (reward_words a s e) n (r e)))) (entries_from mdp p.costs a s k n r)
  from_prints true a s k n r is l m states seen some observed small =
      end_rewards_print a s k _ is l m some states (λ e d. small e 0 d observed)
  from_prints false a s k n r is l m states seen some observed small =
      entries_each p _ room k _ _ (λ e d. rewards_print a s e n _ l m (omega arith) observed
      (seen_rewarded p is ∙ seen) (λ z. small e z d))
