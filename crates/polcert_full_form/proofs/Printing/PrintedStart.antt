-- The printed start item is read as the start.
use Rattle.std.proofs.Common.{◌≡◌, ◌∙◌, ℕ, zero, suc, ◌+◌, ◌<◌, ◌≤◌, ◌==◌, ◌||◌, ◌⊎◌, ⊎_elim, Bool, true, false, cond, List, [], ◌∷◌}
use Rattle.std.proofs.Common.{length, get_or, map, filter, sum, codes, decimal, pos, refl, sym, ap, subst, arith}
use Rattle.polcert_full_form.proofs.Common.{list_any, list_all, range_with_len, sum-map, sum_by-cons, scaled_text, Lexeme, Name, Numeral}
use Rattle.polcert_full_form.proofs.Common.{Elements, StartWeights, topic_of, begins_item, one, count_of, by_number, most_states}
use Rattle.polcert_full_form.proofs.Common.{Preamble, equal_weights, included, IsStart, IsStartBody, line}
use Rattle.polcert_full_form.proofs.Common.{IsMillionthsStart, millionths_text, chosen_states, is_uniform_start, is_choice, start_text}
use Rattle.std.specs.List.{AllZip}
use Rattle.std.proofs.lemmas.List.FromFn.{fill_by_all}
use Rattle.polcert_cells.specs.Elements.{StandsFor}
use Rattle.polcert_cells.specs.Start as starts
use Rattle.polcert_format.specs.Text as texts
use Rattle.polcert_cells.proofs.Basics.{and_true, or_false_from}
use Rattle.polcert_text.proofs.Printing.PrintedCut.{Printed, text_of, lexemes_at, ArePrinted}
use Rattle.polcert_text.proofs.Printing.PrintedWords.{Word, plain, key, word_text, spelled_line, AreSpellings, text_line, line_printed}
use Rattle.polcert_full_form.proofs.Writable.Printable.{HasRoom}
use Rattle.polcert_full_form.proofs.Printing.PrintedNumbers.{whole_at, whole_piece, text_numbers, AreSmall, spells_numbers}
use Rattle.polcert_full_form.proofs.Printing.PrintedNumbers.{numbers_at, numbers_inside}
use Rattle.polcert_full_form.proofs.Printing.NumberLines.{map_twice}
use Rattle.polcert_full_form.proofs.Printing.PrintedItems.{AreItems, Prints, one_item}
use Rattle.polcert_full_form.proofs.Printing.PrintedEntries.{known_of}
use Rattle.polcert_full_form.proofs.Printing.PrintedPreamble.{lines_known, words}
use Rattle.polcert_full_form.proofs.Denoting.RowEntries.{test_same, test_apart}
use Rattle.polcert_full_form.proofs.Printing.PrintedParts.{sum_ones}

-- ---- the states that are chosen
abbrev listed : List ℕ → ℕ → Bool
listed ss s = list_any (λ n. n == s) ss

none_below : (p : ℕ → Bool) (a n s : ℕ) → s < a → listed (filter p (range_with_len a n)) s ≡ false
none_below p a zero s l = refl
none_below p a (suc n) s l = grind (arith, none_below p (a + 1) n s (omega (arith, l)))

listed_is : (p : ℕ → Bool) (a n s : ℕ) → a ≤ s → s < a + n → listed (filter p (range_with_len a n)) s ≡ p s
listed_is p a zero s l m = grind arith
listed_is p a (suc n) s l m = grind (arith, ⊎_elim, test_apart, none_below, listed_is p (a + 1) n s)

-- each of them is below the count
abbrev AllBelow : ℕ → List ℕ → Type 0
AllBelow n [] = Unit {0}
AllBelow n (s ∷ ss) = (s < n) × AllBelow n ss

chosen_below : (p : ℕ → Bool) (m a n : ℕ) → a + n ≤ m → AllBelow m (filter p (range_with_len a n))
chosen_below p m a zero l = tt
chosen_below p m a (suc n) l = grind (arith, chosen_below p m (a + 1) n (omega arith))

-- ---- weights of 0 and 1
all_at : (test : ℕ → Bool) (ws : List ℕ) (i : ℕ) → list_all test ws ≡ true → i < length ws → test (get_or ws i 0) ≡ true
all_at test [] i e l = grind arith
all_at test (w ∷ ws) zero e l = grind arith
all_at test (w ∷ ws) (suc i) e l = all_at _ ws i (and_true _ _ e).1 (omega arith)

zero_or_one : (w : ℕ) → (w == 0 || w == 1) ≡ true → cond (w == 1) 1 0 ≡ w
zero_or_one w h1 = grind arith

shares_are : (start : StartWeights) (n : ℕ) (picks : ℕ → Bool) → length start.weights ≡ n
    → ((s : ℕ) → s < n → get_or start.weights s 0 ≡ cond (picks s) 1 0) → start.total ≡ sum start.weights
    → start ≡ equal_weights n picks
shares_are start n picks count weights total =
    let same = fill_by_all _ _ n 0 count weights in
    λ i. record { weights = same i; total = (total ∙ ap sum same ∙ sum-map _ (range_with_len 0 n)) i }

-- the included states make the start
chosen_start : (start : StartWeights) (n : ℕ) → is_choice start ≡ true → length start.weights ≡ n
    → start ≡ equal_weights n (included (chosen_states start))
chosen_start start n e count =
    let both = and_true _ _ e in
    shares_are _ n _ count
    (λ s l. let inside : s < length start.weights = omega arith in
    sym (zero_or_one _ (all_at _ _ s both.0 inside))
    ∙ ap (λ b. cond b 1 0) (sym (listed_is _ 0 (length start.weights) s (omega arith)
    (omega arith))))
    (test_same _ _ both.1)

-- ---- a list of states
abbrev state_word : ℕ → Word
state_word s = plain Numeral (decimal s)

text_states : (ss : List ℕ) → map word_text (map state_word ss) ≡ map decimal ss
text_states [] = refl
text_states (s ∷ ss) = rw (text_states ss)

spells_states : (ss : List ℕ) → AllBelow most_states ss → AreSpellings (map state_word ss)
spells_states [] a = tt
spells_states (s ∷ ss) a = (whole_piece s (omega arith), spells_states ss a.1)

states_at : (states : Elements) (s : ℕ) (ss : List ℕ) → count_of states ≤ most_states → AllBelow (count_of states) (s ∷ ss) → (place : ℕ)
    → AllZip (StandsFor states) (lexemes_at place (spelled_line (state_word s) (map state_word ss))) (s ∷ ss)
states_at states s [] few a place = (by_number (whole_at _ s (omega arith)) a.0, tt)
states_at states s (r ∷ rs) few a place = (by_number (whole_at _ s (omega arith)) a.0, states_at _ r rs few a.1 _)

states_begin_none : (s : ℕ) (ss : List ℕ) (place : ℕ)
    → list_any begins_item (lexemes_at place (spelled_line (state_word s) (map state_word ss))) ≡ false
states_begin_none s [] place = refl
states_begin_none s (r ∷ rs) place = states_begin_none r rs _

below_more : (n m : ℕ) (ss : List ℕ) → n ≤ m → AllBelow n ss → AllBelow m ss
below_more n m [] l a = tt
below_more n m (s ∷ ss) l a = (omega arith, below_more n m ss l a.1)

-- ---- the three forms
module _ (p : Preamble) (start : StartWeights) (room : HasRoom p) (few : count_of p.states ≤ most_states)
    (count : length start.weights ≡ count_of p.states) where
  prints_start : (us : List Printed) (text : List ℕ) → text_of us ≡ text → ArePrinted us
      → ((place : ℕ) → AreItems (lexemes_at place us) (lines_known p) (known_of p start []))
      → Prints text (lines_known p) (known_of p start [])
  prints_start us text e made items = grind arith

  right_start : (word : Lexeme) (body : List Lexeme) → word.kind ≡ Name → word.bytes ≡ codes "start" → list_any begins_item body ≡ false
      → IsStart p.states body start
      → AreItems (word ∷ body) (lines_known p) (known_of p start [])
  right_start word body k b none s =
      one_item _ _ _ _ _ (simp k (ap topic_of b ∙ words.start.topic_is)) none
      (texts.start (record { no_start = refl; no_entry = refl })
      (record { lines = record { discount = refl; costs = refl; states = refl; actions = refl; observations = refl }; pairs = room.pairs })
      s)

  uniform_prints : is_uniform_start start ≡ true → Prints (line (codes "start:" ∷ codes "uniform" ∷ [])) (lines_known p)
      (known_of p start [])
  uniform_prints e = prints_start (spelled_line (key _) (plain _ _ ∷ [])) _ (grind arith)
      (line_printed (key _) (plain _ _ ∷ []) words.start.piece (words.uniform.piece, tt))
      (λ place. right_start _ _ refl refl (or_false_from _ _ (words.uniform.begins_none place) refl)
      (starts.plain refl (subst (IsStartBody _ _) (sym (grind (arith, sum_ones, all_at, shares_are)))
      (starts.uniform (record { kind = refl; bytes = refl })))))

  include_prints : is_choice start ≡ true → 0 < start.total
      → Prints (line (codes "start" ∷ codes "include:" ∷ map decimal (chosen_states start))) (lines_known p) (known_of p start [])
  include_prints e some = at (chosen_states start) same (chosen_below _ _ 0 (length start.weights) (omega arith))
    where
      same : start ≡ equal_weights (count_of p.states) (included (chosen_states start))
      same = chosen_start _ _ e count

      at : (ss : List ℕ) → start ≡ equal_weights (count_of p.states) (included ss) → AllBelow (count_of p.states) ss
          → Prints (line (codes "start" ∷ codes "include:" ∷ map decimal ss)) (lines_known p) (known_of p start [])
      at [] is below = prints_start (spelled_line (plain _ _) (key _ ∷ [])) _ (grind arith)
          (line_printed (plain _ _) (key _ ∷ []) words.start.piece (words.include.piece, tt))
          (λ place. right_start _ _ refl refl (or_false_from _ _ (words.include.begins_none place) refl)
          (subst (IsStart _ _) (sym is) (starts.include [] (record { kind = refl; bytes = refl }) refl tt
          (subst (λ n. 0 < n) (cc) some))))
      at (s ∷ ss) is below = prints_start (spelled_line (plain _ _) (key _ ∷ map _ (s ∷ ss))) _
          (text_line (plain Name (codes "start")) (key (codes "include") ∷ map _ (s ∷ ss))
          ∙ ap (λ ws. line (codes "start" ∷ codes "include:" ∷ ws)) (text_states (s ∷ ss)))
          (line_printed (plain _ _) (key _ ∷ map _ (s ∷ ss)) words.start.piece
          (words.include.piece, spells_states (s ∷ ss) (below_more _ _ (s ∷ ss) few below)))
          (λ place. right_start _ _ refl refl (or_false_from _ _ (words.include.begins_none place) (states_begin_none s ss _))
          (subst (IsStart _ _) (sym is) (starts.include _ (record { kind = refl; bytes = refl }) refl
          (states_at _ s ss few below _) (grind arith))))

  small_shares : (ws : List ℕ) → sum ws ≤ one → AreSmall (map pos ws)
  small_shares [] l = tt
  small_shares (w ∷ ws) l = let sums = sum_by-cons (λ y. y) w ws in (omega arith, small_shares ws (omega arith))

  millionths_prints : IsMillionthsStart (count_of p.states) start → sum start.weights ≡ start.total
      → Prints (line (codes "start:" ∷ map millionths_text start.weights)) (lines_known p) (known_of p start [])
  millionths_prints m adds = at start.weights refl
    where
      at : (ws : List ℕ) → start.weights ≡ ws → Prints (line (codes "start:" ∷ map millionths_text ws)) (lines_known p)
          (known_of p start [])
      at [] is = grind arith
      at (w ∷ ws) is =
          let small = small_shares (w ∷ ws) (grind arith) in
          let numbers = map_twice pos scaled_text (w ∷ ws) in
          prints_start (spelled_line (key _) (map _ (map _ (w ∷ ws)))) _
          (text_line (key (codes "start")) (map _ (map _ (w ∷ ws)))
          ∙ ap (λ ts. line (codes "start:" ∷ ts)) (text_numbers (map _ (w ∷ ws)) ∙ numbers))
          (line_printed (key _) (map _ (map _ (w ∷ ws))) words.start.piece
          (spells_numbers (map _ (w ∷ ws)) small))
          (λ place. right_start _ _ refl refl (numbers_inside (numbers_at (pos w) _ small _))
          (starts.plain refl (subst (IsStartBody _ _) (grind arith)
          (starts.probabilities (w ∷ ws) m.several (numbers_at _ _ small _) (cc)
          (cc)))))

  -- states that are the same, or millionths
  pub start_prints : sum start.weights ≡ start.total → 0 < start.total → (is_choice start ≡ true)
      ⊎ IsMillionthsStart (count_of p.states) start → Prints (start_text start) (lines_known p) (known_of p start [])
  start_prints adds some form = grind (arith, uniform_prints, include_prints, millionths_prints)
