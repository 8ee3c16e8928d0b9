-- The full form as its printer writes it: part after part.
-- Nobody has to believe this file: only private functions cite it.
use Rattle.std.specs.Prelude.{◌≡◌, ℕ, ◌+◌, ◌*◌, ◌/◌, ◌<◌, ◌≤◌, ◌==◌, Bool, true, false, Option, Some, None, if◌then◌else◌, List, [], ◌∷◌, ◌++◌, length, slice_index_or, get_or, ℤ, pos, decimal, codes}
use Rattle.std.specs.Coded.{Unit-prop}
use Rattle.polcert_text.specs.Millionths.{scaled_text}
use Rattle.polcert_cells.specs.declared.entries.Table.{Table}
use Rattle.polcert_cells.specs.declared.entries.Table.TheVariants.{Transition, Observation, Reward}
use Rattle.polcert_cells.specs.declared.elements.Elements.{Elements}
use Rattle.polcert_cells.specs.declared.elements.Elements.TheVariants.{Count, Names}
use Rattle.polcert_cells.specs.declared.elements.StartWeights.{StartWeights}
use Rattle.polcert_cells.specs.Preamble.{columns}
use Rattle.polcert_cells.specs.Numbers.{one}
use Rattle.polcert_cells.specs.Rows.{IsWeighted}
use Rattle.polcert_cells.specs.Meaning.{Meaning, states_of, actions_of, observations_of}
use Rattle.polcert_tables.specs.Kept.{Kept, kept_meaning}
use Rattle.polcert_tables.specs.Steps.RowSums.{row_of}
use Rattle.polcert_text.specs.Lines.{line}
use Rattle.polcert_format.specs.FullForm.{for_each, values, all_below, is_uniform, is_decimal, millionths_text, table_word, cell_text, row_words, row_text, written, is_zero, reward_words, rewards_row, rewards_from}

-- ---- lines of words
abbrev pub after_blank : List ℕ → List ℕ
after_blank word = codes " " ++ word

abbrev pub values_line : Bool → List ℕ
values_line false = codes "values: reward\n"
values_line true = codes "values: cost\n"

-- the lines of the discount and of the kind of values
abbrev pub settings_text : Meaning → List ℕ
settings_text m = codes "discount: " ++ scaled_text (pos m.preamble.discount) ++ codes "\n" ++ values_line m.preamble.costs

abbrev pub name_text : List (List ℕ) → ℕ → List ℕ
name_text names i = after_blank (slice_index_or names i [])

-- the count, or the names
abbrev pub elements_text : Elements → List ℕ
elements_text (Count n) = after_blank (decimal n)
elements_text (Names names) = for_each (length names) (name_text names)

abbrev pub elements_line : List ℕ → Elements → List ℕ
elements_line word elements = word ++ elements_text elements ++ codes "\n"

-- ---- the start
abbrev pub share_of : StartWeights → ℕ → ℕ
share_of start s = slice_index_or start.weights s 0

abbrev pub chosen_text : StartWeights → ℕ → List ℕ
chosen_text start s = if share_of start s == 1 then after_blank (decimal s) else []

abbrev pub share_text : StartWeights → ℕ → List ℕ
share_text start s = after_blank (millionths_text (share_of start s))

-- ---- the indices of a row or a cell
abbrev pub mark_before : ℕ → List ℕ
mark_before i = if i == 0 then codes " " else codes " : "

abbrev pub index_text : List ℕ → ℕ → List ℕ
index_text indices i = mark_before i ++ decimal (slice_index_or indices i 0)

-- `T: a : s`
abbrev pub pattern_text : Table → List ℕ → List ℕ
pattern_text table indices = table_word table ++ for_each (length indices) (index_text indices)

-- ---- a line of numbers
abbrev pub blank_before : ℕ → List ℕ
blank_before i = if i == 0 then [] else codes " "

-- the number in this place of a line
abbrev pub number_text : ℕ → ℤ → List ℕ
number_text i h = blank_before i ++ scaled_text h

-- this many zeros from this place of a line on
abbrev pub zeros_text : ℕ → ℕ → List ℕ
zeros_text first count = for_each count (λ i. number_text (first + i) (pos 0))

-- ---- the rows of T and O
-- T and O alone have weights
pub IsWeighted-prop : (table : Table) → IsProp (IsWeighted table)
IsWeighted-prop Transition = Unit-prop
IsWeighted-prop Observation = Unit-prop
IsWeighted-prop Reward = λ x y. absurd x

-- each weight is at most that of a whole row of n columns
abbrev pub AreSmallWeights : ℕ → (ℕ → ℕ) → Type 0
AreSmallWeights n w = (c : ℕ) → c < n → w c ≤ one * n

-- the probability in this column of n
abbrev pub decimal_text : ℕ → (ℕ → ℕ) → ℕ → List ℕ
decimal_text n w c = number_text c (pos (w c / n))

-- the line of a cell
abbrev pub cell_line : Table → ℕ → ℕ → ℕ → ℤ → List ℕ
cell_line table a s c h = pattern_text table (a ∷ s ∷ c ∷ []) ++ codes " " ++ scaled_text h ++ codes "\n"

-- what stands after the line of a row's indices
abbrev pub body_text : Table → ℕ → ℕ → ℕ → (ℕ → ℕ) → List ℕ
body_text table a s n w =
    if is_uniform n w then line (codes "uniform" ∷ [])
    else (if is_decimal n w then line (values n (λ c. millionths_text (w c / n)))
    else line (codes "uniform" ∷ []) ++ for_each n (cell_text table a s n w))

abbrev pub printed_row : Kept → Table → ℕ → ℕ → List ℕ
printed_row d table a s = row_text table a s (columns d.preamble table) (row_of d table a s)

abbrev pub rows_at : Kept → Table → ℕ → List ℕ
rows_at d table a = for_each (states_of (kept_meaning d)) (printed_row d table a)

abbrev pub rows_text : Kept → Table → List ℕ
rows_text d table = for_each (actions_of (kept_meaning d)) (rows_at d table)

-- ---- the rewards
-- A row of rewards: those of an end state by observation, or, in an MDP, those of all end states.
abbrev pub reward_columns : Meaning → Option ℕ → ℕ
reward_columns m (Some e) = observations_of m
reward_columns m None = states_of m

abbrev pub printed_reward : Meaning → ℕ → ℕ → Option ℕ → ℕ → ℤ
printed_reward m a s (Some e) c = m.r a s e c
printed_reward m a s None c = m.r a s c 0

-- the line of its indices
abbrev pub reward_head : ℕ → ℕ → Option ℕ → List ℕ
reward_head a s (Some e) = pattern_text Reward (a ∷ s ∷ e ∷ []) ++ codes "\n"
reward_head a s None = pattern_text Reward (a ∷ s ∷ []) ++ codes "\n"

abbrev pub reward_row_text : Meaning → ℕ → ℕ → Option ℕ → List ℕ
reward_row_text m a s (Some e) = rewards_row m.preamble.costs (reward_words a s e) (observations_of m) (m.r a s e)
reward_row_text m a s None = rewards_row m.preamble.costs (row_words Reward a s) (states_of m) (λ e. m.r a s e 0)

-- the reward in this column, as the text gives it
abbrev pub reward_text : Bool → (ℕ → ℤ) → ℕ → List ℕ
reward_text costs r c = number_text c (written costs (r c))

-- the block has the rewards of the row of n columns from this column on: as many as there is room for, or as there are
abbrev pub IsFilled : (ℕ → ℤ) → ℕ → ℕ → List ℤ → Type 0
IsFilled r n first block = (i : ℕ) → i < length block → first + i < n → get_or block i (pos 0) ≡ r (first + i)

-- the reward in this place of a block that begins at this column, as the text gives it
abbrev pub block_text : Bool → ℕ → List ℤ → ℕ → List ℕ
block_text costs first rewards i = number_text (first + i) (written costs (get_or rewards i (pos 0)))

-- in a row of n columns all rewards before this column are 0, and some reward isn't
pub record IsPaidFrom (r : ℕ → ℤ) (n first : ℕ) : Type 0 where
  pub before : (c : ℕ) → c < first → r c ≡ pos 0
  pub within : first < n
  pub paid : all_below n (λ c. is_zero (r c)) ≡ false

-- the rows of an action in a state, where observations are made
abbrev pub reward_rows : Meaning → ℕ → ℕ → List ℕ
reward_rows m a s = for_each (states_of m) (λ e. reward_row_text m a s (Some e))

abbrev pub rewards_at : Meaning → ℕ → List ℕ
rewards_at m a = for_each (states_of m) (rewards_from m a)
