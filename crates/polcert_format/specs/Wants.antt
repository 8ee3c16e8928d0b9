-- What each place of an item's body is for, by the item's topic and the lexemes of the body before it.
-- Source: the POMDP file format page at pomdp.org, whose forms of items these are, read from left to right.
use Rattle.std.specs.Prelude.{ℕ, zero, suc, ◌+◌, ◌-◌, ◌==◌, ◌&&◌, nat_lt, Bool, true, false, List, [], ◌∷◌, map, drop, if◌then◌else◌}
use Rattle.polcert_text.specs.Cut.{Lexeme}
use Rattle.polcert_text.specs.Lexemes.{are_digits}
use Rattle.polcert_text.specs.declared.tokens.TokenKind.{TokenKind}
use Rattle.polcert_text.specs.declared.tokens.TokenKind.TheVariants as kinds
use Rattle.polcert_cells.specs.declared.entries.Table.{Table}
use Rattle.polcert_cells.specs.declared.entries.Table.TheVariants.{Reward}
use Rattle.polcert_cells.specs.declared.words.Topic.{Topic}
use Rattle.polcert_cells.specs.declared.words.Topic.TheVariants.{Discount, Values, States, Actions, Observations, Start, Cells}
use Rattle.polcert_cells.specs.Elements.{count_of, most_states, most_actions, most_observations}
use Rattle.polcert_cells.specs.Entry.{cells_in}
use Rattle.polcert_format.specs.Text.{ModelSoFar}
use Rattle.polcert_format.specs.Reasons.{is_sign_kind}
use Rattle.polcert_cells.specs.Preamble.{Preamble, is_mdp, dimensions}
use Rattle.polcert_format.specs.KnownPreamble.{preamble_in}
use Rattle.polcert_format.specs.Misfits.{Expected, Mark, Index, Listed, CountOrName, FurtherName, StartBody, NumberOrEnd, Number, Digits, EndOfNumbers, EndOfWord}

-- where a number may end: whether a sign stands before it, and how many numbers are still to come
abbrev pub number_end : Bool → ℕ → Expected
number_end true left = Digits
number_end false zero = EndOfNumbers
number_end false (suc left) = Number

-- Numbers: whether a sign stands before the lexemes, and how many numbers are still to come.
abbrev pub numbers_want : Bool → ℕ → List Lexeme → Expected
numbers_want signed left [] = number_end signed left
numbers_want signed left (l ∷ ls) = numbers_want (is_sign_kind l.kind) (if is_sign_kind l.kind then left else left - 1) ls

-- a colon and one number
abbrev pub discount_wants : List Lexeme → Expected
discount_wants [] = Mark
discount_wants (colon ∷ ls) = numbers_want false 1 ls

-- a colon and a word
abbrev pub values_want : List Lexeme → Expected
values_want [] = Mark
values_want (colon ∷ []) = Mark
values_want (colon ∷ word ∷ ls) = EndOfWord

abbrev pub is_number_kind : TokenKind → Bool
is_number_kind kinds.Numeral = true
is_number_kind _ = false

-- a count, or names, of at most this many
abbrev pub names_want : ℕ → List Lexeme → Expected
names_want most [] = CountOrName
names_want most (l ∷ ls) = if is_number_kind l.kind then EndOfWord else FurtherName most (map (λ m. m.bytes) (l ∷ ls))

abbrev pub elements_want : ℕ → List Lexeme → Expected
elements_want most [] = Mark
elements_want most (colon ∷ ls) = names_want most ls

-- after an index: a colon and further places, a word, or numbers
abbrev pub by_kind : TokenKind → Expected → Expected → Expected
by_kind kinds.Colon further other = further
by_kind kinds.Name further other = EndOfWord
by_kind _ further other = other

-- how many places at least stand before numbers (in an MDP one, of rewards too)
abbrev pub least_written : Bool → Table → ℕ
least_written mdp Reward = if mdp then 1 else 2
least_written mdp _ = 1

-- a place after this many others: in an MDP the fourth is `*`
abbrev pub place_wants : Preamble → ℕ → Expected
place_wants p written = if is_mdp p && written == 3 then Mark else Index

-- An entry: whether a colon stands before the lexemes, and how many places were written. Numbers for the cells that
-- these leave open stand after enough of them, and before that only a colon.
abbrev pub entry_wants : Preamble → Table → Bool → ℕ → List Lexeme → Expected
entry_wants p table true written [] = place_wants p written
entry_wants p table true written (l ∷ ls) = entry_wants p table false (written + 1) ls
entry_wants p table false written [] = if nat_lt written (least_written (is_mdp p) table) then Mark else numbers_want false (cells_in (drop written (dimensions p table))) []
entry_wants p table false written (l ∷ ls) = by_kind l.kind (entry_wants p table true written ls) (numbers_want false (cells_in (drop written (dimensions p table))) (l ∷ ls))

-- a colon, the first place, and what follows it
abbrev pub cells_want : Preamble → Table → List Lexeme → Expected
cells_want p table [] = Mark
cells_want p table (colon ∷ ls) = entry_wants p table true 0 ls

-- digits alone after `start:` may be a state's number, unless there is one state
abbrev pub may_be_state : ℕ → TokenKind → List ℕ → Bool
may_be_state count kinds.Numeral bytes = if count == 1 then false else are_digits bytes
may_be_state count _ bytes = false

-- a word or a state's name, or numbers
abbrev pub start_body_wants : ℕ → List Lexeme → Expected
start_body_wants count [] = StartBody
start_body_wants count (l ∷ []) = if may_be_state count l.kind l.bytes then NumberOrEnd else by_kind l.kind EndOfWord (numbers_want false count (l ∷ []))
start_body_wants count (l ∷ m ∷ ls) = by_kind l.kind EndOfWord (numbers_want false count (l ∷ m ∷ ls))

-- a colon and a list of states
abbrev pub list_wants : List Lexeme → Expected
list_wants [] = Mark
list_wants (colon ∷ ls) = Listed

abbrev pub is_colon : TokenKind → Bool
is_colon kinds.Colon = true
is_colon _ = false

-- a colon and the body, or `include` or `exclude` and a list
abbrev pub start_wants : ℕ → List Lexeme → Expected
start_wants count [] = Mark
start_wants count (l ∷ ls) = if is_colon l.kind then start_body_wants count ls else list_wants ls

-- The lexemes after the item's word were taken: what the next place is for.
abbrev pub expected : ModelSoFar → Topic → List Lexeme → Expected
expected k Discount taken = discount_wants taken
expected k Values taken = values_want taken
expected k States taken = elements_want most_states taken
expected k Actions taken = elements_want most_actions taken
expected k Observations taken = elements_want most_observations taken
expected k Start taken = start_wants (count_of (preamble_in k).states) taken
expected k (Cells table) taken = cells_want (preamble_in k) table taken
