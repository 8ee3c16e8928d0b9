-- Small models, to be computed by hand.
use Rattle.std.specs.Prelude.{ℕ, ◌*◌, false, List, [], ◌∷◌, map, ℤ, pos, neg_ℤ, Some, None, codes}
use Rattle.std.specs.List.{range_with_len}
use Rattle.polcert_text.specs.Cut.{Lexeme}
use Rattle.polcert_text.specs.declared.tokens.TokenKind.TheVariants as kinds
use Rattle.polcert_cells.specs.declared.entries.Table.TheVariants.{Transition, Observation, Reward}
use Rattle.polcert_cells.specs.declared.elements.Elements.TheVariants.{Count}
use Rattle.polcert_cells.specs.Preamble.{Preamble}
use Rattle.polcert_cells.specs.declared.entries.Place.{Place}
use Rattle.polcert_cells.specs.declared.entries.Place.TheVariants.{Every, Only}
use Rattle.polcert_cells.specs.declared.entries.Body.{Body}
use Rattle.polcert_cells.specs.declared.entries.Body.TheVariants.{Probabilities, Rewards, Uniform, Identity}
use Rattle.polcert_cells.specs.declared.entries.Entry.{Entry}
use Rattle.polcert_cells.specs.Meaning.{Meaning, meaning_of}

abbrev pub counts : ℕ → ℕ → ℕ → Preamble
counts states actions observations = record { discount = 1_000_000; costs = false; states = Count states; actions = Count actions; observations = Some (Count observations) }

abbrev pub transition : List Place → Body → Entry
transition places body = record { table = Transition; places = places; body = body }

abbrev pub observation : List Place → Body → Entry
observation places body = record { table = Observation; places = places; body = body }

abbrev pub rewards : List Place → List ℤ → Entry
rewards places hs = record { table = Reward; places = places; body = Rewards hs }

-- n states, one action, one observation, `T: 0 identity O: 0 uniform`, and then these entries
abbrev pub plain : ℕ → List Entry → Meaning
plain n entries = meaning_of (counts n 1 1) None (transition (Only 0 ∷ []) Identity ∷ observation (Only 0 ∷ []) Uniform ∷ entries)

-- the first row of T
abbrev pub first_row : Meaning → ℕ → List ℕ
first_row m n = map (m.t 0 0) (range_with_len 0 n)

-- `T: 0 uniform`
abbrev pub thirds : Meaning
thirds = plain 3 (transition (Only 0 ∷ []) Uniform ∷ [])

-- `T: 0 : 0` and three numbers
abbrev pub decimal_thirds : ℕ → Meaning
decimal_thirds last = plain 3 (transition (Only 0 ∷ Only 0 ∷ []) (Probabilities (333_333 ∷ 333_333 ∷ last ∷ [])) ∷ [])

abbrev pub one_cell : ℕ → ℕ → Entry
one_cell column p = transition (Only 0 ∷ Only 0 ∷ Only column ∷ []) (Probabilities (p ∷ []))

-- `T: 0 : 0 uniform`, and after it the single cells 0.5, 0, 0 and 0.5 at the columns 0, 1, 2 and 0
abbrev pub sixths : Meaning
sixths = plain 6 (transition (Only 0 ∷ Only 0 ∷ []) Uniform ∷ one_cell 0 500_000 ∷ one_cell 1 0 ∷ one_cell 2 0 ∷ one_cell 0 500_000 ∷ [])

abbrev pub whole : ℕ → ℤ
whole n = pos (n * 1_000_000)

-- `R: 0 : 0 1 2 3 4 R: * : * : 1 5 6 R: 0 : * : * : 0 7 R: 0 : 0 : 1 : 1 8` over two states and two observations
abbrev pub patterns : Meaning
patterns = meaning_of (counts 2 1 2) None
    (rewards (Only 0 ∷ Only 0 ∷ []) (whole 1 ∷ whole 2 ∷ whole 3 ∷ whole 4 ∷ [])
    ∷ rewards (Every ∷ Every ∷ Only 1 ∷ []) (whole 5 ∷ whole 6 ∷ [])
    ∷ rewards (Only 0 ∷ Every ∷ Every ∷ Only 0 ∷ []) (whole 7 ∷ [])
    ∷ rewards (Only 0 ∷ Only 0 ∷ Only 1 ∷ Only 1 ∷ []) (whole 8 ∷ []) ∷ [])

-- the rewards of action 0, by start state, end state and observation
abbrev pub reward_table : Meaning → List ℤ
reward_table m = m.r 0 0 0 0 ∷ m.r 0 0 0 1 ∷ m.r 0 0 1 0 ∷ m.r 0 0 1 1 ∷ m.r 0 1 0 0 ∷ m.r 0 1 0 1 ∷ m.r 0 1 1 0 ∷ m.r 0 1 1 1 ∷ []

abbrev pub name : List ℕ → Lexeme
name bytes = record { kind = kinds.Name; place = 0; bytes = bytes }

abbrev pub numeral : List ℕ → Lexeme
numeral bytes = record { kind = kinds.Numeral; place = 0; bytes = bytes }

abbrev pub colon : Lexeme
colon = record { kind = kinds.Colon; place = 0; bytes = codes ":" }

-- a reward for the one action and observation, at all start and end states of two
abbrev pub reward_cells : Meaning → List ℤ
reward_cells m = m.r 0 0 0 0 ∷ m.r 0 0 1 0 ∷ m.r 0 1 0 0 ∷ m.r 0 1 1 0 ∷ []

abbrev pub minus_one_everywhere : Entry
minus_one_everywhere = rewards (Every ∷ Every ∷ Every ∷ Every ∷ []) (neg_ℤ (whole 1) ∷ [])

abbrev pub five_at_first : Entry
five_at_first = rewards (Only 0 ∷ Only 0 ∷ Only 0 ∷ Only 0 ∷ []) (whole 5 ∷ [])

-- `R: * : * : * : * -1 R: 0 : 0 : 0 : 0 5`, and with the first of them once more at the end
abbrev pub general_first : Meaning
general_first = plain 2 (minus_one_everywhere ∷ five_at_first ∷ [])

abbrev pub general_last : Meaning
general_last = plain 2 (minus_one_everywhere ∷ five_at_first ∷ minus_one_everywhere ∷ [])
