-- States, actions and observations: this many, or names in order.
-- Source: the POMDP file format page at pomdp.org, "states:", "actions:" and "observations:": "either a number or a
-- list of names"; an element of a list may also be given by its number, from 0 on. Our own: how many elements of a kind there
-- may be, all names of a list different, and leading zeros of a number.
use Rattle.std.specs.Prelude.{◌≡◌, ◌≢◌, ℕ, ◌<◌, ◌≤◌, List, [], ◌∷◌, length, map, Option, Some, None, All, AllPairs, bytes_eq, position, slice_get}
use Rattle.polcert_text.specs.Cut.{Lexeme}
pub use Rattle.polcert_cells.specs.declared.elements.Elements.{Elements}
pub use Rattle.polcert_cells.specs.declared.elements.Elements.TheVariants.{Count, Names}
use Rattle.polcert_cells.specs.Words.{IsName}
use Rattle.polcert_cells.specs.Numbers.{IsWhole}

abbrev pub count_of : Elements → ℕ
count_of (Count n) = n
count_of (Names names) = length names

-- where the name stands among the names
abbrev pub number_of : Elements → List ℕ → Option ℕ
number_of (Count n) name = None
number_of (Names names) name = position (bytes_eq name) names

-- the name of the element of this number, where names were given
abbrev pub name_of : Elements → ℕ → Option (List ℕ)
name_of (Count n) index = None
name_of (Names names) index = slice_get names index

-- The lexeme stands for the element of this number: it is the number, or the element's name.
pub data StandsFor (elements : Elements) (l : Lexeme) (index : ℕ) : Type 0 where
  by_number : IsWhole l index → index < count_of elements → StandsFor elements l index
  by_name : IsName l → number_of elements l.bytes ≡ Some index → StandsFor elements l index

-- how many elements of each kind there may be
abbrev pub most_states : ℕ
most_states = 10_000

abbrev pub most_actions : ℕ
most_actions = 1000

-- as many as states, which are what an MDP observes
abbrev pub most_observations : ℕ
most_observations = most_states

-- how many elements of a kind there may be, whichever the kind
abbrev pub most_elements : ℕ
most_elements = most_states

-- how many pairs of a state and an observation there may be
abbrev pub most_pairs : ℕ
most_pairs = 5_000_000

-- The lexemes after `states:`, `actions:` or `observations:` are a count, or different names: at most this many.
pub data AreElements (most : ℕ) : List Lexeme → Elements → Type 0 where
  counted : {l : Lexeme} {n : ℕ} → IsWhole l n → 1 ≤ n → n ≤ most → AreElements most (l ∷ []) (Count n)
  named : {ls : List Lexeme} → All IsName ls → 1 ≤ length ls → length ls ≤ most
      → AllPairs (λ x y. x ≢ y) (map (λ l. l.bytes) ls) → AreElements most ls (Names (map (λ l. l.bytes) ls))
