-- Entries: the lines of T, O and R. An entry is a table, a pattern of places, and a body that fills the cells which
-- the places leave open, row after row.
-- Source: the POMDP file format page at pomdp.org, "the transition probabilities", "the observation probabilities"
-- and "the rewards": these forms are its list of forms, written as one table (but for a matrix after `R: a`, which is
-- taken in an MDP alone). Our own: `identity` stands for T alone, and an MDP's forms of R.
use Rattle.std.specs.Prelude.{◌≡◌, ℕ, ◌*◌, ◌≤◌, ◌==◌, Bool, true, false, if◌then◌else◌, List, [], ◌∷◌, ◌++◌, length, drop, map, All, ℤ, pos, codes}
use Rattle.std.specs.List.{list_any}
use Rattle.polcert_text.specs.Cut.{Lexeme}
use Rattle.polcert_cells.specs.declared.entries.Place.{Place}
use Rattle.polcert_cells.specs.declared.entries.Place.TheVariants.{Every, Only}
use Rattle.polcert_cells.specs.declared.entries.Body.{Body}
use Rattle.polcert_cells.specs.declared.entries.Body.TheVariants.{Probabilities, Rewards, Uniform, Identity}
use Rattle.polcert_cells.specs.declared.entries.Entry.{Entry}
use Rattle.polcert_text.specs.declared.tokens.TokenKind.TheVariants.{Colon, Star}
use Rattle.polcert_cells.specs.declared.entries.Table.{Table}
use Rattle.polcert_cells.specs.declared.entries.Table.TheVariants.{Transition, Observation, Reward}
use Rattle.polcert_cells.specs.Words.{IsWord}
use Rattle.polcert_cells.specs.Numbers.{AreNumbers, one}
use Rattle.polcert_cells.specs.Elements.{Elements, count_of, StandsFor}
use Rattle.polcert_cells.specs.Preamble.{Preamble, is_mdp, dimensions, named}

-- The table of forms: how many places may be written before such a body. One place less than the table has indices
-- leaves a row open, two places less a matrix; with all of them written the body is a single cell. In an MDP
-- a reward's three places are all of them, and a fourth, `*`, leaves a single cell too.
abbrev pub forms : Bool → Table → Body → List ℕ
forms mdp Transition (Probabilities ps) = 1 ∷ 2 ∷ 3 ∷ []
forms mdp Transition Uniform = 1 ∷ 2 ∷ []
forms mdp Transition Identity = 1 ∷ []
forms mdp Observation (Probabilities ps) = 1 ∷ 2 ∷ 3 ∷ []
forms mdp Observation Uniform = 1 ∷ 2 ∷ []
forms mdp Reward (Rewards hs) = if mdp then (1 ∷ 2 ∷ 3 ∷ 4 ∷ []) else (2 ∷ 3 ∷ 4 ∷ [])
forms _ _ _ = []

-- An MDP has no entries of O: what is observed is the end state.
abbrev pub MayBeGiven : Preamble → Table → Type 0
MayBeGiven p Observation = is_mdp p ≡ false
MayBeGiven p _ = Unit {0}

-- how many cells there are where each index runs over its elements
abbrev pub cells_in : List Elements → ℕ
cells_in [] = 1
cells_in (d ∷ ds) = count_of d * cells_in ds

abbrev pub IsPlace : Elements → Lexeme → Place → Type 0
IsPlace elements l Every = l.kind ≡ Star
IsPlace elements l (Only index) = StandsFor elements l index

-- places, each after a colon of its own
pub data ArePlaces : List Elements → List Lexeme → List Place → Type 0 where
  none : {ds : List Elements} → ArePlaces ds [] []
  more : {d : Elements} {ds : List Elements} {colon l : Lexeme} {ls : List Lexeme} {p : Place} {ps : List Place}
      → colon.kind ≡ Colon → IsPlace d l p → ArePlaces ds ls ps → ArePlaces (d ∷ ds) (colon ∷ l ∷ ls) (p ∷ ps)

-- the lexemes are this body, for this many cells
pub data IsBody (cells : ℕ) : List Lexeme → Body → Type 0 where
  probabilities : {ls : List Lexeme} {ps : List ℕ} → AreNumbers ls (map pos ps) → length ps ≡ cells → All (λ p. p ≤ one) ps → IsBody cells ls (Probabilities ps)
  rewards : {ls : List Lexeme} {hs : List ℤ} → AreNumbers ls hs → length hs ≡ cells → IsBody cells ls (Rewards hs)
  uniform : {l : Lexeme} → IsWord (codes "uniform") l → IsBody cells (l ∷ []) Uniform
  identity : {l : Lexeme} → IsWord (codes "identity") l → IsBody cells (l ∷ []) Identity

-- The lexemes after the word of the table are this entry.
pub record IsEntry (p : Preamble) (table : Table) (lexemes : List Lexeme) (entry : Entry) : Type 0 where
  pub pattern : List Lexeme
  pub rest : List Lexeme
  pub whole : lexemes ≡ pattern ++ rest
  pub table_is : entry.table ≡ table
  pub form : list_any (λ n. n == length entry.places) (forms (is_mdp p) table entry.body) ≡ true
  pub places : ArePlaces (named p table) pattern entry.places
  pub body : IsBody (cells_in (drop (length entry.places) (dimensions p table))) rest entry.body
