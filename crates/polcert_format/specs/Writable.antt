-- What is known of a model beside its limits, so that its full form is a text of it where it is not too large to print: names
-- that a text may give, a start that a start item may give, weights that a row may give, and in an MDP what is observed.
use Rattle.std.specs.Prelude.{◌≡◌, ◌≢◌, ℕ, ◌*◌, ◌%◌, ◌<◌, ◌≤◌, ◌==◌, true, false, if◌then◌else◌, List, length, All, AllPairs, Some}
use Rattle.std.specs.Option.{ForSome}
use Rattle.polcert_text.specs.Lexemes.{kind_of}
use Rattle.polcert_text.specs.declared.tokens.TokenKind.TheVariants.{Name}
use Rattle.polcert_cells.specs.Words.{is_reserved}
use Rattle.polcert_cells.specs.Numbers.{one}
use Rattle.polcert_cells.specs.declared.elements.Elements.{Elements}
use Rattle.polcert_cells.specs.declared.elements.Elements.TheVariants.{Names}
use Rattle.polcert_cells.specs.declared.elements.StartWeights.{StartWeights}
use Rattle.polcert_cells.specs.Start.{is_level}
use Rattle.polcert_cells.specs.Preamble.{is_mdp}
use Rattle.polcert_cells.specs.Meaning.{Meaning, states_of, actions_of, observations_of}
use Rattle.polcert_format.specs.FullForm.{is_choice}

-- a name that a text may give
pub record IsWritableName (name : List ℕ) : Type 0 where
  pub kind : kind_of name ≡ Some Name
  pub free : is_reserved name ≡ false
  pub short : length name ≤ 400

-- where there are names, a text may give them, and they differ
abbrev pub HasProperNames : Elements → Type 0
HasProperNames elements = (names : List (List ℕ)) → elements ≡ Names names → All IsWritableName names × AllPairs (λ x y. x ≢ y) names

-- a start of millionths, for this many states
pub record IsMillionthsStart (n : ℕ) (start : StartWeights) : Type 0 where
  pub several : 1 < n
  pub total_is : start.total ≡ one
  pub uneven : is_level start.weights ≡ false

-- one part in n, or a number of millionths, as a weight in a row of n columns
abbrev pub IsWritableWeight : ℕ → ℕ → Type 0
IsWritableWeight n w = w ≢ one → w % n ≡ 0

-- in an MDP the end state is observed, and a reward has nothing to do with what is observed
pub record IsEndObserved (m : Meaning) : Type 0 where
  pub o : (a e z : ℕ) → a < actions_of m → e < states_of m → z < observations_of m → m.o a e z ≡ (if e == z then one * states_of m else 0)
  pub r : (a s e z : ℕ) → a < actions_of m → s < states_of m → e < states_of m → z < observations_of m → m.r a s e z ≡ m.r a s e 0

pub record IsWritable (m : Meaning) : Type 0 where
  pub states : HasProperNames m.preamble.states
  pub actions : HasProperNames m.preamble.actions
  pub observations : ForSome m.preamble.observations HasProperNames
  pub start : is_choice m.start ≡ false → IsMillionthsStart (states_of m) m.start
  pub t : (a s e : ℕ) → a < actions_of m → s < states_of m → e < states_of m → IsWritableWeight (states_of m) (m.t a s e)
  pub o : (a e z : ℕ) → a < actions_of m → e < states_of m → z < observations_of m → IsWritableWeight (observations_of m) (m.o a e z)
  pub mdp : is_mdp m.preamble ≡ true → IsEndObserved m
