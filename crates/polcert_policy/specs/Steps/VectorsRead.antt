-- Helper definitions of private functions: how far vectors have been read. Nobody has to believe them.
use Rattle.std.specs.Prelude.{◌≡◌, ℕ, ℤ, ◌+◌, ◌-◌, ◌*◌, ◌<◌, ◌≤◌, ◌≢◌, Bool, true, false, Option, Some, None, Result, Ok, Err, List, [], ◌∷◌, ◌++◌, length, option_map, MatchResult}
use Rattle.polcert_text.specs.Cut.{Lexeme}
use Rattle.polcert_text.specs.declared.number.Rounding.{Rounding}
use Rattle.polcert_policy.specs.Fields.{minus_kind, is_whole, whole_number_of}
use Rattle.polcert_policy.specs.Graphs.{PolicyGraph, nodes, action_of, most_nodes, IsProperGraph}
use Rattle.polcert_policy.specs.Vectors.{PolicyVectors, Part, tokens_of, sign_kind, AreVectors, IsRoundedVectors, ArePossible}
use Rattle.polcert_policy.specs.VectorText.{IsPartColumn, StopVectorsFor}
use Rattle.polcert_policy.specs.declared.fault.VectorFault.{VectorFault}
use Rattle.polcert_policy.specs.declared.fault.VectorFault.TheVariants as faults
use Rattle.polcert_policy.specs.declared.vectors.OpenSign.{OpenSign}
use Rattle.polcert_policy.specs.declared.vectors_reading.VectorsReading.{VectorsReading}

-- whole vectors, and this many parts of the next
pub record AreVectorsUpTo (rounding : Rounding) (graph : PolicyGraph) (states : ℕ) (parts : List Part) (node column : ℕ) (values : List ℤ) : Type 0 where
  pub records : AreVectors rounding graph states parts values
  pub count : length parts ≡ node * (1 + states) + column
  pub within : column < 1 + states
  pub filled : length values ≡ node * states + (column - 1)
  pub few : node ≤ nodes graph
  pub few_begun : 0 < column → node < nodes graph

-- a sign after which no numeral came yet
abbrev pub open_of : Option Lexeme → List Lexeme
open_of None = []
open_of (Some s) = s ∷ []

-- what is kept of it
abbrev pub kept_sign : Lexeme → OpenSign
kept_sign s = record { place = s.place; is_negative = minus_kind s.kind }

-- where a number begins whose numeral is at the place
abbrev pub place_after : Option OpenSign → ℕ → ℕ
place_after None place = place
place_after (Some sign) place = sign.place

abbrev pub is_minus : Option OpenSign → Bool
is_minus None = false
is_minus (Some sign) = sign.is_negative

-- these tokens were read
pub record HasReadVectors (rounding : Rounding) (graph : PolicyGraph) (seen : List Lexeme) (reading : VectorsReading) : Type 0 where
  pub proper : IsProperGraph graph
  pub parts : List Part
  pub sign : Option Lexeme
  pub vectors : AreVectorsUpTo rounding graph reading.states parts reading.node reading.column reading.values.items
  pub spelled : seen ≡ tokens_of parts ++ open_of sign
  pub kept : reading.sign ≡ option_map kept_sign sign
  pub signed : (s : Lexeme) → sign ≡ Some s → (sign_kind s.kind ≡ true) × (0 < reading.column)

-- why these tokens aren't read on
abbrev pub IsPartRefusal : Rounding → PolicyGraph → ℕ → List Lexeme → VectorFault → Type 0
IsPartRefusal rounding graph states ts (faults.Number fault place) = StopVectorsFor rounding graph states ts (faults.Number fault place)
IsPartRefusal rounding graph states ts (faults.BadShape place) = StopVectorsFor rounding graph states ts (faults.BadShape place)
IsPartRefusal rounding graph states ts (faults.ActionMismatch place) = StopVectorsFor rounding graph states ts (faults.ActionMismatch place)
IsPartRefusal rounding graph states ts (faults.WrongVectorCount place) = StopVectorsFor rounding graph states ts (faults.WrongVectorCount place)
IsPartRefusal rounding graph states ts faults.Memory = Unit {0}
IsPartRefusal rounding graph states ts _ = ⊥

-- the token is read, or is wrong at its place
abbrev pub TakesPart : Rounding → PolicyGraph → Lexeme → VectorsReading → Result (Unit {0}) VectorFault → VectorsReading → Type 0
TakesPart rounding graph t old result new = (seen : List Lexeme) → HasReadVectors rounding graph seen old → MatchResult result (λ _. HasReadVectors rounding graph (seen ++ t ∷ []) new) (IsPartRefusal rounding graph old.states (seen ++ t ∷ []))

-- what the token in place of a vector's action is
abbrev pub CheckedAction : PolicyGraph → ℕ → Lexeme → Result (Unit {0}) VectorFault → Type 0
CheckedAction graph node t (Ok _) = (node < most_nodes) × (node < nodes graph) × (is_whole t ≡ true) × (whole_number_of t ≡ action_of graph node)
CheckedAction graph node t (Err (faults.WrongVectorCount place)) = (place ≡ t.place) × (nodes graph ≤ node)
CheckedAction graph node t (Err (faults.BadShape place)) = (place ≡ t.place) × (node < nodes graph) × (is_whole t ≡ false)
CheckedAction graph node t (Err (faults.ActionMismatch place)) = (place ≡ t.place) × (node < nodes graph) × (is_whole t ≡ true) × (whole_number_of t ≢ action_of graph node)
CheckedAction graph node t (Err _) = ⊥

-- the place continues to the next value's, or to the next vector
pub record AdvancedValue (old new : VectorsReading) : Type 0 where
  pub states_same : new.states ≡ old.states
  pub values_same : new.values ≡ old.values
  pub sign_same : new.sign ≡ old.sign
  pub inside : old.column < old.states → (new.node ≡ old.node) × (new.column ≡ old.column + 1)
  pub last : old.column ≡ old.states → (new.node ≡ old.node + 1) × (new.column ≡ 0)

pub record AreUnfinished (rounding : Rounding) (graph : PolicyGraph) (states : ℕ) (ts : List Lexeme) (vector column : ℕ) : Type 0 where
  pub possible : ArePossible rounding graph states ts
  pub unfinished : (v : PolicyVectors) → IsRoundedVectors rounding graph states ts v → ⊥
  pub column_is : IsPartColumn states ts vector column

-- why these tokens aren't vectors, where the text ends after them
abbrev pub AreEndRefusal : Rounding → PolicyGraph → ℕ → List Lexeme → ℕ → VectorFault → Type 0
AreEndRefusal rounding graph states ts end (faults.Truncated place) = (place ≡ end) × ((n : ℕ) × ((column : ℕ) × AreUnfinished rounding graph states ts n column × (0 < column)))
AreEndRefusal rounding graph states ts end (faults.WrongVectorCount place) = (place ≡ end) × ((n : ℕ) × AreUnfinished rounding graph states ts n 0 × (n < nodes graph))
AreEndRefusal rounding graph states ts end _ = ⊥
