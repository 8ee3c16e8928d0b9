-- Helper definitions of private functions: how far a graph has been read. Nobody has to believe them.
use Rattle.std.specs.Prelude.{◌≡◌, ℕ, suc, ◌+◌, ◌-◌, ◌*◌, ◌<◌, ◌≤◌, ◌≢◌, true, false, Option, Some, None, Result, Ok, Err, List, [], ◌∷◌, ◌++◌, length, map, slice_get, MatchResult}
use Rattle.polcert_text.specs.Cut.{Lexeme}
use Rattle.polcert_policy.specs.Fields.{minus_kind, is_joined, is_whole, whole_number_of}
use Rattle.polcert_policy.specs.Graphs.{PolicyGraph, AreNodes, IsLooseGraph, IsFirstBeyond, IsPossibleGraph, width, most_nodes}
use Rattle.polcert_policy.specs.GraphText.{IsColumn, GraphFirstBadToken}
use Rattle.polcert_policy.specs.Steps.Kept.{kept_of}
use Rattle.polcert_policy.specs.declared.fault.GraphFault.{GraphFault}
use Rattle.polcert_policy.specs.declared.fault.GraphFault.TheVariants as faults
use Rattle.polcert_policy.specs.declared.graph_reading.GraphReading.{GraphReading}
use Rattle.polcert_policy.specs.declared.graph.MinusSign.{MinusSign}

-- whole nodes, and this many tokens of the next
pub record AreNodesUpTo (actions observations : ℕ) (ts : List Lexeme) (node column : ℕ) (chosen : List ℕ) (successors : List (Option ℕ)) : Type 0 where
  pub records : AreNodes actions observations ts chosen successors
  pub count : length ts ≡ node * width observations + column
  pub within : column < width observations
  pub chosen_before : column < 2 → length chosen ≡ node
  pub chosen_after : 2 ≤ column → length chosen ≡ suc node
  pub filled : length successors ≡ node * observations + (column - 2)
  pub few : node ≤ most_nodes
  pub few_begun : 0 < column → node < most_nodes

-- the last of the tokens, if it is a `-`
abbrev pub IsLastMinus : List Lexeme → Option MinusSign → Type 0
IsLastMinus ts None = (k : ℕ) (s : Lexeme) → slice_get ts k ≡ Some s → suc k ≡ length ts → minus_kind s.kind ≡ false
IsLastMinus ts (Some minus) = (before : List Lexeme) × ((s : Lexeme) × (ts ≡ before ++ s ∷ []) × (minus_kind s.kind ≡ true) × (minus.place ≡ s.place) × (minus.stop ≡ s.place + length s.bytes))

-- the token doesn't join on to the last of these
abbrev pub IsApartFrom : List Lexeme → Lexeme → Type 0
IsApartFrom ts t = (k : ℕ) (s : Lexeme) → slice_get ts k ≡ Some s → suc k ≡ length ts → is_joined s t ≡ false

-- these tokens were read
pub record HasNodes (seen : List Lexeme) (reading : GraphReading) : Type 0 where
  pub values : List (Option ℕ)
  pub nodes : AreNodesUpTo reading.actions reading.observations seen reading.node reading.column reading.chosen.items values
  pub kept : reading.successors.items ≡ map kept_of values

pub record IsRead (seen : List Lexeme) (reading : GraphReading) : Type 0 where
  pub nodes : HasNodes seen reading
  pub last : IsLastMinus seen reading.minus

-- why these tokens aren't read on
abbrev pub IsTokenRefusal : ℕ → ℕ → List Lexeme → GraphFault → Type 0
IsTokenRefusal actions observations ts (faults.BadShape place) = GraphFirstBadToken actions observations ts (faults.BadShape place)
IsTokenRefusal actions observations ts (faults.NodeOutOfOrder place) = GraphFirstBadToken actions observations ts (faults.NodeOutOfOrder place)
IsTokenRefusal actions observations ts (faults.ActionOutOfRange place) = GraphFirstBadToken actions observations ts (faults.ActionOutOfRange place)
IsTokenRefusal actions observations ts (faults.TooManyNodes place) = GraphFirstBadToken actions observations ts (faults.TooManyNodes place)
IsTokenRefusal actions observations ts faults.Memory = Unit {0}
IsTokenRefusal actions observations ts _ = ⊥

pub record IsUnfinished (actions observations : ℕ) (ts : List Lexeme) (node column : ℕ) : Type 0 where
  pub possible : IsPossibleGraph actions observations ts
  pub unfinished : (g : PolicyGraph) → IsLooseGraph actions observations ts g → ⊥
  pub column_is : IsColumn observations ts node column

-- why these tokens aren't a graph, where the text ends after them
abbrev pub IsEndRefusal : ℕ → ℕ → List Lexeme → ℕ → GraphFault → Type 0
IsEndRefusal actions observations ts end (faults.Truncated place) = (place ≡ end) × ((n : ℕ) × ((column : ℕ) × IsUnfinished actions observations ts n column × (0 < column)))
IsEndRefusal actions observations ts end (faults.NoNodes place) = (place ≡ end) × IsUnfinished actions observations ts 0 0
IsEndRefusal actions observations ts end (faults.SuccessorOutOfRange n z) = (g : PolicyGraph) × IsLooseGraph actions observations ts g × IsFirstBeyond g n z
IsEndRefusal actions observations ts end _ = ⊥

-- the places of the token, if it is a `-`
abbrev pub MinusOf : Lexeme → ℕ → Option MinusSign → Type 0
MinusOf t stop None = minus_kind t.kind ≡ false
MinusOf t stop (Some minus) = (minus_kind t.kind ≡ true) × (minus.place ≡ t.place) × (minus.stop ≡ stop)

-- what stays while a graph is read
abbrev pub HasCounts : ℕ → ℕ → GraphReading → Type 0
HasCounts actions observations reading = (reading.actions ≡ actions) × (reading.observations ≡ observations)

-- what the token in place of a node's number is
abbrev pub CheckedNumber : ℕ → Lexeme → Result (Unit {0}) GraphFault → Type 0
CheckedNumber node t (Ok _) = (node < most_nodes) × (is_whole t ≡ true) × (whole_number_of t ≡ node)
CheckedNumber node t (Err (faults.TooManyNodes place)) = (place ≡ t.place) × (node ≡ most_nodes)
CheckedNumber node t (Err (faults.BadShape place)) = (place ≡ t.place) × (node < most_nodes) × (is_whole t ≡ false)
CheckedNumber node t (Err (faults.NodeOutOfOrder place)) = (place ≡ t.place) × (node < most_nodes) × (is_whole t ≡ true) × (whole_number_of t ≢ node)
CheckedNumber node t (Err _) = ⊥

-- what the token in place of a node's action is
abbrev pub ReadAction : ℕ → Lexeme → Result ℕ GraphFault → Type 0
ReadAction actions t (Ok action) = (is_whole t ≡ true) × (whole_number_of t ≡ action) × (action < actions)
ReadAction actions t (Err (faults.BadShape place)) = (place ≡ t.place) × (is_whole t ≡ false)
ReadAction actions t (Err (faults.ActionOutOfRange place)) = (place ≡ t.place) × (is_whole t ≡ true) × (actions ≤ whole_number_of t)
ReadAction actions t (Err _) = ⊥

-- the place continues to the next token's
pub record Advanced (old new : GraphReading) : Type 0 where
  pub actions_same : new.actions ≡ old.actions
  pub observations_same : new.observations ≡ old.observations
  pub inside : suc old.column < width old.observations → (new.node ≡ old.node) × (new.column ≡ suc old.column)
  pub last : suc old.column ≡ width old.observations → (new.node ≡ suc old.node) × (new.column ≡ 0)
  pub chosen_same : new.chosen ≡ old.chosen
  pub successors_same : new.successors ≡ old.successors
  pub minus_same : new.minus ≡ old.minus

-- a token that doesn't join on is read, or is wrong at its place
abbrev pub TakesNext : Lexeme → GraphReading → Result (Unit {0}) GraphFault → GraphReading → Type 0
TakesNext t old result new = (seen : List Lexeme) → HasNodes seen old → IsApartFrom seen t → MatchResult result (λ _. HasNodes (seen ++ t ∷ []) new) (IsTokenRefusal old.actions old.observations (seen ++ t ∷ []))

abbrev pub AllBelow : ℕ → List (Option ℕ) → Type 0
AllBelow count successors = (k m : ℕ) → slice_get successors k ≡ Some (Some m) → m < count

pub record IsFirstBeyondAt (count : ℕ) (successors : List (Option ℕ)) (place : ℕ) : Type 0 where
  pub node : ℕ
  pub beyond : slice_get successors place ≡ Some (Some node)
  pub above : count ≤ node
  pub first : (k m : ℕ) → k < place → slice_get successors k ≡ Some (Some m) → m < count
