-- The tokens of belief points: their fields, one after another.
--
-- Our own form, in the manner of the files of graphs and vectors: for each point its number, counted from 0, a weight for each state,
-- and for each action a value and then for each observation the number of the point that covers the belief after it, `-` or the name
-- `X` where none does. Weights are rounded down to whole millionths and values up. The weights of a point sum to more than 0 and at most 1.
-- A `-` that names no point has no numeral directly after it, so that it is no sign.
use Rattle.std.specs.Prelude.{◌≡◌, ◌≢◌, ℕ, ℤ, ◌+◌, ◌*◌, ◌<◌, ◌≤◌, true, false, Option, Some, None, List, [], ◌∷◌, ◌++◌, length, map, flat_map, codes, slice_get}
use Rattle.std.specs.List.{range_with_len}
use Rattle.polcert_text.specs.Cut.{Lexeme}
use Rattle.polcert_text.specs.Numbers.{IsCeil}
use Rattle.polcert_text.specs.declared.tokens.TokenKind.TheVariants.{Numeral, Plus, Minus}
use Rattle.polcert_cells.specs.Numbers.{IsWhole, IsNumeral}
use Rattle.polcert_cells.specs.Words.{IsWord}
use Rattle.polcert_cells.specs.declared.elements.Cell.{Cell}
use Rattle.polcert_policy.specs.Points.{PointValues, point_count, point_weight, value_at, named_at, most_points, IsPointRow}
use Rattle.polcert_policy.specs.PointTokens.{IsWeight}

pub data Field : Type 0 where
  number_field : ℕ → Field
  weight_field : ℕ → Field
  value_field : ℤ → Field
  name_field : Option ℕ → Field

-- no numeral comes directly after the token
abbrev pub IsNotJoined : Lexeme → List Lexeme → Type 0
IsNotJoined t [] = Unit {0}
IsNotJoined t (u ∷ us) = u.kind ≡ Numeral → u.place ≢ t.place + length t.bytes

-- the tokens are these fields, one after another: a value may have a sign, and `X` and `-` name no point
pub data ArePointFields : List Lexeme → List Field → Type 0 where
  none : ArePointFields [] []
  number : {t : Lexeme} {ts : List Lexeme} {n : ℕ} {fs : List Field} → IsWhole t n → ArePointFields ts fs → ArePointFields (t ∷ ts) (number_field n ∷ fs)
  weight : {t : Lexeme} {ts : List Lexeme} {w : ℕ} {fs : List Field} → t.kind ≡ Numeral → IsWeight t.bytes w → ArePointFields ts fs → ArePointFields (t ∷ ts) (weight_field w ∷ fs)
  unsigned : {t : Lexeme} {ts : List Lexeme} {h : ℤ} {fs : List Field} → IsNumeral IsCeil false t h → ArePointFields ts fs → ArePointFields (t ∷ ts) (value_field h ∷ fs)
  plus : {s t : Lexeme} {ts : List Lexeme} {h : ℤ} {fs : List Field} → s.kind ≡ Plus → IsNumeral IsCeil false t h → ArePointFields ts fs → ArePointFields (s ∷ t ∷ ts) (value_field h ∷ fs)
  minus : {s t : Lexeme} {ts : List Lexeme} {h : ℤ} {fs : List Field} → s.kind ≡ Minus → IsNumeral IsCeil true t h → ArePointFields ts fs → ArePointFields (s ∷ t ∷ ts) (value_field h ∷ fs)
  named : {t : Lexeme} {ts : List Lexeme} {n : ℕ} {fs : List Field} → IsWhole t n → ArePointFields ts fs → ArePointFields (t ∷ ts) (name_field (Some n) ∷ fs)
  x : {t : Lexeme} {ts : List Lexeme} {fs : List Field} → IsWord (codes "X") t → ArePointFields ts fs → ArePointFields (t ∷ ts) (name_field None ∷ fs)
  dash : {t : Lexeme} {ts : List Lexeme} {fs : List Field} → t.kind ≡ Minus → IsNotJoined t ts → ArePointFields ts fs → ArePointFields (t ∷ ts) (name_field None ∷ fs)

-- at point i, the weight of each state
abbrev pub weight_fields : PointValues → ℕ → List ℕ → List Field
weight_fields p i states = map (λ s. weight_field (point_weight p i s)) states

-- for action a at point i, the point that is named for each observation
abbrev pub name_fields : PointValues → ℕ → ℕ → List ℕ → List Field
name_fields p i a observations = map (λ z. name_field (named_at p i a z)) observations

abbrev pub action_fields : PointValues → ℕ → ℕ → List Field
action_fields p i a = value_field (value_at p i a) ∷ name_fields p i a (range_with_len 0 p.observations)

abbrev pub point_fields : PointValues → ℕ → List Field
point_fields p i = number_field i ∷ (weight_fields p i (range_with_len 0 p.states) ++ flat_map (action_fields p i) (range_with_len 0 p.actions))

-- the tokens are the points: the fields of all points, one after another
pub record AreFieldTokens (states actions observations : ℕ) (ts : List Lexeme) (p : PointValues) : Type 0 where
  pub states_are : p.states ≡ states
  pub actions_are : p.actions ≡ actions
  pub observations_are : p.observations ≡ observations
  pub few : point_count p ≤ most_points
  pub rows_are : (i : ℕ) (row : List Cell) → slice_get p.rows i ≡ Some row → IsPointRow states row
  pub all_values : length p.values ≡ point_count p * actions
  pub all_names : length p.names ≡ point_count p * actions * observations
  pub fields : ArePointFields ts (flat_map (point_fields p) (range_with_len 0 (point_count p)))
  pub bound : (k m : ℕ) → slice_get p.names k ≡ Some (Some m) → m < point_count p
