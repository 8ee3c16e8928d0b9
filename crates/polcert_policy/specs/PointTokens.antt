-- How belief points are read token by token: what can stand at each place, what is read there, and why a token can't stand there.
-- The law `points_by_fields` says that tokens are read as points exactly if they are the fields of the points.
use Rattle.std.specs.Prelude.{◌≡◌, ◌≢◌, ℕ, suc, ◌+◌, ◌*◌, ◌<◌, ◌≤◌, ◌==◌, ◌⊎◌, ℤ, pos, Bool, true, false, ◌&&◌, ◌||◌, Option, Some, None, List, [], ◌∷◌, ◌++◌, length, min, nat_lt, if◌then◌else◌}
use Rattle.polcert_text.specs.Cut.{Lexeme}
use Rattle.polcert_text.specs.Numbers.{IsReadable, IsFloor, IsCeil, IsRefused, size_of, millionth}
use Rattle.polcert_text.specs.declared.number.NumberFault.{NumberFault}
use Rattle.polcert_text.specs.declared.number.NumberFault.TheVariants as numbers
use Rattle.polcert_cells.specs.Numbers.{one}
use Rattle.polcert_cells.specs.declared.elements.Cell.{Cell}
use Rattle.polcert_policy.specs.Fields.{numeral_kind, minus_kind, is_whole, whole_number_of, is_successor, successor_of}
use Rattle.polcert_policy.specs.Vectors.{sign_kind}
use Rattle.polcert_policy.specs.Points.{most_points, IsMass}
use Rattle.polcert_policy.specs.declared.vectors.OpenSign.{OpenSign}
use Rattle.polcert_policy.specs.declared.graph.MinusSign.{MinusSign}
use Rattle.polcert_policy.specs.declared.points_reading.PointField.{PointField}
use Rattle.polcert_policy.specs.declared.points_reading.PointField.TheVariants as fields
use Rattle.polcert_policy.specs.declared.fault.PointFault.{PointFault}
use Rattle.polcert_policy.specs.declared.fault.PointFault.TheVariants as faults

-- what has been read
pub record PointsSoFar : Type 0 where
  -- the field of the point that comes next
  pub field : PointField
  -- the sign of that field's value, if it was read
  pub sign : Option OpenSign
  -- the last token, if it is a `-` that names no point
  pub minus : Option MinusSign
  -- the sum of the weights of the point
  pub mass : ℕ
  -- the weights above 0: of the point, while its weights are read, and of all points whose weights were read
  pub row : List Cell
  pub rows : List (List Cell)
  pub values : List ℤ
  pub names : List (Option ℕ)

abbrev pub nothing_read : PointsSoFar
nothing_read = record { field = fields.Number; sign = None; minus = None; mass = 0; row = []; rows = []; values = []; names = [] }

-- ---- numbers

-- the numeral is at most 1, and this many millionths, rounded down
pub record IsWeight (bytes : List ℕ) (weight : ℕ) : Type 0 where
  pub readable : IsReadable bytes
  pub at_most_one : size_of bytes ≤ one * millionth
  pub rounded : IsFloor false bytes (pos weight)

-- why a numeral is no weight: it can't be read, or is above 1
abbrev pub IsRefusedWeight : List ℕ → NumberFault → Type 0
IsRefusedWeight bytes numbers.TooLarge = IsRefused bytes numbers.TooLarge ⊎ (IsReadable bytes × (one * millionth < size_of bytes))
IsRefusedWeight bytes fault = IsRefused bytes fault

abbrev pub is_negated : Option OpenSign → Bool
is_negated None = false
is_negated (Some sign) = sign.is_negative

-- where a value begins: at its sign, if it has one
abbrev pub value_place : Option OpenSign → Lexeme → ℕ
value_place None t = t.place
value_place (Some sign) t = sign.place

-- a numeral, or the first sign before it
abbrev pub is_value_shaped : Option OpenSign → Lexeme → Bool
is_value_shaped None t = numeral_kind t.kind || sign_kind t.kind
is_value_shaped (Some sign) t = numeral_kind t.kind

-- ---- what is read

-- a weight of 0 is not kept
abbrev pub with_weight : ℕ → ℕ → List Cell → List Cell
with_weight s weight row = if nat_lt 0 weight then row ++ record { column = s; weight = weight } ∷ [] else row

-- after the weight of state s comes that of the next state, or else the value of the first action
abbrev pub after_weight : ℕ → ℕ → ℕ → PointsSoFar → PointsSoFar
after_weight states s weight old =
    let row = with_weight s weight old.row in
    if suc s == states then record old { field = fields.Value 0; mass = old.mass + weight; row = []; rows = old.rows ++ row ∷ [] }
    else record old { field = fields.Weight (suc s); mass = old.mass + weight; row = row }

-- after the point named at observation z comes that at the next observation, or else the value of the next action, or else the next point
abbrev pub field_after_name : ℕ → ℕ → ℕ → ℕ → PointField
field_after_name actions observations a z =
    if suc z == observations then (if suc a == actions then fields.Number else fields.Value (suc a))
    else fields.Name a (suc z)

-- A number beyond a million, which no point has, is kept as a million.
abbrev pub kept_name : Option ℕ → Option ℕ
kept_name None = None
kept_name (Some n) = Some (min 1_000_000 n)

-- where the `-` stands and stops, if the token is one
abbrev pub minus_of : Lexeme → Option MinusSign
minus_of t = if minus_kind t.kind then Some (record { place = t.place; stop = t.place + length t.bytes }) else None

abbrev pub sign_of : Lexeme → OpenSign
sign_of t = record { place = t.place; is_negative = minus_kind t.kind }

-- the token is the number of the next point
pub record TakesNumber (old : PointsSoFar) (t : Lexeme) (new : PointsSoFar) : Type 0 where
  pub few : length old.rows < most_points
  pub whole : is_whole t ≡ true
  pub number : whole_number_of t ≡ length old.rows
  pub new_is : new ≡ record old { field = fields.Weight 0; mass = 0 }

-- the token is the weight of state s; the sum is judged at the last
pub record TakesWeight (states s : ℕ) (old : PointsSoFar) (t : Lexeme) (new : PointsSoFar) : Type 0 where
  pub weight : ℕ
  pub numeral : numeral_kind t.kind ≡ true
  pub is_weight : IsWeight t.bytes weight
  pub is_mass : suc s ≡ states → IsMass (old.mass + weight)
  pub new_is : new ≡ after_weight states s weight old

-- the token is the sign of a value
pub record TakesSign (old : PointsSoFar) (t : Lexeme) (new : PointsSoFar) : Type 0 where
  pub first : old.sign ≡ None
  pub sign : sign_kind t.kind ≡ true
  pub new_is : new ≡ record old { sign = Some (sign_of t) }

-- the token is the numeral of the value of action a
pub record TakesValue (a : ℕ) (old : PointsSoFar) (t : Lexeme) (new : PointsSoFar) : Type 0 where
  pub value : ℤ
  pub numeral : numeral_kind t.kind ≡ true
  pub readable : IsReadable t.bytes
  pub rounded : IsCeil (is_negated old.sign) t.bytes value
  pub new_is : new ≡ record old { field = fields.Name a 0; sign = None; values = old.values ++ value ∷ [] }

-- the token names a point or none, for action a and observation z
pub record TakesName (actions observations a z : ℕ) (old : PointsSoFar) (t : Lexeme) (new : PointsSoFar) : Type 0 where
  pub names : is_successor t ≡ true
  pub new_is : new ≡ record old { field = field_after_name actions observations a z; minus = minus_of t; names = old.names ++ kept_name (successor_of t) ∷ [] }

abbrev pub TakesField : ℕ → ℕ → ℕ → PointField → PointsSoFar → Lexeme → PointsSoFar → Type 0
TakesField states actions observations fields.Number old t new = TakesNumber old t new
TakesField states actions observations (fields.Weight s) old t new = TakesWeight states s old t new
TakesField states actions observations (fields.Value a) old t new = TakesSign old t new ⊎ TakesValue a old t new
TakesField states actions observations (fields.Name a z) old t new = TakesName actions observations a z old t new

-- a numeral directly after the `-`
abbrev pub is_joined_to : MinusSign → Lexeme → Bool
is_joined_to minus t = numeral_kind t.kind && (t.place == minus.stop)

abbrev pub IsApart : Option MinusSign → Lexeme → Type 0
IsApart minus t = (m : MinusSign) → minus ≡ Some m → is_joined_to m t ≡ false

-- the token can stand there, and this has been read after it
pub record TakesPointToken (states actions observations : ℕ) (old : PointsSoFar) (t : Lexeme) (new : PointsSoFar) : Type 0 where
  pub apart : IsApart old.minus t
  pub field : TakesField states actions observations old.field (record old { minus = None }) t new

-- the tokens can stand there, one after another
abbrev pub TakesAll : ℕ → ℕ → ℕ → PointsSoFar → List Lexeme → PointsSoFar → Type 0
TakesAll states actions observations old [] new = old ≡ new
TakesAll states actions observations old (t ∷ ts) new = (between : PointsSoFar) × TakesPointToken states actions observations old t between × TakesAll states actions observations between ts new

-- ---- why a token can't stand there, and its place

abbrev pub IsWrongNumber : PointsSoFar → Lexeme → PointFault → Type 0
IsWrongNumber old t (faults.BadShape place) = (place ≡ t.place) × (length old.rows < most_points) × (is_whole t ≡ false)
IsWrongNumber old t (faults.PointOutOfOrder place) = (place ≡ t.place) × (length old.rows < most_points) × (is_whole t ≡ true) × (whole_number_of t ≢ length old.rows)
IsWrongNumber old t (faults.TooManyPoints place) = (place ≡ t.place) × (most_points ≤ length old.rows)
IsWrongNumber old t _ = ⊥

abbrev pub IsWrongWeight : ℕ → ℕ → PointsSoFar → Lexeme → PointFault → Type 0
IsWrongWeight states s old t (faults.BadShape place) = (place ≡ t.place) × (numeral_kind t.kind ≡ false)
IsWrongWeight states s old t (faults.Number fault place) = (place ≡ t.place) × (numeral_kind t.kind ≡ true) × IsRefusedWeight t.bytes fault
IsWrongWeight states s old t (faults.WrongMass place) = (place ≡ t.place) × (numeral_kind t.kind ≡ true) × (suc s ≡ states) × ((weight : ℕ) × IsWeight t.bytes weight × (IsMass (old.mass + weight) → ⊥))
IsWrongWeight states s old t _ = ⊥

abbrev pub IsWrongValue : PointsSoFar → Lexeme → PointFault → Type 0
IsWrongValue old t (faults.BadShape place) = (place ≡ value_place old.sign t) × (is_value_shaped old.sign t ≡ false)
IsWrongValue old t (faults.Number fault place) = (place ≡ value_place old.sign t) × (numeral_kind t.kind ≡ true) × IsRefused t.bytes fault
IsWrongValue old t _ = ⊥

abbrev pub IsWrongName : Lexeme → PointFault → Type 0
IsWrongName t (faults.BadShape place) = (place ≡ t.place) × (is_successor t ≡ false)
IsWrongName t _ = ⊥

abbrev pub IsWrongField : ℕ → PointField → PointsSoFar → Lexeme → PointFault → Type 0
IsWrongField states fields.Number old t fault = IsWrongNumber old t fault
IsWrongField states (fields.Weight s) old t fault = IsWrongWeight states s old t fault
IsWrongField states (fields.Value a) old t fault = IsWrongValue old t fault
IsWrongField states (fields.Name a z) old t fault = IsWrongName t fault

-- a numeral directly after a `-` that names no point is refused at the `-`
pub record IsJoined (minus : Option MinusSign) (t : Lexeme) (fault : PointFault) : Type 0 where
  pub sign : MinusSign
  pub sign_is : minus ≡ Some sign
  pub joined : is_joined_to sign t ≡ true
  pub fault_is : fault ≡ faults.BadShape sign.place

pub record IsMisplacedField (states : ℕ) (old : PointsSoFar) (t : Lexeme) (fault : PointFault) : Type 0 where
  pub apart : IsApart old.minus t
  pub wrong : IsWrongField states old.field (record old { minus = None }) t fault

abbrev pub IsWrongPoint : ℕ → PointsSoFar → Lexeme → PointFault → Type 0
IsWrongPoint states old t fault = IsJoined old.minus t fault ⊎ IsMisplacedField states old t fault
