-- Helper definitions of private functions: how far belief points have been read. Nobody has to believe them.
use Rattle.std.specs.Prelude.{◌≡◌, ◌≢◌, ℕ, ◌<◌, true, false, Result, Ok, Err, List, length}
use Rattle.polcert_text.specs.Cut.{Lexeme}
use Rattle.polcert_policy.specs.Fields.{numeral_kind, is_whole, whole_number_of}
use Rattle.polcert_policy.specs.Points.{PointValues, most_points}
use Rattle.polcert_policy.specs.PointTokens.{PointsSoFar, nothing_read, IsWeight, IsRefusedWeight, TakesAll}
use Rattle.polcert_policy.specs.PointText.{AreLoosePoints, IsFirstUnknown}
use Rattle.polcert_policy.specs.declared.fault.PointFault.{PointFault}
use Rattle.polcert_policy.specs.declared.fault.PointFault.TheVariants as faults
use Rattle.polcert_policy.specs.declared.points_reading.PointField.TheVariants as fields
use Rattle.polcert_policy.specs.declared.points_reading.PointsReading.{PointsReading}

abbrev pub so_far : PointsReading → PointsSoFar
so_far r = record { field = r.field; sign = r.sign; minus = r.minus; mass = r.mass; row = r.rows.row; rows = r.rows.rows; values = r.values.items; names = r.names.items }

abbrev pub HasShape : ℕ → ℕ → ℕ → PointsReading → Type 0
HasShape states actions observations r = (r.states ≡ states) × (r.actions ≡ actions) × (r.observations ≡ observations)

-- memory ran out, or this
abbrev pub IsMemoryOr : (PointFault → Type 0) → PointFault → Type 0
IsMemoryOr IsWrong faults.Memory = Unit {0}
IsMemoryOr IsWrong fault = IsWrong fault

-- the token is the number of the next point
pub record IsRightNumber (old : PointsSoFar) (t : Lexeme) : Type 0 where
  pub few : length old.rows < most_points
  pub whole : is_whole t ≡ true
  pub number : whole_number_of t ≡ length old.rows

-- what the token in place of a weight is
abbrev pub ReadWeight : Lexeme → Result ℕ PointFault → Type 0
ReadWeight t (Ok weight) = (numeral_kind t.kind ≡ true) × IsWeight t.bytes weight
ReadWeight t (Err (faults.BadShape place)) = (place ≡ t.place) × (numeral_kind t.kind ≡ false)
ReadWeight t (Err (faults.Number fault place)) = (place ≡ t.place) × (numeral_kind t.kind ≡ true) × IsRefusedWeight t.bytes fault
ReadWeight t (Err _) = ⊥

-- why the tokens aren't points, where the text ends after them
abbrev pub IsPointsEnd : ℕ → ℕ → ℕ → List Lexeme → ℕ → PointFault → Type 0
IsPointsEnd states actions observations ts end (faults.Truncated place) = (place ≡ end) × ((last : PointsSoFar) × TakesAll states actions observations nothing_read ts last × (last.field ≢ fields.Number))
IsPointsEnd states actions observations ts end (faults.NextOutOfRange i a z) = (p : PointValues) × AreLoosePoints states actions observations ts p × IsFirstUnknown p i a z
IsPointsEnd states actions observations ts end _ = ⊥
