-- Belief points whose values are all raised by one constant.
use Rattle.std.specs.Prelude.{◌≡◌, ℕ, ◌*◌, ◌<◌, ℤ, pos, ◌+ℤ◌, length, map}
use Rattle.polcert_policy.specs.Points.{PointValues, point_count, value_at}
use Rattle.polcert_policy.specs.Vectors.{IsInRange}

-- every value with one constant added; weights and named points stay
abbrev pub raised_set : PointValues → ℕ → PointValues
raised_set p by = record { states = p.states; actions = p.actions; observations = p.observations; rows = p.rows; values = map (λ h. h +ℤ pos by) p.values; names = p.names }

-- there is a value for each action of each point
abbrev pub HasAllValues : PointValues → Type 0
HasAllValues p = length p.values ≡ point_count p * p.actions

-- with this constant added every value stays in range
abbrev pub CanRaisePoints : PointValues → ℕ → Type 0
CanRaisePoints p by = (i a : ℕ) → i < point_count p → a < p.actions → IsInRange (value_at p i a +ℤ pos by)
