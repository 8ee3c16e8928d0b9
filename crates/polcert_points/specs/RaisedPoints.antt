-- The least constant by which the values of points are raised so that they pass.
use Rattle.std.specs.Prelude.{ℕ, ◌<◌, ℤ}
use Rattle.polcert_cells.specs.Tables.{CellTable}
use Rattle.polcert_policy.specs.Points.{PointValues}
use Rattle.polcert_points_form.specs.RaisedSet.{raised_set, CanRaisePoints}
use Rattle.polcert_points.specs.PointTable.{table_of_set}
use Rattle.polcert_points.specs.PointVerdict.{IsPointVerdict}
use Rattle.polcert_points.specs.declared.point_verdict.PointVerdict.TheVariants.{Yes}

-- raised by this constant the points pass with these vectors
abbrev pub PassRaised : CellTable → (ℕ → ℕ → ℤ) → PointValues → ℕ → Type 0
PassRaised t vectors p by = IsPointVerdict t vectors (table_of_set (raised_set p by)) Yes

-- The least constant by which they pass: raised by it they do, with every value in range, and raised by less they don't.
pub record IsLeastPointRaise (t : CellTable) (vectors : ℕ → ℕ → ℤ) (p : PointValues) (by : ℕ) : Type 0 where
  pub room : CanRaisePoints p by
  pub passes : PassRaised t vectors p by
  pub least : (d : ℕ) → d < by → PassRaised t vectors p d → ⊥

-- no constant that leaves every value in range makes them pass
abbrev pub IsNoPointRaise : CellTable → (ℕ → ℕ → ℤ) → PointValues → Type 0
IsNoPointRaise t vectors p = (by : ℕ) → CanRaisePoints p by → PassRaised t vectors p by → ⊥
