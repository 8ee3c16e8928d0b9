-- Helper definitions of private functions: what raising points comes to. Nobody has to believe them.
use Rattle.std.specs.Prelude.{◌≡◌, ℕ, ℤ, List, ⊤}
use Rattle.polcert_cells.specs.Meaning.{Meaning}
use Rattle.polcert_cells.specs.Tables.{CellTable, table_of}
use Rattle.polcert_policy.specs.Points.{PointValues}
use Rattle.polcert_policy.specs.Vectors.{PolicyVectors}
use Rattle.polcert_points_form.specs.FullForm.{points_text}
use Rattle.polcert_points_form.specs.RaisedSet.{raised_set}
use Rattle.polcert_check.specs.declared.fault.RaiseFault.{RaiseFault}
use Rattle.polcert_check.specs.declared.fault.RaiseFault.TheVariants as raises
use Rattle.polcert_points.specs.RaisedPoints.{IsNoPointRaise}
use Rattle.polcert_answer.specs.declared.fault.RunFault.{RunFault}
use Rattle.polcert_answer.specs.declared.fault.RunFault.TheVariants.{Write, Raise}
use Rattle.polcert_points_answer.specs.Raise.{IsPointRaiseOver}

-- this is the least constant over raised vectors, and the text is the full form of the points raised by it
pub record ArePointsRaised (m : Meaning) (v : PolicyVectors) (p : PointValues) (by : ℕ) (text : List ℕ) : Type 0 where
  pub up : ℤ
  pub constant : IsPointRaiseOver (table_of m) v p up by
  pub text_is : text ≡ points_text (raised_set p by)

-- no constant serves, or there is no memory for the charges
abbrev pub IsNoRoomForPoints : CellTable → (ℕ → ℕ → ℤ) → PointValues → RaiseFault → Type 0
IsNoRoomForPoints t vectors p raises.OutOfRange = IsNoPointRaise t vectors p
IsNoRoomForPoints t vectors p raises.Memory = ⊤
IsNoRoomForPoints t vectors p _ = ⊥

-- a fault of the sink or of raising
abbrev pub IsPointRaiseWriteFault : RunFault → Type 0
IsPointRaiseWriteFault Write = Unit {0}
IsPointRaiseWriteFault (Raise fault) = Unit {0}
IsPointRaiseWriteFault _ = ⊥
