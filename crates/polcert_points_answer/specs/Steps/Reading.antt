-- Helper definitions of private functions: what is read of three sources, and written of it. Nobody has to believe them.
use Rattle.std.specs.Prelude.{ℕ, ◌*◌, ◌≤◌, ⊤, List, unsigned_abs}
use Rattle.polcert_text.specs.Numbers.{largest}
use Rattle.polcert_cells.specs.Meaning.{Meaning, states_of, actions_of, observations_of}
use Rattle.polcert_cells.specs.Tables.{CellTable, table_of}
use Rattle.polcert_policy.specs.Vectors.{PolicyVectors, value_of}
use Rattle.polcert_policy.specs.declared.fault.PointFault.TheVariants as memory
use Rattle.polcert_policy.specs.PointText.{IsPointsText}
use Rattle.polcert_policy.specs.Points.{PointValues}
use Rattle.polcert_optimum.specs.InformedCheck.{most_excess}
use Rattle.polcert_optimum.specs.Policy.{step_scale}
use Rattle.polcert_points.specs.Belief.{mass}
use Rattle.polcert_points.specs.PointTable.{PointTable}
use Rattle.polcert_answer.specs.declared.fault.Fault.TheVariants.{Model, Vectors, Points}
use Rattle.polcert_answer.specs.declared.fault.RunFault.{RunFault}
use Rattle.polcert_answer.specs.declared.fault.RunFault.TheVariants.{Text, ReadModel, ReadVectors, ReadPoints, Write}
use Rattle.polcert_bound_answer.specs.Inputs.{AreBoundDenoted}
use Rattle.polcert_points_answer.specs.declared.verdict.PointBoundVerdict.{PointBoundVerdict}
use Rattle.polcert_points_answer.specs.declared.verdict.PointBoundVerdict.TheVariants.{Yes, VectorExceeded, PointExceeded}
use Rattle.polcert_points_answer.specs.Answer.{IsPointBoundVerdict}
use Rattle.polcert_points_answer.specs.Lines.{IsPointBoundLine}

-- the texts of the three sources are those of this model, of these vectors and of these points
pub record ArePointsDenoted (of_model of_vectors of_points : List ℕ → Type 0) (m : Meaning) (v : PolicyVectors) (p : PointValues) : Type 0 where
  pub bound : AreBoundDenoted of_model of_vectors m v
  pub third : List ℕ
  pub points_read : of_points third
  pub are_points : IsPointsText (states_of m) (actions_of m) (observations_of m) third p

-- this is the verdict, and this is its line
pub record IsPointAnswerLine (m : Meaning) (v : PolicyVectors) (p : PointTable) (verdict : PointBoundVerdict) (line : List ℕ) : Type 0 where
  pub verdict_is : IsPointBoundVerdict (table_of m) (value_of v) p verdict
  pub line_is : IsPointBoundLine m v p verdict line

-- how large an amount can be
abbrev pub most_point_excess : CellTable → PointTable → ℕ → ℕ
most_point_excess t p i = 3 * (step_scale t * mass t (p.points.belief i)) * largest

abbrev pub NamesSmallPointAmount : CellTable → PointTable → PointBoundVerdict → Type 0
NamesSmallPointAmount t p Yes = ⊤
NamesSmallPointAmount t p (VectorExceeded a s amount) = unsigned_abs amount ≤ most_excess t
NamesSmallPointAmount t p (PointExceeded i a amount) = unsigned_abs amount ≤ most_point_excess t p i

-- a fault of the text of points or of its source
abbrev pub IsPointsReadFault : RunFault → Type 0
IsPointsReadFault (Text (Points fault)) = Unit {0}
IsPointsReadFault ReadPoints = Unit {0}
IsPointsReadFault _ = ⊥

-- a fault of one of the three texts or of its source
abbrev pub IsPointReadFault : RunFault → Type 0
IsPointReadFault (Text (Model fault)) = Unit {0}
IsPointReadFault (Text (Vectors fault)) = Unit {0}
IsPointReadFault (Text (Points fault)) = Unit {0}
IsPointReadFault ReadModel = Unit {0}
IsPointReadFault ReadVectors = Unit {0}
IsPointReadFault ReadPoints = Unit {0}
IsPointReadFault _ = ⊥

-- a fault of the sink, or no memory for the charges
abbrev pub IsPointWriteFault : RunFault → Type 0
IsPointWriteFault Write = Unit {0}
IsPointWriteFault (Text (Points memory.Memory)) = Unit {0}
IsPointWriteFault _ = ⊥
