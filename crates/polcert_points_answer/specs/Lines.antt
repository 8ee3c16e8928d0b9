-- The lines of a verdict on vectors and points. Those of a yes and of vectors that are exceeded are the lines of the vectors alone; our own
-- is `no: point 1, action 0, exceeded by 0.00001`, with a line end.
use Rattle.std.specs.Prelude.{◌≡◌, ◌++◌, ◌*◌, ℕ, ℤ, List, codes}
use Rattle.polcert_text.specs.Millionths.{scaled_text}
use Rattle.polcert_cells.specs.Meaning.{Meaning}
use Rattle.polcert_cells.specs.Tables.{table_of}
use Rattle.polcert_policy.specs.Vectors.{PolicyVectors}
use Rattle.polcert_check.specs.Horizon.{one}
use Rattle.polcert_check.specs.StartWorth.{IsCeilQuotient}
use Rattle.polcert_optimum.specs.Policy.{step_scale}
use Rattle.polcert_points.specs.Belief.{mass}
use Rattle.polcert_points.specs.PointTable.{PointTable}
use Rattle.polcert_answer.specs.Lines.{count_text}
use Rattle.polcert_bound_answer.specs.Lines as bounds
use Rattle.polcert_bound_answer.specs.Lines.{bound_line, exceeded_line}
use Rattle.polcert_points_answer.specs.declared.verdict.PointBoundVerdict.{PointBoundVerdict}
use Rattle.polcert_points_answer.specs.declared.verdict.PointBoundVerdict.TheVariants.{Yes, VectorExceeded, PointExceeded}
use Rattle.polcert_points_answer.specs.declared.lines.PointBoundLine.{PointBoundLine}
use Rattle.polcert_points_answer.specs.declared.lines.PointBoundLine.TheVariants as lines
use Rattle.polcert_points_answer.specs.Headline.{IsPointBoundMost}

abbrev pub point_exceeded_line : ℕ → ℕ → ℤ → List ℕ
point_exceeded_line i a by = codes "no: point " ++ count_text i (codes ", action ") ++ count_text a (codes ", exceeded by ") ++ scaled_text by ++ codes "\n"

-- The line of a verdict: a yes names what no policy earns more than from the model's start, rounded up; an amount is divided by its scale,
-- at a point also by the sum of its weights, and rounded up, so that it is never 0.
abbrev pub IsPointBoundLine : Meaning → PolicyVectors → PointTable → PointBoundVerdict → List ℕ → Type 0
IsPointBoundLine m v p Yes line = (most : ℤ) × IsPointBoundMost m v p most × (line ≡ bound_line most)
IsPointBoundLine m v p (VectorExceeded a s amount) line = (by : ℤ) × IsCeilQuotient amount (step_scale (table_of m) * one) by × (line ≡ exceeded_line a s by)
IsPointBoundLine m v p (PointExceeded i a amount) line = (by : ℤ) × IsCeilQuotient amount (step_scale (table_of m) * mass (table_of m) (p.points.belief i)) by × (line ≡ point_exceeded_line i a by)

-- the line that says this
abbrev pub point_line_text : PointBoundLine → List ℕ
point_line_text (lines.Bound line) = bounds.bound_line_text line
point_line_text (lines.PointExceeded i a by) = point_exceeded_line i a by

-- the exit status: 0 for a yes, and 1 for a no
abbrev pub point_verdict_status : PointBoundVerdict → ℕ
point_verdict_status Yes = 0
point_verdict_status _ = 1
