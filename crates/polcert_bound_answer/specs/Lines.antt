-- The lines of a verdict on vectors, one for each action. Our own: `yes: every policy, at most 68.55` and
-- `no: action 0, state 0, exceeded by 0.000001`, each with a line end.
use Rattle.std.specs.Prelude.{◌≡◌, ◌++◌, ◌*◌, ℕ, ℤ, List, codes}
use Rattle.polcert_text.specs.Millionths.{scaled_text}
use Rattle.polcert_cells.specs.Meaning.{Meaning}
use Rattle.polcert_cells.specs.Tables.{table_of}
use Rattle.polcert_policy.specs.Vectors.{PolicyVectors}
use Rattle.polcert_check.specs.Horizon.{one}
use Rattle.polcert_check.specs.StartWorth.{IsCeilQuotient}
use Rattle.polcert_optimum.specs.Policy.{step_scale}
use Rattle.polcert_optimum.specs.Seen.{IsBoundStartMost}
use Rattle.polcert_optimum.specs.declared.verdict.InformedVerdict.{InformedVerdict}
use Rattle.polcert_optimum.specs.declared.verdict.InformedVerdict.TheVariants.{Yes, Exceeded}
use Rattle.polcert_answer.specs.Lines.{count_text}
use Rattle.polcert_bound_answer.specs.declared.lines.BoundLine.{BoundLine}
use Rattle.polcert_bound_answer.specs.declared.lines.BoundLine.TheVariants as lines

abbrev pub bound_line : ℤ → List ℕ
bound_line most = codes "yes: every policy, at most " ++ scaled_text most ++ codes "\n"

abbrev pub exceeded_line : ℕ → ℕ → ℤ → List ℕ
exceeded_line a s by = codes "no: action " ++ count_text a (codes ", state ") ++ count_text s (codes ", exceeded by ") ++ scaled_text by ++ codes "\n"

-- The line of a verdict: a yes names what no policy earns more than from the model's start, rounded up; an amount is divided by its scale
-- and rounded up, so that it is never 0.
abbrev pub IsBoundLine : Meaning → PolicyVectors → InformedVerdict → List ℕ → Type 0
IsBoundLine m v Yes line = (most : ℤ) × IsBoundStartMost m v most × (line ≡ bound_line most)
IsBoundLine m v (Exceeded a s amount) line = (by : ℤ) × IsCeilQuotient amount (step_scale (table_of m) * one) by × (line ≡ exceeded_line a s by)

-- the line that says this
abbrev pub bound_line_text : BoundLine → List ℕ
bound_line_text (lines.AtMost most) = bound_line most
bound_line_text (lines.Exceeded a s by) = exceeded_line a s by

-- the exit status: 0 for a yes, and 1 for a no
abbrev pub bound_verdict_status : InformedVerdict → ℕ
bound_verdict_status Yes = 0
bound_verdict_status _ = 1
