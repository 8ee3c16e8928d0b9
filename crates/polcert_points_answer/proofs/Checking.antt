-- What a check of points says of what three texts denote.
use Rattle.std.proofs.Common.{◌≡◌, ℕ, ◌≤◌, ℤ, unsigned_abs, Bool, false, sym, subst}
use Rattle.polcert_points_answer.proofs.Common.{Meaning, IsProper, table_of, FitActions, FitPoints, PointTable, IsPointVerdict}
use Rattle.polcert_points_answer.proofs.Common.{PolicyVectors, value_of}
use Rattle.polcert_cells.specs.Meaning.{HasLimitedNumbers}
use Rattle.polcert_policy.specs.Vectors.{AreProperVectors}
use Rattle.polcert_optimum.proofs.Optimum.{table_within}
use Rattle.polcert_points.specs.PointTable.{IsProperPointTable}
use Rattle.polcert_points.specs.PointStartMost.{IsPointStartMost}
use Rattle.polcert_points.specs.declared.point_verdict.PointVerdict.TheVariants.{Exceeded}
use Rattle.polcert_points.proofs.SmallExcesses.{amount_small}
use Rattle.polcert_points_answer.specs.Headline.{IsMostByPoints}
use Rattle.polcert_points_answer.specs.Steps.Reading.{most_point_excess}

pub exceeded_small : (m : Meaning) → HasLimitedNumbers m → IsProper (table_of m) → (v : PolicyVectors) → FitActions (table_of m) v
    → AreProperVectors v → (p : PointTable) → FitPoints (table_of m) p → IsProperPointTable p
    → (i a : ℕ) (amount : ℤ) → IsPointVerdict (table_of m) (value_of v) p (Exceeded i a amount)
    → unsigned_abs amount ≤ most_point_excess (table_of m) p i
exceeded_small m limits proper v fit_v proper_v p fit proper_p i a amount h =
    amount_small (table_of m) proper (table_within m limits) v fit_v proper_v p fit proper_p i a amount h

-- the number of the points, if the model is no MDP
pub most_if_hidden : (mdp : Bool) (m : Meaning) (v : PolicyVectors) (p : PointTable) (most : ℤ) → mdp ≡ false
    → IsPointStartMost m (value_of v) p most → IsMostByPoints mdp m v p most
most_if_hidden mdp m v p most hidden is = subst (λ (b : Bool). IsMostByPoints b m v p most) (sym hidden) is
