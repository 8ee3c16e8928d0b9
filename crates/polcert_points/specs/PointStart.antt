-- The bound by points from a model's start, and in the long run.
use Rattle.std.specs.Prelude.{ℕ, ℤ, List}
use Rattle.std.specs.List.{AllByRecursion}
use Rattle.std.specs.Prelude.{pos, ◌*ℤ◌, ◌≤ℤ◌}
use Rattle.polcert_cells.specs.Meaning.{Meaning, start_weight}
use Rattle.polcert_cells.specs.Tables.{table_of}
use Rattle.polcert_optimum.specs.Policy.{ObservationPolicy, as_policy, IsPolicyOf, expected_total}
use Rattle.polcert_optimum.specs.Bound.{mixture_weight, mixture_sum}
use Rattle.polcert_optimum.specs.Informed.{AreInformed}
use Rattle.polcert_optimum.specs.Start.{sum_over_start, start_scale, IsBoundedFromStart}
use Rattle.polcert_points.specs.Points.{Points, AreCharges, Cover, Covers, AreBacked, IsBelowValues, IsAtMostAt}

-- A certificate of at most `most` from the start: informed vectors, backed points, and a cover of the start (times `times`).
pub record IsPointCertificate (m : Meaning) (vectors charges : ℕ → ℕ → ℤ) (points : Points) (covers : Covers) (times : ℕ) (cover : Cover) (most : ℤ) : Type 0 where
  pub informed : AreInformed (table_of m) vectors
  pub charged : AreCharges (table_of m) vectors points charges
  pub backed : AreBacked (table_of m) charges points covers
  pub start : IsAtMostAt (table_of m) charges points (start_weight m) times cover most

-- Every policy that sees the observations alone earns at most `most` from the start, where each history ends at a value `low` that is
-- below all values of the certificate.
abbrev pub PointsBoundFromStart : Meaning → (ℕ → ℕ → ℤ) → Points → ℤ → Type 0
PointsBoundFromStart m vectors points most = (policy : ObservationPolicy) → IsPolicyOf (table_of m) (as_policy policy) → (k : ℕ) → (low : ℤ) → IsBelowValues (table_of m) vectors points low
    → IsBoundedFromStart m (λ s history. low) (λ s. as_policy policy) k most

-- No mixture of such policies earns more.
abbrev pub PointsBoundMixturesFromStart : Meaning → (ℕ → ℕ → ℤ) → Points → ℤ → Type 0
PointsBoundMixturesFromStart m vectors points most = (mixture : List (ℕ × ObservationPolicy)) → AllByRecursion (λ p. IsPolicyOf (table_of m) (as_policy p.1)) mixture → (k : ℕ) → (low : ℤ) → IsBelowValues (table_of m) vectors points low
    → mixture_sum (λ policy. sum_over_start m (λ s. expected_total (table_of m) (λ history. low) (as_policy policy) k s)) mixture ≤ℤ (mixture_weight mixture *ℤ (pos (start_scale m k) *ℤ most))
