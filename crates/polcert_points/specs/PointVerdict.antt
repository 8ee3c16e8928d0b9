-- What a check of points finds.
use Rattle.std.specs.Prelude.{ℕ, ◌<◌, ⊤, ℤ, pos, ◌<ℤ◌}
use Rattle.polcert_cells.specs.Tables.{CellTable}
use Rattle.polcert_check.specs.Verdict.{IsBefore}
use Rattle.polcert_optimum.specs.Informed.{AreInformed}
use Rattle.polcert_points.specs.Points.{Points, Covers, IsPointBacked, PointsBoundEveryObservationPolicy}
use Rattle.polcert_points.specs.PointRaise.{point_excess}
use Rattle.polcert_points.specs.PointCheck.{AreCoversBy, IsRoundedUp}
use Rattle.polcert_points.specs.PointTable.{PointTable, AreLeastCharges}
use Rattle.polcert_points.specs.declared.point_verdict.PointVerdict.{PointVerdict}
use Rattle.polcert_points.specs.declared.point_verdict.PointVerdict.TheVariants.{Yes, Exceeded}

-- the inequality holds at every point and action before i and a, by point and then by action
abbrev pub AreBackedBefore : CellTable → (ℕ → ℕ → ℤ) → Points → Covers → ℕ → ℕ → Type 0
AreBackedBefore t charges points covers i a = (j b : ℕ) → j < points.count → b < t.actions → IsBefore j b i a → IsPointBacked t charges points covers j b

-- Yes if the inequality holds at every point and action, else the first point and action where it fails, and by how much the backup is
-- above the value there, rounded up.
abbrev pub IsVerdictWith : CellTable → (ℕ → ℕ → ℤ) → Points → Covers → PointVerdict → Type 0
IsVerdictWith t charges points covers Yes = (i a : ℕ) → i < points.count → a < t.actions → IsPointBacked t charges points covers i a
IsVerdictWith t charges points covers (Exceeded i a amount) = (i < points.count) × (a < t.actions) × AreBackedBefore t charges points covers i a × IsRoundedUp (point_excess t charges points covers i a) amount × (pos 0 <ℤ amount)

-- with the least charges, and the covers by the named points
pub record IsPointVerdict (t : CellTable) (vectors : ℕ → ℕ → ℤ) (p : PointTable) (verdict : PointVerdict) : Type 0 where
  pub charges : ℕ → ℕ → ℤ
  pub covers : Covers
  pub charged : AreLeastCharges p vectors charges
  pub covered : AreCoversBy t p.points p.next covers
  pub found : IsVerdictWith t charges p.points covers verdict

-- A yes bounds every policy that sees the observations alone, if the vectors are informed.
abbrev pub MeetsPointPromise : CellTable → (ℕ → ℕ → ℤ) → PointTable → PointVerdict → Type 0
MeetsPointPromise t vectors p Yes = AreInformed t vectors → PointsBoundEveryObservationPolicy t vectors p.points
MeetsPointPromise t vectors p (Exceeded i a amount) = ⊤
