-- What policies earn at most from a model's start, by points.
use Rattle.std.specs.Prelude.{◌≡◌, ℕ, ◌*◌, ◌<◌, ℤ, pos, ◌-ℤ◌, ◌*ℤ◌, ◌≤ℤ◌, ◌<ℤ◌, Option, Some}
use Rattle.polcert_cells.specs.Meaning.{Meaning, start_weight, start_total}
use Rattle.polcert_cells.specs.Tables.{table_of}
use Rattle.polcert_points.specs.Belief.{Belief}
use Rattle.polcert_points.specs.Points.{Points, Cover, Covers, best_worth}
use Rattle.polcert_points.specs.PointStart.{IsPointCertificate}
use Rattle.polcert_points.specs.PointCheck.{IsCoverBy}
use Rattle.polcert_points.specs.PointTable.{PointTable, AreLeastCharges}

-- how often the start is taken, so that points divide it finely
abbrev pub start_times : ℕ
start_times = 1_000_000_000_000

abbrev pub scaled_start : Meaning → Belief
scaled_start m s = start_times * start_weight m s

-- none, or one of the points
abbrev pub IsNoneOrPoint : Points → Option ℕ → Type 0
IsNoneOrPoint points named = (j : ℕ) → named ≡ Some j → j < points.count

-- The least that the start is worth with the best next action, covered by one point or by none: the mean over the start, rounded up.
pub record IsStartMostBy (m : Meaning) (charges : ℕ → ℕ → ℤ) (points : Points) (most : ℤ) : Type 0 where
  pub named : Option ℕ
  pub cover : Cover
  pub is_point : IsNoneOrPoint points named
  pub covered : IsCoverBy (table_of m) points (scaled_start m) named cover
  pub at_most : best_worth (table_of m) charges points (scaled_start m) cover ≤ℤ (pos (start_times * start_total m) *ℤ most)
  pub least : (other : Option ℕ) (its : Cover) → IsNoneOrPoint points other → IsCoverBy (table_of m) points (scaled_start m) other its
      → (pos (start_times * start_total m) *ℤ (most -ℤ pos 1)) <ℤ best_worth (table_of m) charges points (scaled_start m) its

-- with the least charges
pub record IsPointStartMost (m : Meaning) (vectors : ℕ → ℕ → ℤ) (p : PointTable) (most : ℤ) : Type 0 where
  pub charges : ℕ → ℕ → ℤ
  pub charged : AreLeastCharges p vectors charges
  pub is_most : IsStartMostBy m charges p.points most

-- a certificate of at most `most` from the start, by some charges and covers
pub record HasPointCertificate (m : Meaning) (vectors : ℕ → ℕ → ℤ) (p : PointTable) (most : ℤ) : Type 0 where
  pub charges : ℕ → ℕ → ℤ
  pub covers : Covers
  pub cover : Cover
  pub certificate : IsPointCertificate m vectors charges p.points covers start_times cover most
