-- What no node is worth more than from a model's start.
use Rattle.std.specs.Prelude.{◌≡◌, ℕ, ◌*◌, ◌^◌, ◌<◌, ℤ, pos, ◌*ℤ◌, ◌≤ℤ◌, IsTrue, All, Some}
use Rattle.polcert_cells.specs.Meaning.{Meaning, start_weight, start_total}
use Rattle.polcert_policy.specs.Vectors.{PolicyVectors}
use Rattle.polcert_check.specs.Horizon.{Controller, one, total_below, step_scale, runs, is_cut, run_weight, worth_sum}
use Rattle.polcert_check.specs.StartWorth.{start_sum, IsBestStart, IsCeilQuotient}

-- the greatest of the nodes' sums over the total of the shares, rounded up
abbrev pub IsStartMost : Meaning → PolicyVectors → ℤ → Type 0
IsStartMost m v most = (n : ℕ) × IsBestStart m v n × IsCeilQuotient (start_sum m v n) (start_total m) most

-- From node n and each state that has a share in the start, each cut run of k steps weighs nothing; and the others are
-- worth at most `most`, in the mean over the shares. Both sides are multiplied by the scales and the total of the shares.
pub record StartPromiseAbove (m : Meaning) (c : Controller) (k n : ℕ) (most : ℤ) : Type 0 where
  pub cut_runs : (s : ℕ) → s < c.cells.states → 0 < start_weight m s → All (λ run. IsTrue (is_cut c (Some n) run) → run_weight c (Some n) s run ≡ 0) (runs c.cells k)
  pub uncut_runs : total_below (λ s. pos (start_weight m s) *ℤ worth_sum c k (Some n) s) c.cells.states ≤ℤ (pos (start_total m * (step_scale c ^ k * one ^ k)) *ℤ most)
