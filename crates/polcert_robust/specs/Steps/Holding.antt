-- Helper definitions of private functions: the weights above 0 of a row as a list, and the worst row around it. Nobody has to believe them.
use Rattle.std.specs.Prelude.{◌≡◌, ℕ, ◌<◌, ◌≤◌, ℤ, pos, List, unsigned_abs}
use Rattle.polcert_check.specs.Horizon.{total_below}
use Rattle.polcert_robust.specs.Intervals.{low_of, high_of}
use Rattle.polcert_robust.specs.declared.distance.Spread.{Spread}
use Rattle.polcert_robust.specs.Worst.{IsWorstRow, mean}
use Rattle.polcert_robust.specs.Steps.Rows.{listed_value, listed_weight}

-- The lists hold the weights above 0 of the first n columns of row f, each with a value for which P holds at its column: a sum whose terms
-- vanish with the weight is the same over the lists and over the row.
pub record HoldsRow (P : ℕ → ℤ → Type 0) (f : ℕ → ℕ) (n bound : ℕ) (weights : List ℕ) (values : List ℤ) (count : ℕ) : Type 0 where
  pub x : ℕ → ℤ
  pub each : (j : ℕ) → j < n → 0 < f j → P j (x j)
  pub place : (j : ℕ) → j < n → 0 < f j → (k : ℕ) × (k < count) × (listed_value values k ≡ x j)
  pub sums : (g : ℕ → ℤ → ℤ) → ((v : ℤ) → g 0 v ≡ pos 0) → total_below (λ k. g (listed_weight weights k) (listed_value values k)) count ≡ total_below (λ j. g (f j) (x j)) n
  pub few : count ≤ n
  pub small : (k : ℕ) → k < count → unsigned_abs (listed_value values k) ≤ bound

-- the value is the mean under a worst row near f, for values for which P holds where f is above 0
pub record IsWorstMean (P : ℕ → ℤ → Type 0) (f : ℕ → ℕ) (by : Spread) (scale n : ℕ) (value : ℤ) : Type 0 where
  pub x : ℕ → ℤ
  pub each : (j : ℕ) → j < n → 0 < f j → P j (x j)
  pub row : ℕ → ℕ
  pub worst : IsWorstRow (λ j. low_of by (f j)) (λ j. high_of by (f j)) scale n x row
  pub is : value ≡ mean row x n
