-- How often a point can be taken out, one weight more at a time.
use Rattle.std.proofs.Common.{◌≡◌, ℕ, suc, ◌+◌, ◌*◌, ◌<◌, ◌≤◌, ◌⊎◌, inl, inr, arith, add-one}
use Rattle.std.proofs.Math.Nat.{mul-le-mul_right, le_trans}
use Rattle.polcert_points.proofs.Common.{cases_lt}
use Rattle.polcert_points.specs.Belief.{Belief}
use Rattle.polcert_points.specs.PointCheck.{IsMostTimes}

-- `most` fits at the states before s, and one more does not, or `most` is as large as it can be
pub record IsMostUntil (top : ℕ) (b point : Belief) (s most : ℕ) : Type 0 where
  pub fits : (k : ℕ) → k < s → most * point k ≤ b k
  pub reached : (most ≡ top) ⊎ ((k : ℕ) × (k < s) × (b k < suc most * point k))

module _ (top : ℕ) (b : Belief) where
  -- states where the point has no weight
  pub no_weight_here : (point : Belief) (from to most : ℕ) → from ≤ to → ((k : ℕ) → from ≤ k → k < to → point k ≡ 0)
      → IsMostUntil top b point from most → IsMostUntil top b point to most
  no_weight_here point from to most fl none before = grind arith

  -- a state where fewer times fit, or as many
  pub weight_here : (point : Belief) (s most next : ℕ) → next ≤ most → next * point s ≤ b s → (next ≡ most)
      ⊎ (b s < suc next * point s) → IsMostUntil top b point s most → IsMostUntil top b point (suc s) next
  weight_here point s most next fewer here why before = grind (arith, le_trans, mul-le-mul_right, cases_lt)

  -- one weight more, after a gap
  pub most_more : (point : Belief) (from s w most next : ℕ) → from ≤ s → ((k : ℕ) → from ≤ k → k < s → point k ≡ 0) → w ≡ point s
      → next * w ≤ b s → next ≤ most → (next ≡ most) ⊎ (b s < (next + 1) * w) → IsMostUntil top b point from most
      → IsMostUntil top b point (s + 1) next
  most_more point from s w most next fl none we fits fewer why before =
      rw add-one (weight_here _ s most next fewer (rw we at fits)
      (grind arith)
      (grind arith))
    where
      more : b s < (next + 1) * point s → b s < suc next * point s
      more l = omega arith

  -- at the end, where some weight is above 0 and no number is above `top`
  pub most_is : (point : Belief) (states most : ℕ) → ((s : ℕ) → s < states → b s ≤ top) → ((s : ℕ) × (s < states) × (0 < point s))
      → IsMostUntil top b point states most → IsMostTimes states b point most
  most_is point states most small some until = grind arith
    where
      times_le : (n w : ℕ) → 0 < w → suc n ≤ suc n * w
      times_le n w h = grind arith

      contradiction : (most ≡ top) ⊎ ((k : ℕ) × (k < states) × (b k < suc most * point k))
          → ((s : ℕ) → s < states → suc most * point s ≤ b s)
          → ⊥
      contradiction (inl e) all = omega (arith, all some.0 some.1, times_le most (point some.0) some.2, e)
      contradiction (inr r) all = grind arith
