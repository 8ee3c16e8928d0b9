-- The amount by which an informed backup is above a vector, and how large it is.
use Rattle.std.proofs.Common.{◌≡◌, ℕ, ◌*◌, ◌<◌, ◌≤◌, ℤ, pos, neg_ℤ, ◌+ℤ◌, ◌-ℤ◌, ◌*ℤ◌, unsigned_abs, sym, subst, ◌∙◌, arith}
use Rattle.polcert_optimum.proofs.Common.{ints, largest, CellTable, IsProper, IsWithinLimits, one, largest_amount}
use Rattle.polcert_optimum.proofs.Common.{expected_reward, excess, most_excess, best_value}
use Rattle.polcert_check.specs.Steps.Factored as factored
use Rattle.polcert_check.proofs.Sums.Ring.{linear, *ℤ_assoc}
use Rattle.polcert_check.proofs.Sums.SumLaws.{sum_below_same, sum_below_scale}
use Rattle.polcert_check.proofs.Sums.Scales.{discount_le}
use Rattle.polcert_check.proofs.Sums.Bounds.{abs-*ℤ_le}
use Rattle.polcert_check.proofs.Walking.Earning.{expected_reward_le}
use Rattle.polcert_check.proofs.Lowerings.Shorts.{part_le}
use Rattle.polcert_check.proofs.Sums.Figures.{most_amount}
use Rattle.polcert_optimum.proofs.Checking.Best.{taking, best_value_le}

module _ (t : CellTable) where
  -- the expected reward, summed over the end states first
  pub reward_is : (a s : ℕ) → factored.factored_reward t a s ≡ expected_reward t a s
  reward_is a s =
      sum_below_same _ _ t.states (λ e _.
      sym (sum_below_scale (pos _) _ t.observations)
      ∙ sum_below_same _ _ t.observations (λ z _. sym (*ℤ_assoc (pos (t.t a s e)) (pos _) _)))

  signed_from : (x y : ℤ) → neg_ℤ (x -ℤ y) ≡ y -ℤ x
  signed_from x y = omega (arith, linear)

  -- a shortfall, turned, is the excess
  pub excess_is : (vectors : ℕ → ℕ → ℤ) (a s : ℕ) (short v reward best : ℤ)
      → short ≡ pos (t.t_scale * t.o_scale * one) *ℤ v -ℤ (pos one *ℤ reward +ℤ pos t.discount *ℤ best)
      → v ≡ vectors a s → reward ≡ factored.factored_reward t a s → best ≡ best_value t vectors a s → neg_ℤ short ≡ excess t vectors a s
  excess_is vectors a s short v reward best is ve re be = grind (arith, reward_is, signed_from)

  sum_le : (x y z : ℤ) (b : ℕ) → unsigned_abs x ≤ b → unsigned_abs y ≤ b → unsigned_abs z ≤ b → unsigned_abs ((x +ℤ y) -ℤ z) ≤ 3 * b
  sum_le x y z b xl yl zl = omega (arith, ints)

  pub excess_le : IsProper t → IsWithinLimits t → (vectors : ℕ → ℕ → ℤ)
      → ((b e : ℕ) → b < t.actions → e < t.states → unsigned_abs (vectors b e) ≤ largest) → (a s : ℕ) → a < t.actions → s < t.states
      → unsigned_abs (excess t vectors a s) ≤ most_excess t
  excess_le p limits vectors small a s al sl =
      let earned =
      subst (λ (x : ℤ). unsigned_abs x ≤ t.t_scale * (t.o_scale * largest)) (reward_is a s) (expected_reward_le t p limits a s al sl) in
      sum_le (pos one *ℤ expected_reward t a s) _ _
      _
      (part_le _ _ one _ (omega arith) earned)
      (part_le _ _ _ _ (discount_le t limits)
      (best_value_le t p limits vectors small a s al sl))
      (abs-*ℤ_le (pos _) (vectors a s) _ _ (omega arith) (small a s al sl))

  -- in figures
  pub most_excess_le : IsWithinLimits t → most_excess t ≤ largest_amount
  most_excess_le limits = most_amount (taking t 0) limits
