-- No shortfall is larger in size than three times the largest value on its scale.
use Rattle.std.proofs.Common.{◌≡◌, ℕ, ◌*◌, ◌<◌, ◌≤◌, ℤ, pos, ◌+ℤ◌, ◌-ℤ◌, ◌*ℤ◌, unsigned_abs, arith, rules}
use Rattle.polcert_check.proofs.Common.{ints, largest, IsWithinLimits, Controller, one, step_scale, backing, short, most_short}
use Rattle.polcert_check.proofs.Common.{IsController, ValuesAreWithin, most_sum, factored_reward, factored_value, followed}
use Rattle.polcert_check.proofs.Common.{followed_is_proper, followed_is_within}
use Rattle.polcert_check.proofs.Sums.Bounds.{abs-*ℤ_le}
use Rattle.polcert_check.proofs.Sums.Scales.{scales_le, discount_le}
use Rattle.polcert_check.proofs.Walking.Earning.{expected_reward_le}
use Rattle.polcert_check.proofs.Walking.Expecting.{expected_value_le}
use Rattle.polcert_check.proofs.Horizons.Splitting.{followed_split}

-- in figures
pub most_short_le : (c : Controller) → IsWithinLimits c.cells → most_short c ≤ 3 * most_sum
unfolding one
most_short_le c limits = grind (arith, scales_le)

module _ (x : ℤ) (y : ℤ) (b : ℕ) where
  sum_le : unsigned_abs x ≤ b → unsigned_abs y ≤ b → unsigned_abs (x +ℤ y) ≤ 2 * b
  sum_le h k = omega (arith, ints)

  difference_le : unsigned_abs x ≤ b → unsigned_abs y ≤ 2 * b → unsigned_abs (x -ℤ y) ≤ 3 * b
  difference_le h k = omega (arith, ints)

-- what is earned or expected, in millionths of it
pub part_le : (t o u : ℕ) (x : ℤ) → u ≤ one → unsigned_abs x ≤ t * (o * largest) → unsigned_abs (pos u *ℤ x) ≤ t * o * one * largest
part_le t o u x ul xl =
    rw (signed_from t o one largest) at (abs-*ℤ_le (pos u) x one _ ul xl)
  where
    signed_from : (t o g l : ℕ) → g * (t * (o * l)) ≡ t * o * g * l
    signed_from t o g l = omega arith

-- what backs a value is at most twice the largest value on this scale
backing_le : (c : Controller) → IsController c → IsWithinLimits c.cells → ValuesAreWithin c → (n s : ℕ) → n < c.nodes → s < c.cells.states
    → unsigned_abs (backing c n s) ≤ 2 * (step_scale c * one * largest)
backing_le c p limits values n s nl sl =
    rw (followed_split c n s) (sum_le (pos one *ℤ factored_reward (followed c n) (c.action n) s)
    (pos c.cells.discount *ℤ factored_value c n s) (step_scale c * one * largest)
    (part_le c.cells.t_scale c.cells.o_scale one (factored_reward (followed c n) (c.action n) s) (omega arith)
    (expected_reward_le (followed c n) (followed_is_proper c n p.cells) (followed_is_within c n limits) (c.action n) s
    (p.closed.actions_in_range n nl) sl))
    (part_le c.cells.t_scale c.cells.o_scale c.cells.discount (factored_value c n s) (discount_le c.cells limits)
    (expected_value_le c p limits values n s nl sl)))

pub short_le : (c : Controller) → IsController c → IsWithinLimits c.cells → ValuesAreWithin c → (n s : ℕ) → n < c.nodes → s < c.cells.states
    → unsigned_abs (short c n s) ≤ most_short c
short_le c p limits values n s nl sl = search (rules, abs-*ℤ_le, difference_le, backing_le)
