-- By how much a pair may fail in the worst case.
use Rattle.std.proofs.Common.{◌≡◌, ℕ, ◌*◌, ◌<◌, ◌≤◌, ◌⊎◌, inl, inr, ℤ, pos, neg_ℤ, ◌+ℤ◌, ◌-ℤ◌, ◌*ℤ◌, Option, None, Some, unsigned_abs, refl}
use Rattle.std.proofs.Common.{sym, subst, arith}
use Rattle.std.proofs.lemmas.Int.{ints}
use Rattle.std.proofs.Math.Nat.{mul_assoc}
use Rattle.polcert_text.specs.Numbers.{largest}
use Rattle.polcert_check.specs.Shortfall.{at_node}
use Rattle.polcert_check.proofs.Certificates.{closed_is, value_is_within}
use Rattle.polcert_check.proofs.Sums.Bounds.{abs-*ℤ_le, abs_neg}
use Rattle.polcert_robust.specs.declared.distance.Spread.{Spread}
use Rattle.polcert_robust.specs.RobustVerdict.{IsRobustShort}
use Rattle.polcert_robust.specs.Worst.{IsWorstRow, IsWorstStep, mean, negated_values, least_step_worth, worst_backing}
use Rattle.polcert_robust.specs.Steps.Pairs.{most_worth}
use Rattle.polcert_robust.proofs.Means.{part_small}
use Rattle.polcert_robust.proofs.Worths.{worth_small}
use Rattle.polcert_robust_answer.proofs.Common.{AreProperVectors, CellTable, Controller, Fits, IntervalTable, IsProperGraph, IsWithinLimits}
use Rattle.polcert_robust_answer.proofs.Common.{PolicyGraph, PolicyVectors, around, controller_of, negated, nodes}
use Rattle.polcert_check.specs.Horizon.{one}

at_small : (b : ℕ) (f : ℕ → ℤ) (at : Option ℕ) → ((m : ℕ) → at ≡ Some m → unsigned_abs (f m) ≤ b) → unsigned_abs (at_node f at) ≤ b
at_small b f None small = omega arith
at_small b f (Some m) small = small m refl

-- a value and what backs it
both_small : (t o : ℕ) (x y a : ℤ) → unsigned_abs x ≤ t * o * 1000000 * largest → unsigned_abs y ≤ t * (o * most_worth) → a ≡ x -ℤ y
    → unsigned_abs a ≤ 4 * (t * o * 1000000) * largest
both_small t o x y a h k e = rw e (omega (arith, ints, h, k, mul_assoc t o most_worth))

module _ (i : IntervalTable) (c : Controller) (discounted : i.discount ≤ 1000000)
    (rewards : (a s e z : ℕ) → a < i.actions → s < i.states → e < i.states → z < i.observations
    → unsigned_abs (i.r_low a s e z) ≤ 11000000000000)
    (values : (n s : ℕ) → n < c.nodes → s < i.states → unsigned_abs (c.value n s) ≤ largest)
    (known : (n : ℕ) → n < c.nodes → c.action n < i.actions)
    (next : (n z m : ℕ) → n < c.nodes → z < i.observations → c.next n z ≡ Some m → m < c.nodes)
    (n s : ℕ) (nl : n < c.nodes) (sl : s < i.states) where
  step_small : (e z : ℕ) → e < i.states → z < i.observations → unsigned_abs (least_step_worth i c n s e z) ≤ most_worth
  unfolding one
  step_small e z el zl =
      at_small most_worth (λ m. pos one *ℤ i.r_low (c.action n) s e z +ℤ pos i.discount *ℤ c.value m e) (c.next n z)
      (λ m is. worth_small (i.r_low (c.action n) s e z) (c.value m e) (pos one *ℤ i.r_low (c.action n) s e z)
      (pos i.discount *ℤ c.value m e) i.discount
      (rewards (c.action n) s e z (known n nl) sl el zl) discounted (values m e (next n z m nl zl is) el) refl refl)

  seen_small : (e : ℕ) → e < i.states → (row : ℕ → ℕ)
      → IsWorstRow (i.o_low (c.action n) e) (i.o_high (c.action n) e) i.o_scale i.observations (least_step_worth i c n s e) row
      → unsigned_abs (mean row (least_step_worth i c n s e) i.observations) ≤ i.o_scale * most_worth
  seen_small e el row worst =
      subst (λ k. unsigned_abs (mean row (least_step_worth i c n s e) i.observations) ≤ k * most_worth) worst.sums
      (part_small row (least_step_worth i c n s e) most_worth i.observations i.observations (λ z zl. step_small e z el zl) (omega arith))

  ends_small : (seen : ℕ → ℕ → ℕ) (ends : ℕ → ℕ) → IsWorstStep i c n s seen ends
      → unsigned_abs (worst_backing i c n s seen ends) ≤ i.t_scale * (i.o_scale * most_worth)
  ends_small seen ends worst =
      subst (λ k. unsigned_abs (worst_backing i c n s seen ends) ≤ k * (i.o_scale * most_worth)) worst.ends_worst.sums
      (part_small ends (λ e. mean (seen e) (least_step_worth i c n s e) i.observations) (i.o_scale * most_worth) i.states i.states
      (λ e el. seen_small e el (seen e) (worst.seen_worst e el)) (omega arith))

  pub short_small : (amount : ℤ) → IsRobustShort i c n s amount → unsigned_abs amount ≤ 4 * (i.t_scale * i.o_scale * one) * largest
  unfolding one
  short_small amount short =
      both_small i.t_scale i.o_scale (pos (i.t_scale * i.o_scale * one) *ℤ c.value n s) (worst_backing i c n s short.seen short.ends) amount
      (abs-*ℤ_le (pos (i.t_scale * i.o_scale * one)) (c.value n s) (i.t_scale * i.o_scale * one) largest (omega arith) (values n s nl sl))
      (ends_small short.seen short.ends short.worst) short.is

low_small : (r : ℤ) (by : ℕ) → unsigned_abs r ≤ largest → by ≤ 1000000000000 → unsigned_abs (r -ℤ pos by) ≤ 11000000000000
low_small r by h k = omega (arith, ints, h, k)

high_small : (r : ℤ) (by : ℕ) → unsigned_abs r ≤ largest → by ≤ 1000000000000 → unsigned_abs (neg_ℤ (r +ℤ pos by)) ≤ 11000000000000
high_small r by h k = omega (arith, ints, h, k)

discount_small : (t : CellTable) → IsWithinLimits t → t.discount ≤ 1000000
unfolding one
discount_small t limits = limits.discount

-- ---- from either side
module _ (t : CellTable) (limits : IsWithinLimits t) (g : PolicyGraph) (v : PolicyVectors) (proper : IsProperGraph g)
    (proper_v : AreProperVectors v) (fits : Fits t g v)
    (t_by o_by : Spread) (r_by : ℕ) (small : r_by ≤ 1000000000000) (n s : ℕ) (nl : n < nodes g) (sl : s < t.states) where
  values_small : (m u : ℕ) → m < nodes g → u < t.states → unsigned_abs ((controller_of t g v).value m u) ≤ largest
  values_small m u ml ul = value_is_within v proper_v m u (subst (λ k. m < k) (sym fits.nodes_same) ml)
      (subst (λ k. u < k) (sym fits.states) ul)

  below_small : (amount : ℤ) → IsRobustShort (around t t_by o_by r_by) (controller_of t g v) n s amount
      → unsigned_abs amount ≤ 4 * (t.t_scale * t.o_scale * one) * largest
  below_small amount short =
      short_small (around t t_by o_by r_by) (controller_of t g v) (discount_small t limits)
      (λ a u e z al ul el zl. low_small (t.r a u e z) r_by (limits.r a u e z al ul el zl) small)
      values_small (closed_is t g v fits proper).actions_in_range (closed_is t g v fits proper).next_in_range n s nl sl amount short

  above_small : (amount : ℤ) → IsRobustShort (negated (around t t_by o_by r_by)) (negated_values (controller_of t g v)) n s amount
      → unsigned_abs amount ≤ 4 * (t.t_scale * t.o_scale * one) * largest
  above_small amount short =
      short_small (negated (around t t_by o_by r_by)) (negated_values (controller_of t g v)) (discount_small t limits)
      (λ a u e z al ul el zl. high_small (t.r a u e z) r_by (limits.r a u e z al ul el zl) small)
      (λ m u ml ul. rw (abs_neg ((controller_of t g v).value m u)) (values_small m u ml ul)) (closed_is t g v fits proper).actions_in_range
      (closed_is t g v fits proper).next_in_range n s nl sl amount short

  pub either_small : (amount : ℤ) → IsRobustShort (around t t_by o_by r_by) (controller_of t g v) n s amount
      ⊎ IsRobustShort (negated (around t t_by o_by r_by)) (negated_values (controller_of t g v)) n s amount
      → unsigned_abs amount ≤ 4 * (t.t_scale * t.o_scale * one) * largest
  either_small amount (inl short) = below_small amount short
  either_small amount (inr short) = above_small amount short
