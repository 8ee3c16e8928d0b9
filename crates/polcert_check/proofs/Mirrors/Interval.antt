-- What passes from below is nowhere above what passes from above, where the discount is below 1.
use Rattle.polcert_check.proofs.Common.{total_below}
use Rattle.std.proofs.Common.{◌≡◌, ℕ, zero, suc, ◌+◌, ◌*◌, ◌<◌, ◌≤◌, ℤ, pos, ◌+ℤ◌, ◌-ℤ◌, ◌*ℤ◌, ◌≤ℤ◌, Option, Some, None, refl, ap, ◌∙◌}
use Rattle.std.proofs.Common.{arith, unsigned_abs}
use Rattle.polcert_check.proofs.Common.{cases_lt, ints, Controller, one, step_weight, step_scale, backing, Passes}
use Rattle.polcert_check.proofs.Common.{IsController, PassesAbove}
use Rattle.std.proofs.Math.Nat.{le_trans}
use Rattle.polcert_check.proofs.Sums.Ring.{linear, below_cancel, products, sums, *ℤ-+ℤ, mul_le, ≤ℤ_trans, ≤ℤ_from_eq}
use Rattle.polcert_check.proofs.Sums.SumLaws.{sum_below_le}
use Rattle.polcert_check.proofs.Horizons.Kept.{backing_term, not_short_is, sum_twice_scale, step_weights_sum}
use Rattle.polcert_check.proofs.Lowerings.Lowering.{sum_twice_add}
use Rattle.polcert_check.proofs.Agreements.Agreeing.{with_values}

-- `low` is nowhere more than b above the values of c
abbrev IsWithin : Controller → (ℕ → ℕ → ℤ) → ℕ → Type 0
IsWithin c low b = (n s : ℕ) → n < c.nodes → s < c.cells.states → low n s ≤ℤ (c.value n s +ℤ pos b)

-- ---- one step takes a gap of b to the discount's part of it
gap_algebra : (w u r g v b : ℤ) → w *ℤ (u *ℤ r +ℤ g *ℤ (v +ℤ b)) ≡ w *ℤ (u *ℤ r +ℤ g *ℤ v) +ℤ (g *ℤ b) *ℤ w
gap_algebra w u r g v b = simp (products, sums)

module _ (c : Controller) where
  gap_term : (low : ℕ → ℕ → ℤ) (b n s e z : ℕ) → ((m : ℕ) → c.next n z ≡ Some m → low m e ≤ℤ (c.value m e +ℤ pos b))
      → (at : Option ℕ) → c.next n z ≡ at
      → backing_term (with_values c low) n s e z at ≤ℤ (backing_term c n s e z at +ℤ pos (c.cells.discount * b)
      *ℤ pos (step_weight c n s e z))
  gap_term low b n s e z h None is = omega (arith, linear)
  gap_term low b n s e z h (Some m) is =
      let w = step_weight c n s e z in
      let r = pos one *ℤ c.cells.r (c.action n) s e z in
      let g = c.cells.discount in
      let later = mul_le g _ _ (h m is) in
      ≤ℤ_trans _ _ _ (mul_le w _ _ (omega (arith, linear)))
      (≤ℤ_from_eq _ _ (gap_algebra (pos w) (pos one) (c.cells.r (c.action n) s e z) (pos g) (c.value m e) (pos b)))

  gap_backing : IsController c → (low : ℕ → ℕ → ℤ) (b n s : ℕ) → n < c.nodes → s < c.cells.states → IsWithin c low b
      → backing (with_values c low) n s ≤ℤ (backing c n s +ℤ pos (c.cells.discount * b) *ℤ pos (step_scale c))
  gap_backing p low b n s nl sl within =
      let x : ℤ = pos (c.cells.discount * b) in
      let w = λ (e z : ℕ). pos (step_weight c n s e z) in
      let old = λ (e z : ℕ). backing_term c n s e z (c.next n z) in
      ≤ℤ_trans _ _ _
      (sum_below_le _ (λ e. total_below (λ z. old e z +ℤ x *ℤ w e z) c.cells.observations) c.cells.states
      (λ e el. sum_below_le _ _ c.cells.observations (λ z zl. gap_term low b n s e z
      (λ i is. within i e (p.closed.next_in_range n z i nl zl is) el) (c.next n z) refl)))
      (≤ℤ_from_eq _ _
      (sum_twice_add old (λ e z. x *ℤ w e z) c.cells.observations c.cells.states
      ∙ ap (λ (y : ℤ). backing c n s +ℤ y) (sum_twice_scale x w c.cells.observations c.cells.states)
      ∙ ap (λ (y : ℤ). backing c n s +ℤ x *ℤ y) (step_weights_sum c p n s nl sl)))

shrink_nat : (q u g b : ℕ) → 0 < q → g < u → g * suc b * q < q * u * suc b
shrink_nat q u g b h1 h2 = grind arith

step_up : (a b d : ℤ) → a ≤ℤ b → (a +ℤ d) ≤ℤ (b +ℤ d)
step_up a b d h = omega (arith, linear)

not_long_is : (a b : ℤ) → pos 0 ≤ℤ (a -ℤ b) → b ≤ℤ a
not_long_is a b h = omega (arith, linear)

-- so a gap of b + 1 is one of b
shrink : (q u g b : ℕ) (v l : ℤ) → 0 < q → g < u → (pos (q * u) *ℤ l) ≤ℤ (pos (q * u) *ℤ v +ℤ pos (g * suc b * q)) → l ≤ℤ (v +ℤ pos b)
shrink q u g b v l ql gl h =
    omega (
      arith,
      linear,
      below_cancel (q * u) l (v +ℤ pos (suc b))
          (omega (arith, linear, h, *ℤ-+ℤ (pos (q * u)) v (pos (suc b)), shrink_nat q u g b ql gl)),
    )

closes : (c : Controller) → IsController c → PassesAbove c → (low : ℕ → ℕ → ℤ) → Passes (with_values c low) → c.cells.discount < one
    → 0 < step_scale c
    → (b : ℕ) → IsWithin c low b → (n s : ℕ) → n < c.nodes → s < c.cells.states → low n s ≤ℤ (c.value n s +ℤ pos 0)
closes c p above low below gl ql zero within = within
closes c p above low below gl ql (suc b) within =
    closes c p above low below gl ql b (λ n s nl sl.
    let lower = not_short_is _ _ (below n s nl sl).not_short in
    let upper : backing c n s ≤ℤ (pos (step_scale c * one) *ℤ c.value n s) = not_long_is _ _ (above n s nl sl).not_long in
    shrink (step_scale c) one c.cells.discount b (c.value n s) (low n s) ql gl
    (≤ℤ_trans _ _ _ lower (≤ℤ_trans _ _ _ (gap_backing c p low (suc b) n s nl sl within) (step_up _ _ _ upper))))

-- ---- finitely many values are within some bound
pub some_row : (f : ℕ → ℤ) (n : ℕ) → (b : ℕ) × ((i : ℕ) → i < n → unsigned_abs (f i) ≤ b)
some_row f zero = (0, (λ i l. absurd (omega arith)))
some_row f (suc n) = let (b, within) = some_row f n in (b + unsigned_abs (f n), (λ i l. grind (arith, cases_lt i n, within i)))

pub some_bound : (f : ℕ → ℕ → ℤ) (m n : ℕ) → (b : ℕ) × ((a s : ℕ) → a < m → s < n → unsigned_abs (f a s) ≤ b)
some_bound f m n = let (b, within) = some_row (λ a. pos (some_row (f a) n).0) m in
    (b, (λ a s al sl. le_trans ((some_row (f a) n).1 s sl) (within a al)))

within_abs : (x v : ℤ) (b : ℕ) → unsigned_abs (x -ℤ v) ≤ b → x ≤ℤ (v +ℤ pos b)
within_abs x v b h = omega (arith, ints)

pub never_above : (c : Controller) → IsController c → PassesAbove c → (low : ℕ → ℕ → ℤ) → Passes (with_values c low)
    → c.cells.discount < one → 0 < step_scale c
    → (n s : ℕ) → n < c.nodes → s < c.cells.states → low n s ≤ℤ c.value n s
never_above c p above low below gl ql n s nl sl =
    let (b, within) = some_bound (λ m t. low m t -ℤ c.value m t) c.nodes c.cells.states in
    omega (
      arith,
      linear,
      closes c p above low below gl ql b (λ m t ml tl. within_abs (low m t) (c.value m t) b (within m t ml tl)) n s nl
          sl,
    )
