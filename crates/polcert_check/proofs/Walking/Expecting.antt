-- What a node expects after an end state, and ahead of a start state: the steps of the sums, and that they fit.
use Rattle.polcert_check.proofs.Common.{common_steps, w128, largest, IsWithinLimits, Controller, total_below, IsController, ValuesAreWithin}
use Rattle.polcert_check.proofs.Common.{most_sum, value_term, factored_value_at_end, factored_value}
use Rattle.std.proofs.Common.{◌≡◌, ℕ, suc, ◌+◌, ◌*◌, ◌<◌, ◌≤◌, ℤ, pos, ◌+ℤ◌, unsigned_abs, FitsSigned, to_z, of_z, Option, refl, arith}
use Rattle.std.proofs.Common.{lit<}
use Rattle.polcert_check.proofs.Sums.RowTotals.{o_rows}
use Rattle.polcert_check.proofs.Sums.Bounds.{abs_part_le}
use Rattle.polcert_check.proofs.Sums.Scales.{after_room}
use Rattle.polcert_check.proofs.Walking.Weighed.{ends_weighed, part_le, weight_room, next_weighed}
use Rattle.std.proofs.Common.{◌*ℤ◌, Some}
use Rattle.std.proofs.lemmas.Int.{to_z-of_z}
use Rattle.polcert_cells.specs.Cursors.{IsNext}
use Rattle.polcert_check.proofs.Sums.Gaps.{gap, cursor_step}

module _ (c : Controller) where
  -- no weight, no value
  pub no_value : (n e z : ℕ) (at : Option ℕ) → c.cells.o (c.action n) e z ≡ 0 → value_term c n e z at ≡ pos 0
  no_value n e z at h1 = grind arith

  value_term_le : IsController c → ValuesAreWithin c → (n e z : ℕ) → n < c.nodes → e < c.cells.states
      → z < c.cells.observations → (at : Option ℕ) → c.next n z ≡ at
      → unsigned_abs (value_term c n e z at) ≤ c.cells.o (c.action n) e z * largest
  value_term_le h1 h2 n e z h3 h4 h5 at h6 = grind (arith, common_steps)

  pub value_part_le : IsController c → ValuesAreWithin c → (n e i : ℕ) → n < c.nodes → e < c.cells.states
      → i ≤ c.cells.observations → unsigned_abs (total_below (λ z. value_term c n e z (c.next n z)) i) ≤ c.cells.o_scale * largest
  value_part_le p values n e i nl el il =
      abs_part_le _ _ _ i _ _
      (o_rows c.cells p.cells (c.action n) e (p.closed.actions_in_range n nl) el) il
      (λ z zl. value_term_le p values n e z nl el zl (c.next n z) refl)

  -- one observation more
  pub value_step : IsController c → IsWithinLimits c.cells → ValuesAreWithin c → (n e from z : ℕ) (sum x : ℤ) → n < c.nodes
      → e < c.cells.states → from ≤ z → z < c.cells.observations → ((k : ℕ) → from ≤ k → k < z → c.cells.o (c.action n) e k ≡ 0)
      → sum ≡ total_below (λ z. value_term c n e z (c.next n z)) from → FitsSigned w128 x → x ≡ value_term c n e z (c.next n z)
      → FitsSigned w128 (sum +ℤ to_z w128 (of_z w128 x)) ×
      (to_z w128 (of_z w128 (sum +ℤ to_z w128 (of_z w128 x))) ≡ total_below (λ z. value_term c n e z (c.next n z)) (z + 1))
  value_step p limits values n e from z sum x nl el fl zl none before fx xe =
      cursor_step (λ z. value_term c n e z (c.next n z)) (most_sum) from z sum x fl (λ k kl kh. no_value n e k (c.next n k) (none k kl kh))
      before fx xe
      (omega (arith, (value_part_le p values n e (suc z) nl el (omega arith)), after_room c.cells limits)) (lit< tt)

  pub value_done : (n e from : ℕ) (sum : ℤ) → from ≤ c.cells.observations
      → ((k : ℕ) → from ≤ k → k < c.cells.observations → c.cells.o (c.action n) e k ≡ 0)
      → sum ≡ total_below (λ z. value_term c n e z (c.next n z)) from → sum ≡ factored_value_at_end c n e
  value_done n e from sum fl none before = grind (arith, gap)

  -- what is after an end state is small
  pub value_at_end_le : IsController c → ValuesAreWithin c → (n e : ℕ) → n < c.nodes → e < c.cells.states
      → unsigned_abs (factored_value_at_end c n e) ≤ c.cells.o_scale * largest
  value_at_end_le p values n e nl el = value_part_le p values n e c.cells.observations nl el (omega arith)

  pub expected_value_le : IsController c → IsWithinLimits c.cells → ValuesAreWithin c → (n s : ℕ) → n < c.nodes
      → s < c.cells.states → unsigned_abs (factored_value c n s) ≤ c.cells.t_scale * (c.cells.o_scale * largest)
  expected_value_le p limits values n s nl sl =
      part_le (ends_weighed c.cells p.cells limits (c.action n) s (p.closed.actions_in_range n nl) sl) (factored_value_at_end c n)
      (λ e el. value_at_end_le p values n e nl el) c.cells.states (omega arith)

-- the end state that comes next, in 128 bits
module _ (c : Controller) (p : IsController c) (limits : IsWithinLimits c.cells) (values : ValuesAreWithin c) (n s : ℕ) (nl : n < c.nodes)
    (sl : s < c.cells.states) where
  pub expected_room : (i v : ℕ) (y : ℤ) → i < c.cells.states → v ≡ c.cells.t (c.action n) s i → FitsSigned w128 y
      → y ≡ factored_value_at_end c n i → v * unsigned_abs (to_z w128 (of_z w128 y)) ≤ most_sum
  expected_room i v y il vi fits is = rw (to_z-of_z w128 y fits)
      (weight_room (ends_weighed _ p.cells limits _ s (p.closed.actions_in_range n nl) sl) i v y il vi
      (rw is (value_at_end_le c p values n i nl il)))

  pub expected_step : (from i v : ℕ) (sum x y : ℤ) → IsNext (c.cells.t (c.action n) s) c.cells.states from (Some (i, v))
      → sum ≡ total_below (λ e. pos (c.cells.t (c.action n) s e) *ℤ factored_value_at_end c n e) from → FitsSigned w128 x
      → FitsSigned w128 y
      → x ≡ pos v *ℤ to_z w128 (of_z w128 y) → y ≡ factored_value_at_end c n i → FitsSigned w128 (sum +ℤ to_z w128 (of_z w128 x))
      × (to_z w128 (of_z w128 (sum +ℤ to_z w128 (of_z w128 x)))
      ≡ total_below (λ e. pos (c.cells.t (c.action n) s e) *ℤ factored_value_at_end c n e) (i + 1))
  expected_step =
      next_weighed (ends_weighed _ p.cells limits _ s (p.closed.actions_in_range n nl) sl) (factored_value_at_end c n)
      (λ e. value_at_end_le c p values n e nl)
