-- What an action earns at a state: how large it is, and what it is where rewards are the same.
use Rattle.std.proofs.Common.{◌≡◌, ℕ, ◌*◌, ◌<◌, ◌≤◌, ℤ, pos, ◌*ℤ◌, unsigned_abs, sym, ap, subst, ◌∙◌, arith}
use Rattle.polcert_check.proofs.Common.{*ℤ_comm, largest, CellTable, IsProper, IsWithinLimits, most_sum, reward_at_end, factored_reward}
use Rattle.std.proofs.Math.Nat.{mul-le-mul}
use Rattle.polcert_check.proofs.Sums.SumLaws.{sum_below_same, sum_below_scale}
use Rattle.polcert_check.proofs.Sums.RowTotals.{t_rows, o_rows}
use Rattle.polcert_check.proofs.Sums.Bounds.{abs-*ℤ_le}
use Rattle.polcert_check.proofs.Sums.Scales.{ahead_room}
use Rattle.polcert_check.proofs.Walking.Weighed.{ends_weighed, seen_weighed, part_le, weight_room, next_weighed}
use Rattle.polcert_check.proofs.Common.{w128, total_below}
use Rattle.std.proofs.Common.{◌+◌, ◌+ℤ◌, FitsSigned, to_z, of_z, Some}
use Rattle.std.proofs.lemmas.Int.{to_z-of_z}
use Rattle.polcert_cells.specs.Cursors.{IsNext}

module _ (m : CellTable) (p : IsProper m) (limits : IsWithinLimits m) where
  pub reward_at_end_le : (a s e : ℕ) → a < m.actions → s < m.states → e < m.states
      → unsigned_abs (reward_at_end m a s e) ≤ m.o_scale * largest
  reward_at_end_le a s e al sl el = part_le (seen_weighed m p limits a e al el) (m.r a s e) (λ z zl. limits.r a s e z al sl el zl)
      m.observations (omega arith)

  pub expected_reward_le : (a s : ℕ) → a < m.actions → s < m.states
      → unsigned_abs (factored_reward m a s) ≤ m.t_scale * (m.o_scale * largest)
  expected_reward_le a s al sl = part_le (ends_weighed m p limits a s al sl) (reward_at_end m a s) (λ e el. reward_at_end_le a s e al sl el)
      m.states (omega arith)

  -- the end state that comes next, in 128 bits
  pub reward_room : (a s : ℕ) → a < m.actions → s < m.states → (i v : ℕ) (y : ℤ) → i < m.states → v ≡ m.t a s i → FitsSigned w128 y
      → y ≡ reward_at_end m a s i → v * unsigned_abs (to_z w128 (of_z w128 y)) ≤ most_sum
  reward_room a s al sl i v y il vi fits is = rw (to_z-of_z w128 y fits)
      (weight_room (ends_weighed m p limits a s al sl) i v y il vi (rw is (reward_at_end_le a s i al sl il)))

  pub reward_step : (a s : ℕ) → a < m.actions → s < m.states → (from i v : ℕ) (sum x y : ℤ) → IsNext (m.t a s) m.states from (Some (i, v))
      → sum ≡ total_below (λ e. pos (m.t a s e) *ℤ reward_at_end m a s e) from → FitsSigned w128 x → FitsSigned w128 y
      → x ≡ pos v *ℤ to_z w128 (of_z w128 y) → y ≡ reward_at_end m a s i → FitsSigned w128 (sum +ℤ to_z w128 (of_z w128 x))
      × (to_z w128 (of_z w128 (sum +ℤ to_z w128 (of_z w128 x))) ≡ total_below (λ e. pos (m.t a s e) *ℤ reward_at_end m a s e) (i + 1))
  reward_step a s al sl =
      next_weighed (ends_weighed m p limits a s al sl) (reward_at_end m a s) (λ e. reward_at_end_le a s e al sl)

  -- every observation earns the same
  pub alike : (a s e : ℕ) (h : ℤ) → a < m.actions → e < m.states → ((z : ℕ) → z < m.observations → m.r a s e z ≡ h)
      → pos m.o_scale *ℤ h ≡ reward_at_end m a s e
  alike a s e h al el same =
      *ℤ_comm (pos m.o_scale) h
      ∙ ap (λ x. h *ℤ x) (sym (o_rows m p a e al el))
      ∙ sym (sum_below_scale h _ m.observations)
      ∙ sum_below_same _ _ _ (λ z zl. *ℤ_comm h (pos (m.o a e z)) ∙ ap (λ x. pos (m.o a e z) *ℤ x) (sym (same z zl)))

  -- every end state and observation earns the same
  pub common : (a s : ℕ) (h : ℤ) → a < m.actions → s < m.states → ((e z : ℕ) → e < m.states → z < m.observations → m.r a s e z ≡ h)
      → pos m.t_scale *ℤ (pos m.o_scale *ℤ h) ≡ factored_reward m a s
  common a s h al sl same =
      let x = pos m.o_scale *ℤ h in
      *ℤ_comm (pos m.t_scale) x
      ∙ ap (λ y. x *ℤ y) (sym (t_rows m p a s al sl))
      ∙ sym (sum_below_scale x _ m.states)
      ∙ sum_below_same _ _ _ (λ e el. *ℤ_comm x (pos (m.t a s e))
      ∙ ap (λ y. pos (m.t a s e) *ℤ y) (alike a s e h al el (λ z. same e z el)))

  pub common_room : (a s : ℕ) (h : ℤ) → a < m.actions → s < m.states → ((e z : ℕ) → e < m.states → z < m.observations → m.r a s e z ≡ h)
      → m.t_scale * unsigned_abs (pos m.o_scale *ℤ h) ≤ most_sum
  common_room a s h al sl same =
      let zl = limits.observations.0 in
      let small : unsigned_abs h ≤ largest = subst (λ x. unsigned_abs x ≤ largest) (same s 0 sl zl) (limits.r a s s 0 al sl sl zl) in
      grind (arith, mul-le-mul, abs-*ℤ_le, ahead_room)
