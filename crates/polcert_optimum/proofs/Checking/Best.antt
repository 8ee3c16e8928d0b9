-- The greatest expected value after each observation: one vector more at a time, and how large their sums are.
use Rattle.std.proofs.Common.{◌≡◌, ℕ, ◌*◌, ◌<◌, ◌≤◌, ℤ, pos, ◌*ℤ◌, ◌≤ℤ◌, unsigned_abs, None, List, sym, ap, ◌∙◌, subst, arith}
use Rattle.polcert_optimum.proofs.Common.{largest, CellTable, IsProper, IsWithinLimits, Controller, total_below}
use Rattle.polcert_optimum.proofs.Common.{step_weight, greatest_below, expected_value, sum_of}
use Rattle.polcert_optimum.proofs.Common.{AreGreatestValues, AreSmallSums, best_value}
use Rattle.std.proofs.Math.Nat.{le_trans}
use Rattle.polcert_cells.specs.Meaning.{sum_below}
use Rattle.polcert_check.proofs.Sums.Ring.{linear}
use Rattle.polcert_check.proofs.Sums.SumLaws.{sum_below_same}
use Rattle.polcert_check.proofs.Sums.RowTotals.{sum_of_pos}
use Rattle.polcert_check.proofs.Sums.Scales.{ahead_room}
use Rattle.polcert_check.proofs.Sums.Bounds.{abs-*ℤ_le, abs_sum_le, abs_part_le}
use Rattle.polcert_check.proofs.Horizons.Kept.{step_weights_sum}
use Rattle.polcert_optimum.proofs.Greatest.{greatest_reached}
use Rattle.polcert_optimum.proofs.Informed.{swapped}

-- ---- the weight with which an observation is received
abbrev pub observation_weight : CellTable → ℕ → ℕ → ℕ → ℕ
observation_weight t a s z = sum_below (λ e. step_weight t a s e z) t.states

-- a controller that takes the action
abbrev pub taking : CellTable → ℕ → Controller
taking t a = record { cells = t; nodes = 1; action = λ n. a; next = λ n z. None; value = λ n u. pos 0 }

pub weights_all : (t : CellTable) → IsProper t → (a s : ℕ) → a < t.actions → s < t.states
    → total_below (λ z. pos (observation_weight t a s z)) t.observations ≡ pos (t.t_scale * t.o_scale)
weights_all t p a s al sl =
    sum_below_same _ _ t.observations (λ z _. sym (sum_of_pos _ _))
    ∙ sym (swapped _ t.observations t.states)
    ∙ step_weights_sum (taking t a) (grind arith) 0 s (omega arith) sl

-- ---- how large
module _ (t : CellTable) (p : IsProper t) (limits : IsWithinLimits t) (vectors : ℕ → ℕ → ℤ)
    (small : (b e : ℕ) → b < t.actions → e < t.states → unsigned_abs (vectors b e) ≤ largest) (a s : ℕ) (al : a < t.actions)
    (sl : s < t.states) where
  value_le : (z b : ℕ) → b < t.actions → unsigned_abs (expected_value t a s z (vectors b)) ≤ observation_weight t a s z * largest
  value_le z b bl =
      let le =
      abs_sum_le _ (λ e. step_weight t a s e z) _ _
      (λ e el. abs-*ℤ_le (pos (step_weight t a s e z)) _ _ _ (omega arith) (small b e bl el)) in
      let whole =
      subst (λ (x : ℤ). pos (unsigned_abs (expected_value t a s z (vectors b))) ≤ℤ (x *ℤ pos largest))
      (sum_of_pos _ t.states) le in
      omega (arith, linear)

  part_small : (k : ℕ) → k ≤ t.observations → unsigned_abs
      (total_below (λ z. greatest_below (λ b. expected_value t a s z (vectors b)) t.actions) k) ≤ t.t_scale * t.o_scale * largest
  part_small k kl = abs_part_le _ _ _ k _ _ (weights_all t p a s al sl) kl (λ z zl. let (b, bl, is) =
      greatest_reached (λ b. expected_value t a s z (vectors b)) t.actions (omega arith) in
      rw (← is) (value_le z b bl))

  pub best_value_le : unsigned_abs (best_value t vectors a s) ≤ t.t_scale * (t.o_scale * largest)
  best_value_le = grind (arith, part_small)

  pub small_sums : (xs : List ℤ) → AreGreatestValues t vectors a s t.actions xs → AreSmallSums t.observations xs
  small_sums xs are = record {
    each = λ k kl.
        let same =
        sum_below_same _ _ k (λ z zl. are.each z (omega arith)) in
        let le = part_small k kl in
        rw same (le_trans le (omega (arith, ahead_room t limits)));
  }

pub best_is : (t : CellTable) (vectors : ℕ → ℕ → ℤ) (a s : ℕ) (xs : List ℤ) → AreGreatestValues t vectors a s t.actions xs
    → total_below (sum_of xs) t.observations ≡ best_value t vectors a s
best_is t vectors a s xs are = sum_below_same _ _ _ are.each

-- ---- states with the same row of T
module _ (t : CellTable) (vectors : ℕ → ℕ → ℤ) (a s u : ℕ) (rows : (e : ℕ) → e < t.states → t.t a s e ≡ t.t a u e) where
  pub best_same : best_value t vectors a s ≡ best_value t vectors a u
  best_same = λ i. total_below (λ z. greatest_below (λ b.
      (sum_below_same _ _ _ (λ e el. ap (λ n. pos (n * t.o a e z) *ℤ vectors b e) (rows e el))) i) t.actions) t.observations
