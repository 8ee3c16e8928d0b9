-- The sums of the observations, one end state more at a time, and that they fit 128 bits.
use Rattle.std.proofs.Common.{◌≡◌, ℕ, suc, ◌+◌, ◌*◌, ◌<◌, ◌≤◌, ℤ, pos, ◌+ℤ◌, ◌*ℤ◌, unsigned_abs, FitsSigned, to_z, of_z, List}
use Rattle.std.proofs.Common.{length, set, refl, ap, ◌∙◌, arith, lit<}
use Rattle.polcert_optimum.proofs.Common.{w128, largest, CellTable, IsProper, IsWithinLimits, total_below, most_scales, most_sum}
use Rattle.polcert_optimum.proofs.Common.{step_weight, sum_of, value_until, AreValuesUntil, AreSmallSums}
use Rattle.std.proofs.lemmas.Grind.{get_or-set_at}
use Rattle.std.proofs.lemmas.List.{get_or-set_other}
use Rattle.std.proofs.Math.Nat.{mul-le-mul, le_trans}
use Rattle.std.proofs.Math.Numerals.{add-one}
use Rattle.polcert_check.proofs.Sums.Ring.{*ℤ_assoc}
use Rattle.polcert_check.proofs.Sums.SumLaws.{sum_below_same}
use Rattle.polcert_check.proofs.Sums.RowTotals.{t_rows, o_rows}
use Rattle.polcert_check.proofs.Sums.Scales.{scales_le, ahead_room}
use Rattle.polcert_check.proofs.Sums.Bounds.{abs-*ℤ_le, term_le}
use Rattle.polcert_check.proofs.Sums.Gaps.{gap, add_step, weighed_is}
use Rattle.polcert_check.proofs.Walking.Weighed.{ends_weighed, part_le}

-- ---- a list of which one item is set
pub set_here : (xs : List ℤ) (z : ℕ) (x : ℤ) → z < length xs → sum_of (set xs z x) z ≡ x
set_here xs z x room = get_or-set_at xs z z x _ refl room

pub set_other : (xs : List ℤ) (z k : ℕ) (x : ℤ) → (k ≡ z → ⊥) → sum_of (set xs z x) k ≡ sum_of xs k
set_other xs z k x other = get_or-set_other xs z k x _ other

-- the items before a place are those of a function, and so is the one that is set there
pub filled_more : (f : ℕ → ℤ) (xs : List ℤ) (z : ℕ) (x : ℤ) → z < length xs → ((k : ℕ) → k < z → sum_of xs k ≡ f k) → x ≡ f z → (k : ℕ)
    → k < z + 1 → sum_of (set xs z x) k ≡ f k
filled_more f xs z x room before is k kl = grind (arith, set_here, set_other)

-- ---- weights
module _ (t : CellTable) (p : IsProper t) (limits : IsWithinLimits t) (a s : ℕ) (al : a < t.actions) (sl : s < t.states) where
  pub o_le : (e z : ℕ) → e < t.states → z < t.observations → t.o a e z ≤ t.o_scale
  o_le e z el zl = term_le _ z _ _ (o_rows t p a e al el) zl

  -- the weight of a step is small
  pub weight_le : (e z w v : ℕ) → e < t.states → z < t.observations → w ≡ t.t a s e → v ≡ t.o a e z → w * v ≤ most_scales
  weight_le e z w v el zl we ve =
      le_trans (mul-le-mul (rw we (term_le _ e _ _ (t_rows t p a s al sl) el)) (rw ve (o_le e z el zl)))
      (scales_le t limits)

pub term_room : (w : ℕ) (x : ℤ) → w ≤ most_scales → unsigned_abs x ≤ largest → w * unsigned_abs x ≤ most_sum
term_room w x wl xl = grind arith

-- ---- values
module _ (t : CellTable) (p : IsProper t) (limits : IsWithinLimits t) (vector : ℕ → ℤ)
    (small : (e : ℕ) → e < t.states → unsigned_abs (vector e) ≤ largest) (a s : ℕ) (al : a < t.actions) (sl : s < t.states) where
  pub value_until_le : (z n : ℕ) → z < t.observations → n ≤ t.states
      → unsigned_abs (value_until t vector a s n z) ≤ t.t_scale * (t.o_scale * largest)
  value_until_le z n zl nl =
      rw ((sum_below_same _ _ n (λ e _. *ℤ_assoc (pos _) (pos _) (vector e))))
      (part_le (ends_weighed t p limits a s al sl) _
      (λ e el. abs-*ℤ_le (pos _) _ _ _ (o_le t p limits a s al sl e z el zl) (small e el)) n nl)

  -- one weight more
  pub add_value : (e z w : ℕ) (sum x y : ℤ) → e < t.states → z < t.observations → w ≡ step_weight t a s e z
      → sum ≡ value_until t vector a s e z → FitsSigned w128 x → FitsSigned w128 y → x ≡ pos w *ℤ to_z w128 (of_z w128 y) → y ≡ vector e
      → FitsSigned w128 (sum +ℤ to_z w128 (of_z w128 x)) ×
      (to_z w128 (of_z w128 (sum +ℤ to_z w128 (of_z w128 x))) ≡ value_until t vector a s (e + 1) z)
  add_value e z w sum x y el zl we before fx fy xe ye =
      let (fits, is) = add_step sum x _ _ fx (rw (before, weighed_is w _ x y _ fy xe we ye) refl)
      (le_trans (value_until_le z (suc e) zl (omega arith)) (ahead_room t limits)) (lit< tt) in
      (fits, rw add-one is)

-- ---- the sums of all observations
module _ (t : CellTable) (vector : ℕ → ℤ) (a s : ℕ) where
  module _ (xs : List ℤ) (e from z : ℕ) (x : ℤ) (room : z < length xs) (none : (k : ℕ) → from ≤ k → k < z → t.o a e k ≡ 0) where
    pub done_more : x ≡ value_until t vector a s (e + 1) z → ((k : ℕ) → k < from → sum_of xs k ≡ value_until t vector a s (e + 1) k)
        → ((k : ℕ) → from ≤ k → k < t.observations → sum_of xs k ≡ value_until t vector a s e k)
        → z < t.observations → (k : ℕ) → k < z + 1 → sum_of (set xs z x) k ≡ value_until t vector a s (e + 1) k
    done_more is done rest zl k kl = grind (arith, set_here, set_other)

    pub rest_more : from ≤ z → ((k : ℕ) → from ≤ k → k < t.observations → sum_of xs k ≡ value_until t vector a s e k)
        → (k : ℕ) → z + 1 ≤ k → k < t.observations → sum_of (set xs z x) k ≡ value_until t vector a s e k
    rest_more fl rest k h kl = set_other xs z k x (λ (same : k ≡ z). omega arith) ∙ rest k (omega arith) kl

  -- after the last weight of the row
  pub all_done : (xs : List ℤ) (e from : ℕ) → ((k : ℕ) → from ≤ k → k < t.observations → t.o a e k ≡ 0)
      → ((k : ℕ) → k < from → sum_of xs k ≡ value_until t vector a s (e + 1) k)
      → ((k : ℕ) → from ≤ k → k < t.observations → sum_of xs k ≡ value_until t vector a s e k)
      → AreValuesUntil t vector a s (e + 1) xs
  all_done xs e from none done rest = grind arith

  -- end states that are not reached add nothing
  pub values_on : (xs : List ℤ) (from to : ℕ) → from ≤ to → ((k : ℕ) → from ≤ k → k < to → t.t a s k ≡ 0)
      → AreValuesUntil t vector a s from xs → AreValuesUntil t vector a s to xs
  values_on xs from to fl none before = grind (arith, gap)

-- ---- the sum of the sums
pub total_fits : (xs : List ℤ) (n z : ℕ) (sum : ℤ) → AreSmallSums n xs → z < n → sum ≡ total_below (sum_of xs) z
    → FitsSigned w128 (sum_of xs z) → FitsSigned w128 (sum +ℤ to_z w128 (of_z w128 (sum_of xs z)))
total_fits xs n z sum small zl is fits =
    (add_step sum _ _ _ fits (ap (λ (x : ℤ). x +ℤ sum_of xs z) is)
    (small.each (suc z) (omega arith)) (lit< tt)).0
