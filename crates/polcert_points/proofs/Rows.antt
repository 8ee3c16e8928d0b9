-- What a walk over the weights above 0 of a row adds up, and what it changes in a list.
use Rattle.std.proofs.Common.{◌≡◌, ⊎_elim, ℕ, zero, suc, ◌+◌, ◌<◌, ◌≤◌, Option, Some, None, List, length, get_or, set, refl, arith}
use Rattle.std.proofs.Common.{add-one}
use Rattle.std.proofs.lemmas.Grind.{get_or-set_at}
use Rattle.std.proofs.lemmas.List.{get_or-set_other}
use Rattle.polcert_points.proofs.Common.{cases_lt}
use Rattle.polcert_cells.specs.Meaning.{sum_below}
use Rattle.polcert_cells.specs.BorrowedRows.{IsStep}
use Rattle.polcert_cells.specs.declared.cells.Row.{Row}
use Rattle.polcert_cells.specs.declared.cells.Step.{Step}
use Rattle.polcert_points.specs.Belief.{Belief}
use Rattle.polcert_points.specs.Steps.PointSums.{IsWithinRow, IsStepWithin}

-- ---- sums of whole numbers

-- from i to j the function is 0
pub sum_on : (f : ℕ → ℕ) (i j : ℕ) → i ≤ j → ((k : ℕ) → i ≤ k → k < j → f k ≡ 0) → sum_below f i ≡ sum_below f j
sum_on f i zero l none = grind arith
sum_on f i (suc j) l none =
    ⊎_elim (λ (h : j < i). let e : i ≡ suc j = omega arith in rw e refl)
    (λ (h : i ≤ j). omega (arith, sum_on f i j h (λ k a b. none k a (omega (arith, b)))))
    (cases_lt j i)

-- one weight more, after a gap
pub sum_more : (f : ℕ → ℕ) (i j w sum : ℕ) → i ≤ j → ((k : ℕ) → i ≤ k → k < j → f k ≡ 0) → sum ≡ sum_below f i → w ≡ f j
    → sum + w ≡ sum_below f (j + 1)
sum_more f i j w sum l none is here = grind (arith, add-one, sum_on)

-- ---- a list that is changed at the weights above 0: before a place it is h, and from there on g, which are the same between weights
set_here : (xs : List ℕ) (z x : ℕ) → z < length xs → get_or (set xs z x) z 0 ≡ x
set_here xs z x room = get_or-set_at xs z z x 0 refl room

set_other : (xs : List ℕ) (z k x : ℕ) → (k ≡ z → ⊥) → get_or (set xs z x) k 0 ≡ get_or xs k 0
set_other xs z k x other = get_or-set_other xs z k x 0 other

pub filled_more : (f : ℕ → ℕ) (xs : List ℕ) (z x : ℕ) → z < length xs → ((k : ℕ) → k < z → get_or xs k 0 ≡ f k) → x ≡ f z → (k : ℕ)
    → k < z + 1 → get_or (set xs z x) k 0 ≡ f k
filled_more f xs z x room before is k kl = grind (arith, set_here, set_other)

module _ (g h : ℕ → ℕ) (xs : List ℕ) (from : ℕ) (done : (k : ℕ) → k < from → get_or xs k 0 ≡ h k)
    (rest : (k : ℕ) → from ≤ k → get_or xs k 0 ≡ g k) where
  pub all_done : (n : ℕ) → ((k : ℕ) → from ≤ k → k < n → g k ≡ h k) → (k : ℕ) → k < n → get_or xs k 0 ≡ h k
  all_done n same k kl = grind arith

  pub done_more : (z x : ℕ) → z < length xs → ((k : ℕ) → from ≤ k → k < z → g k ≡ h k) → x ≡ h z → (k : ℕ) → k < z + 1
      → get_or (set xs z x) k 0 ≡ h k
  done_more z x room same is = filled_more h xs z x room (all_done z same) is

  pub rest_more : (z x : ℕ) → from ≤ z → (k : ℕ) → z + 1 ≤ k → get_or (set xs z x) k 0 ≡ g k
  rest_more z x fl k l = grind (arith, set_other)

-- no number before a place is above the greatest so far
pub greatest_more : (h : ℕ → ℕ) (from z m n : ℕ) → ((k : ℕ) → k < from → h k ≤ m) → ((k : ℕ) → from ≤ k → k < z → h k ≡ 0) → m ≤ n → h z ≤ n
    → (k : ℕ) → k < z + 1 → h k ≤ n
greatest_more h from z m n before none more here k kl = grind arith

-- ---- a belief within a row
pub step_within : (n : ℕ) (b : Belief) (row : Row) (at : ℕ) (step : Option Step) → (w : IsWithinRow n b row)
    → IsStep w.weights n (Some row) at step → IsStepWithin n b row at step
step_within n b row at None w none = grind arith
step_within n b row at (Some step) w next = grind arith
