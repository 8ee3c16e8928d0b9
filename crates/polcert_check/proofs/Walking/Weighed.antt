-- A row of weights, each times a number, added up: the steps of the sum, and that they fit.
use Rattle.polcert_check.proofs.Common.{cases_lt, common_steps, slice_get-get_or, Cell, after_cells, IsRow, w128, largest, CellTable}
use Rattle.polcert_check.proofs.Common.{IsProper, IsWithinLimits, total_below, most_sum, IsWeighed}
use Rattle.std.proofs.Common.{add-one, ap, inl, inr, ◌⊎◌, ◌-◌, ◌≡◌, ℕ, suc, ◌+◌, ◌*◌, ◌^◌, ◌<◌, ◌≤◌, ℤ, pos, ◌+ℤ◌, ◌*ℤ◌, unsigned_abs}
use Rattle.std.proofs.Common.{FitsSigned, to_z, of_z, arith, lit<, List, length, slice_index_or, Some}
use Rattle.polcert_cells.specs.Cursors.{IsNext}
use Rattle.std.proofs.Math.Nat.{mul-le-mul}
use Rattle.polcert_cells.proofs.RowSteps.{sparse_none, sparse_some}
use Rattle.polcert_check.proofs.Sums.RowTotals.{t_rows, o_rows}
use Rattle.polcert_check.proofs.Sums.Bounds.{abs_part_le, sum_below_upto, term_le}
use Rattle.polcert_check.proofs.Sums.Ring.{linear}
use Rattle.std.proofs.lemmas.Option.{slice_get_past}
use Rattle.polcert_check.proofs.Sums.Scales.{scales_small, ahead_room, after_room}
use Rattle.polcert_check.proofs.Sums.Gaps.{gap, no_weight, cursor_step, weighed_is}

-- the end states of a step, and the observations after one of them
module _ (m : CellTable) (p : IsProper m) (limits : IsWithinLimits m) where
  pub ends_weighed : (a s : ℕ) → a < m.actions → s < m.states → IsWeighed (m.t a s) m.states m.t_scale (m.o_scale * largest)
  ends_weighed a s al sl = record { all = t_rows m p a s al sl; small = (scales_small m limits).0; room = ahead_room m limits }

  pub seen_weighed : (a e : ℕ) → a < m.actions → e < m.states → IsWeighed (m.o a e) m.observations m.o_scale largest
  seen_weighed a e al el = record { all = o_rows m p a e al el; small = (scales_small m limits).1; room = after_room m limits }

pub weight_room : {w : ℕ → ℕ} {count scale b : ℕ} → IsWeighed w count scale b → (i v : ℕ) (y : ℤ) → i < count → v ≡ w i → unsigned_abs y ≤ b
    → v * unsigned_abs y ≤ most_sum
weight_room {w} {count} {scale} {b} row i v y il vi small =
    let q : v * unsigned_abs y ≤ scale * b = mul-le-mul (omega (arith, term_le w i count scale row.all il, vi)) small in
    omega (arith, q, row.room)

pub weight_small : {w : ℕ → ℕ} {count scale b : ℕ} → IsWeighed w count scale b → (i v : ℕ) → i < count → v ≡ w i → v < 2 ^ 63
weight_small {w} {count} {scale} {b} row i v il vi =
    omega (arith, term_le w i count scale row.all il, vi, row.small)

pub part_le : {w : ℕ → ℕ} {count scale b : ℕ} → IsWeighed w count scale b → (f : ℕ → ℤ) → ((i : ℕ) → i < count → unsigned_abs (f i) ≤ b)
    → (i : ℕ) → i ≤ count → unsigned_abs (total_below (λ i. pos (w i) *ℤ f i) i) ≤ scale * b
part_le h1 f h2 i h3 = grind (arith, common_steps, abs_part_le)

-- one weight more
pub weighed_step : {w : ℕ → ℕ} {count scale b : ℕ} → IsWeighed w count scale b → (f : ℕ → ℤ)
    → ((i : ℕ) → i < count → unsigned_abs (f i) ≤ b) → (from i v : ℕ) (sum x y : ℤ) → from ≤ i → i < count → v ≡ w i
    → ((k : ℕ) → from ≤ k → k < i → w k ≡ 0) → sum ≡ total_below (λ i. pos (w i) *ℤ f i) from → FitsSigned w128 x → FitsSigned w128 y
    → x ≡ pos v *ℤ to_z w128 (of_z w128 y) → y ≡ f i → FitsSigned w128 (sum +ℤ to_z w128 (of_z w128 x))
    × (to_z w128 (of_z w128 (sum +ℤ to_z w128 (of_z w128 x))) ≡ total_below (λ i. pos (w i) *ℤ f i) (i + 1))
weighed_step {w} {count} {scale} {b} row f small from i v sum x y fl il vi none before fx fy xe ye =
    cursor_step (λ i. pos (w i) *ℤ f i) (most_sum) from i sum x fl (λ k kl kh. no_weight (w k) (f k) (none k kl kh)) before fx
    (weighed_is v (w i) x y (f i) fy xe vi ye) (omega (arith, (part_le row f small (suc i) (omega arith)), row.room)) (lit< tt)

pub next_weighed : {w : ℕ → ℕ} {count scale b : ℕ} → IsWeighed w count scale b → (f : ℕ → ℤ)
    → ((i : ℕ) → i < count → unsigned_abs (f i) ≤ b) → (from i v : ℕ) (sum x y : ℤ) → IsNext w count from (Some (i, v))
    → sum ≡ total_below (λ i. pos (w i) *ℤ f i) from → FitsSigned w128 x → FitsSigned w128 y
    → x ≡ pos v *ℤ to_z w128 (of_z w128 y) → y ≡ f i → FitsSigned w128 (sum +ℤ to_z w128 (of_z w128 x))
    × (to_z w128 (of_z w128 (sum +ℤ to_z w128 (of_z w128 x))) ≡ total_below (λ i. pos (w i) *ℤ f i) (i + 1))
next_weighed row f small from i v sum x y next = weighed_step row f small from i v sum x y next.0 next.1 next.2 next.4

-- no weight up to a place further on
pub weighed_on : (w : ℕ → ℕ) (f : ℕ → ℤ) (from to : ℕ) (sum : ℤ) → from ≤ to → ((k : ℕ) → from ≤ k → k < to → w k ≡ 0)
    → sum ≡ total_below (λ i. pos (w i) *ℤ f i) from → sum ≡ total_below (λ i. pos (w i) *ℤ f i) to
weighed_on w f from to sum fl none before = grind (arith, gap)

-- the cell of this number is the next of a sparse row
pub next_cell : (w : ℕ → ℕ) (count : ℕ) (cells : List Cell) → IsRow count w cells → (i : ℕ) → i < length cells
    → let x = slice_index_or cells i (record { column = 0; weight = 0 }) in
    IsNext w count (after_cells 0 cells i) (Some (x.column, x.weight)) × (after_cells 0 cells (i + 1) ≡ x.column + 1)
next_cell w count cells row i l = sparse_some w count cells row i _ (slice_get-get_or cells i _ l)

module _ (w : ℕ → ℕ) (count : ℕ) (scale : ℕ) where
  -- ---- what the weights from a place on sum to
  -- while some is left, there is a cell more
  pub more_cells : (cells : List Cell) → IsRow count w cells → total_below (λ i. pos (w i)) count ≡ pos scale
      → (i left : ℕ) → after_cells 0 cells i ≤ count → total_below (λ k. pos (w k)) (after_cells 0 cells i) +ℤ pos left ≡ pos scale
      → 0 < left
      → i < length cells
  more_cells cells row all i left within is some = go (cases_lt i _)
    where
      go : (i < length cells) ⊎ (length cells ≤ i) → i < length cells
      go (inl less) = less
      go (inr past) =
          let none = sparse_none w count cells row i (slice_get_past cells i past) in
          absurd (omega (
            arith,
            linear,
            is,
            all,
            (gap (λ k. pos (w k)) (after_cells 0 cells i) count within
                (λ k kl kh. ap pos (none k kl kh))),
            some,
          ))

  -- one weight less is left
  pub left_step : total_below (λ i. pos (w i)) count ≡ pos scale → (from i v left : ℕ) → from ≤ i → i < count
      → v ≡ w i → ((k : ℕ) → from ≤ k → k < i → w k ≡ 0) → total_below (λ k. pos (w k)) from +ℤ pos left ≡ pos scale
      → (v ≤ left) × (total_below (λ k. pos (w k)) (i + 1) +ℤ pos (left - v) ≡ pos scale)
  left_step all from i v left fl il vi none is =
      let same = gap (λ k. pos (w k)) from i fl (λ k kl kh. ap pos (none k kl kh)) in
      let enough : v ≤ left = omega (arith, linear, same, (sum_below_upto w (suc i) count il), all, is, vi) in
      (enough, rw add-one (omega (arith, linear, same, is, vi, enough)))

  -- if nothing is left, no weight is
  pub nothing_left : total_below (λ i. pos (w i)) count ≡ pos scale → (from : ℕ)
      → total_below (λ k. pos (w k)) from +ℤ pos 0 ≡ pos scale → (k : ℕ) → from ≤ k → k < count → w k ≡ 0
  nothing_left all from is k fl kl =
      omega (arith, linear, all, is, sum_below_upto w from k fl, sum_below_upto w (suc k) count kl)
