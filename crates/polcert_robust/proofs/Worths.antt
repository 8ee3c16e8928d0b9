-- What a step is worth at least, and how large means of it can get.
use Rattle.std.proofs.Common.{◌≡◌, ℕ, ◌*◌, ◌^◌, ◌<◌, ◌≤◌, ℤ, pos, ◌+ℤ◌, ◌-ℤ◌, ◌*ℤ◌, Option, Some, unsigned_abs, refl, arith}
use Rattle.polcert_text.specs.Numbers.{largest}
use Rattle.polcert_cells.specs.Tables.{CellTable, IsWithinLimits}
use Rattle.polcert_check.specs.Horizon.{one}
use Rattle.polcert_check.specs.Shortfall.{at_node}
use Rattle.polcert_check.proofs.Sums.Bounds.{abs-+ℤ, abs-*ℤ_le}
use Rattle.polcert_check.proofs.Sums.Ring.{linear, *ℤ_left_comm}
use Rattle.std.proofs.lemmas.Int.{ints}
use Rattle.polcert_robust.proofs.Rows.{pos_product}
use Rattle.polcert_check.proofs.Sums.Scales.{scales_le}
use Rattle.polcert_robust.specs.declared.side.Side.{Side}
use Rattle.polcert_robust.specs.declared.side.Side.TheVariants.{Below, Above}
use Rattle.polcert_robust.specs.Steps.Pairs.{most_scales, most_worth}
use Rattle.polcert_robust.specs.Steps.Sides.{least_end, turned}
use Rattle.polcert_robust.proofs.Levels.{less_times}

pub worth_is : (reward least value a b : ℤ) (by d : ℕ) → least ≡ reward -ℤ pos by → a ≡ pos 1000000 *ℤ least → b ≡ pos d *ℤ value
    → a +ℤ b ≡ pos one *ℤ (reward -ℤ pos by) +ℤ pos d *ℤ value
unfolding one
worth_is reward least value a b by d e h k = rw (h, k, e) refl

pub worth_small : (least value a b : ℤ) (d : ℕ) → unsigned_abs least ≤ 11000000000000 → d ≤ 1000000 → unsigned_abs value ≤ largest
    → a ≡ pos 1000000 *ℤ least → b ≡ pos d *ℤ value → unsigned_abs (a +ℤ b) ≤ most_worth
worth_small least value a b d small few low h k =
    rw (h, k) (omega (
      arith,
      abs-+ℤ (pos 1000000 *ℤ least) (pos d *ℤ value),
      abs-*ℤ_le (pos 1000000) least 1000000 11000000000000 (omega arith) small,
      abs-*ℤ_le (pos d) value 1000000 largest few low,
    ))

-- the least reward from one side
pub least_turned : (side : Side) (r : ℤ) (by : ℕ) → turned side r -ℤ pos by ≡ least_end side (r -ℤ pos by) (r +ℤ pos by)
least_turned Below r by = refl
least_turned Above r by = omega (arith, linear)

pub step_is : (at : Option ℕ) (m : ℕ) (worth : ℤ) (f : ℕ → ℤ) → at ≡ Some m → worth ≡ f m → worth ≡ at_node f at
step_is at m worth f e is = rw e is

-- ---- scales
pub t_scale_small : (m : CellTable) → IsWithinLimits m → m.t_scale ≤ 10000000000
unfolding one
t_scale_small m limits = omega arith

pub o_scale_small : (m : CellTable) → IsWithinLimits m → m.o_scale ≤ 10000000000
unfolding one
o_scale_small m limits = omega arith

pub backing_small : (m : CellTable) → IsWithinLimits m → m.t_scale * (m.o_scale * most_worth) ≤ most_scales * most_worth
backing_small m limits = omega (arith, less_times (m.t_scale * m.o_scale) most_scales most_worth (scales_le m limits))

-- ---- the value's side
pub scaled_value : (q : ℕ) (v a b : ℤ) → a ≡ pos q *ℤ v → b ≡ pos 1000000 *ℤ a → b ≡ pos (q * one) *ℤ v
unfolding one
scaled_value q v a b h k = cc (k, h, *ℤ_left_comm (pos 1000000) (pos q) v, pos_product q 1000000 v)

pub scaled_small : (q : ℕ) (v a b : ℤ) → q ≤ most_scales → unsigned_abs v ≤ largest → a ≡ pos q *ℤ v → b ≡ pos 1000000 *ℤ a
    → unsigned_abs b ≤ most_scales * 1000000 * largest
scaled_small q v a b few small h k =
    rw k (omega (
      arith,
      abs-*ℤ_le (pos 1000000) a 1000000 (most_scales * largest) (omega arith) (rw h (abs-*ℤ_le (pos q) v most_scales largest few small)),
    ))

pub difference_small : (b w : ℤ) → unsigned_abs b ≤ most_scales * 1000000 * largest → unsigned_abs w ≤ most_scales * most_worth
    → unsigned_abs (b -ℤ w) < 2 ^ 127
difference_small b w h k = omega (arith, ints, h, k)
