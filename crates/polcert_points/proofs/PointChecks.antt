-- The covers that a file means are covers, and there is one alone.
use Rattle.std.proofs.Common.{◌≡◌, ℕ, ◌<◌, ℤ, pos, ◌≤ℤ◌, Option, Some, None, arith, rules}
use Rattle.std.proofs.Math.Nat.{mul-le-mul_right, le_trans}
use Rattle.polcert_points.proofs.Common.{cases_lt, one, CellTable}
use Rattle.polcert_points.specs.Belief.{Belief, updated_belief}
use Rattle.polcert_points.specs.Points.{Points, Cover, IsCover, Covers}
use Rattle.polcert_points.specs.PointCheck.{IsMostTimes, IsCoverBy, Next, IsKnown, AreCoversBy, IsRoundedUp}

module _ (t : CellTable) (points : Points) where
  pub is_cover : (b : Belief) (next : Option ℕ) (cover : Cover)
      → ((j : ℕ) → next ≡ Some j → j < points.count) → IsCoverBy t points b next cover → IsCover t points b cover
  is_cover b None cover known is = rw is tt
  is_cover b (Some j) cover known is = rw is.2 (search rules)

  pub are_covers : (next : Next) (covers : Covers) → IsKnown t points next
      → AreCoversBy t points next covers
      → (i a z : ℕ) → i < points.count → a < t.actions → z < t.observations
      → IsCover t points (updated_belief t (points.belief i) a z) (covers i a z)
  are_covers next covers known are i a z il al zl = grind arith

-- ---- one number of times alone
no_more : (states : ℕ) (b point : Belief) (m n : ℕ) → IsMostTimes states b point m → IsMostTimes states b point n → m < n → ⊥
no_more states b point m n first second l = grind (arith, le_trans, mul-le-mul_right)

pub one_times : (states : ℕ) (b point : Belief) (m n : ℕ) → IsMostTimes states b point m → IsMostTimes states b point n → m ≡ n
one_times states b point m n first second = grind (arith, no_more, cases_lt)

pub one_cover : (t : CellTable) (points : Points) (b : Belief) (next : Option ℕ) (x y : Cover) → IsCoverBy t points b next x
    → IsCoverBy t points b next y → x ≡ y
one_cover t points b None x y first second = cc
one_cover t points b (Some j) x y first second = grind (arith, one_times)

-- ---- an excess in parts of one, rounded up, has the sign of the excess
pub rounded_sign : (y x : ℤ) → IsRoundedUp y x → (x ≤ℤ pos 0 → y ≤ℤ pos 0) × (y ≤ℤ pos 0 → x ≤ℤ pos 0)
unfolding one
rounded_sign y x is = grind arith
  where
    not_above : (x : ℤ) → (pos 1 ≤ℤ x → ⊥) → x ≤ℤ pos 0
    not_above x none = grind arith
