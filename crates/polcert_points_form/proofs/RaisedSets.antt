-- What raising every value of a set of points does to its values.
use Rattle.std.proofs.Common.{◌≡◌, ◌∙◌, ⊎_elim, ℕ, ◌+◌, ◌*◌, ◌<◌, ◌≤◌, ℤ, pos, ◌+ℤ◌, ◌-ℤ◌, length, map, sym, ap, subst, arith}
use Rattle.std.specs.Prelude.{unsigned_abs, option_map}
use Rattle.std.proofs.lemmas.Int.{ints}
use Rattle.std.proofs.lemmas.Option.{get_or_from_slice_get, slice_get-get_or, slice_get-map}
use Rattle.std.proofs.lemmas.Bool.{cases_lt}
use Rattle.polcert_text.specs.Numbers.{largest}
use Rattle.polcert_policy.specs.Points.{PointValues, AreProperPoints, point_count, value_at}
use Rattle.polcert_policy.specs.Vectors.{IsInRange}
use Rattle.polcert_policy.proofs.Places.{place_inside}
use Rattle.polcert_points_form.specs.RaisedSet.{raised_set, HasAllValues, CanRaisePoints}

pub raised_less : (h : ℤ) (by d : ℕ) → unsigned_abs h ≤ largest → d ≤ by → IsInRange (h +ℤ pos by) → IsInRange (h +ℤ pos d)
raised_less h by d small l r = (omega (arith, ints, small), omega (arith, ints, l, r.1))

module _ (p : PointValues) where
  pub value_raised : HasAllValues p → (by i a : ℕ) → i < point_count p → a < p.actions
      → value_at (raised_set p by) i a ≡ value_at p i a +ℤ pos by
  value_raised all by i a il al =
      let k : ℕ = i * p.actions + a in
      let inside : k < length p.values = subst (λ (n : ℕ). k < n) (sym all) (place_inside p.actions i a (point_count p) il al) in
      get_or_from_slice_get (map (λ h. h +ℤ pos by) p.values) k (value_at p i a +ℤ pos by) (pos 0)
      (slice_get-map (λ h. h +ℤ pos by) p.values k ∙ ap (option_map (λ h. h +ℤ pos by)) (slice_get-get_or p.values k (pos 0) inside))

  pub can_raise_less : AreProperPoints p → (by d : ℕ) → d ≤ by → CanRaisePoints p by → CanRaisePoints p d
  can_raise_less proper by d l can i a il al = raised_less (value_at p i a) by d (proper.values i a il al) l (can i a il al)

-- ---- the greatest constant
pub within_gap : (h : ℤ) (gap by : ℕ) → IsInRange h → pos gap ≡ pos 10000000000000 -ℤ h → by ≤ gap → IsInRange (h +ℤ pos by)
within_gap h gap by r is l = (omega (arith, ints, r.0), omega (arith, ints, is, l))

pub gap_greatest : (h : ℤ) (gap by : ℕ) → pos gap ≡ pos 10000000000000 -ℤ h → IsInRange (h +ℤ pos by) → by ≤ gap
gap_greatest h gap by is r = omega (arith, ints, is, r.1)

-- what holds before a place and there, holds before the next place
pub up_to : (P : ℕ → Type 0) (k : ℕ) → ((j : ℕ) → j < k → P j) → P k → (j : ℕ) → j < k + 1 → P j
up_to P k before here j l = ⊎_elim (λ (h : j < k). before j h) (λ (h : k ≤ j). let e : k ≡ j = omega (arith, l, h) in subst P e here)
    (cases_lt j k)
