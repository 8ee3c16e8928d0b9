-- What raising every value of a set of points does to what a check of them finds.
use Rattle.std.proofs.Common.{◌≡◌, ℕ, ◌-◌, ◌≤◌, ℤ, pos, ◌+ℤ◌, refl, arith, rules}
use Rattle.std.specs.Prelude.{unsigned_abs}
use Rattle.polcert_points.proofs.Common.{CellTable, IsProper, one}
use Rattle.polcert_text.specs.Numbers.{largest}
use Rattle.polcert_policy.specs.Points.{PointValues}
use Rattle.polcert_policy.specs.Points as sets
use Rattle.polcert_policy.specs.Vectors.{IsInRange}
use Rattle.polcert_points_form.specs.RaisedSet.{raised_set, HasAllValues, CanRaisePoints}
use Rattle.polcert_points_form.proofs.RaisedSets.{value_raised}
use Rattle.polcert_points.specs.PointTable.{IsProperPointTable, FitPoints, table_of_set}
use Rattle.polcert_points.specs.PointVerdict.{IsPointVerdict}
use Rattle.polcert_points.specs.RaisedPoints.{PassRaised}
use Rattle.polcert_points.specs.declared.point_verdict.PointVerdict.{PointVerdict}
use Rattle.polcert_points.specs.declared.point_verdict.PointVerdict.TheVariants.{Yes, Exceeded}
use Rattle.polcert_points.proofs.RaisingPoints.{not_exceeded}

in_size : (h : ℤ) → IsInRange h → unsigned_abs h ≤ largest
in_size h r = grind arith

-- no constant that leaves a value in range is larger
pub room_small : (h : ℤ) (by : ℕ) → unsigned_abs h ≤ largest → IsInRange (h +ℤ pos by) → by ≤ 20000000000000
room_small h by small r = grind arith

raised_more : (h x y : ℤ) (d by : ℕ) → d ≤ by → x ≡ h +ℤ pos d → y ≡ h +ℤ pos by → y ≡ x +ℤ pos (by - d)
raised_more h x y d by l is_x is_y = grind arith

module _ (p : PointValues) (all : HasAllValues p) (proper : sets.AreProperPoints p) where
  pub proper_raised : (by : ℕ) → CanRaisePoints p by → IsProperPointTable (table_of_set (raised_set p by))
  proper_raised by can = grind (arith, value_raised, in_size)

  module _ (t : CellTable) (m : IsProper t) (less : t.discount ≤ one) (vectors : ℕ → ℕ → ℤ) (fit : FitPoints t (table_of_set p)) where
    -- what doesn't pass raised by a constant doesn't pass raised by less
    pub fails_below : (by d i a : ℕ) (amount : ℤ) → d ≤ by → CanRaisePoints p by
        → IsPointVerdict t vectors (table_of_set (raised_set p by)) (Exceeded i a amount) → PassRaised t vectors p d → ⊥
    fails_below by d i a amount l can exceeded passes =
        not_exceeded t m less _ _
        (record { states = fit.states; actions = fit.actions; observations = fit.observations })
        (proper_raised d (grind arith)) _ _
        (λ j b jl bl. raised_more _ _ _ d by l
        (value_raised p all d j b jl bl) (value_raised p all by j b jl bl))
        i a _ passes exceeded

    pub yes_above : (by d : ℕ) → d ≤ by → CanRaisePoints p by → PassRaised t vectors p d → (verdict : PointVerdict)
        → IsPointVerdict t vectors (table_of_set (raised_set p by)) verdict → verdict ≡ Yes
    yes_above by d l can passes Yes is = refl
    yes_above by d l can passes (Exceeded i a amount) is = search (rules, fails_below)
