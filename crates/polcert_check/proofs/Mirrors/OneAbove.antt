-- A check from above has one verdict, raising one outcome, and a start one most: each is that of the mirror image from below.
use Rattle.std.proofs.Common.{◌≡◌, ℕ, ℤ, neg_ℤ, arith, rules}
use Rattle.polcert_check.proofs.Common.{Meaning, PolicyVectors, AboveVerdict, RaiseFault, Above, IsAboveVerdict, Controller, mirrored}
use Rattle.polcert_check.proofs.Common.{CanMove, IsLeastRaise, IsNotRaised, IsStartMost, IsCeilQuotient}
use Rattle.polcert_check.proofs.Mirrors.FromAbove.{verdict_below}
use Rattle.polcert_check.proofs.Agreements.OneAnswer.{one_verdict, one_move, one_fault, move_or_fault, one_quotient}
use Rattle.polcert_check.proofs.Lowerings.Raising.{lower_of, least_move_is, not_mended_is}
use Rattle.polcert_check.proofs.Sums.Ring.{linear}
use Rattle.polcert_check.proofs.Mirrors.StartMosts.{floor_is_neg}

pub one_above_verdict : (c : Controller) (x y : AboveVerdict) → IsAboveVerdict c x → IsAboveVerdict c y → x ≡ y
one_above_verdict c x y is also = grind (arith, verdict_below, one_verdict)

module _ (c : Controller) (v : PolicyVectors) where
  pub one_raise : (x y : ℤ) → IsLeastRaise c v x → IsLeastRaise c v y → x ≡ y
  one_raise x y is also = one_move (mirrored c) (CanMove Above v) x y (least_move_is c v x is) (least_move_is c v y also)

  pub one_raise_reason : (f g : RaiseFault) → IsNotRaised c v f → IsNotRaised c v g → f ≡ g
  one_raise_reason f g is also = grind (arith, one_fault, not_mended_is)

  -- not both a constant and a reason why there is none
  pub raise_or_reason : (x : ℤ) (f : RaiseFault) → IsLeastRaise c v x → IsNotRaised c v f → ⊥
  raise_or_reason x f is refused = move_or_fault (mirrored c) (CanMove Above v) x (lower_of f) (least_move_is c v x is)
      (not_mended_is c v f refused)

-- ---- the start
same_negatives : (x y : ℤ) → neg_ℤ x ≡ neg_ℤ y → x ≡ y
same_negatives x y e = omega (arith, linear)

one_ceil : (sum : ℤ) (total : ℕ) (x y : ℤ) → IsCeilQuotient sum total x → IsCeilQuotient sum total y → x ≡ y
one_ceil sum total x y is also = same_negatives x y
    (one_quotient (neg_ℤ sum) total (neg_ℤ x) (neg_ℤ y) (floor_is_neg sum total x is) (floor_is_neg sum total y also))

pub one_start_most : (m : Meaning) (v : PolicyVectors) (x y : ℤ) → IsStartMost m v x → IsStartMost m v y → x ≡ y
one_start_most m v x y is also = search (rules, one_ceil)
