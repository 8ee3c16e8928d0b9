-- What lowers the mirror image raises the controller.
use Rattle.std.proofs.Common.{◌≡◌, ◌↔◌, ℕ, ◌<◌, ℤ, pos, neg_ℤ, ◌+ℤ◌, ◌-ℤ◌, sym, ap, subst, arith}
use Rattle.polcert_check.proofs.Common.{ints, CellTable, PolicyGraph, PolicyVectors, IsInRange, value_of, Controller, controller_of, Passes}
use Rattle.polcert_check.proofs.Common.{IsController, lowered_by, IsLeast, IsFirstShort, IsNotMended, RefusesSmallAmount, PassesAbove}
use Rattle.polcert_check.proofs.Common.{IsNotRaised, IsLeastRaise, LowerFault, RaiseFault, Above, mirrored, CanMove, IsLeastMove}
use Rattle.polcert_check.specs.Horizon.{Fits}
use Rattle.polcert_check.specs.Raise.{raised_by, IsLeastAbove, CanRaise, IsFirstLong, RefusesSmallRaise}
use Rattle.polcert_check.specs.Steps.Mirrored.{raise_of}
use Rattle.polcert_check.specs.declared.fault.LowerFault.TheVariants as lower
use Rattle.polcert_check.specs.declared.fault.RaiseFault.TheVariants as raise
use Rattle.polcert_check.proofs.Sums.Ring.{linear}
use Rattle.polcert_check.proofs.Mirrors.Mirrored.{mirrored_short}
use Rattle.polcert_check.proofs.Mirrors.FromAbove.{turn_short, passes_above, passes_below}
use Rattle.polcert_check.proofs.Agreements.Agreeing.{passes_alike}

turned_sum : (x : ℤ) (by : ℕ) → neg_ℤ x -ℤ pos by ≡ neg_ℤ (x +ℤ pos by)
turned_sum x by = omega (arith, linear)

module _ (c : Controller) where
  -- the mirror image less `by` is that of the controller plus `by`
  same_moved : (by : ℕ) → lowered_by (mirrored c) by ≡ mirrored (raised_by c by)
  same_moved by = λ i. record (mirrored c) { value = λ n s. turned_sum (c.value n s) by i }

  passes_moved : (by : ℕ) → Passes (lowered_by (mirrored c) by) ↔ PassesAbove (raised_by c by)
  passes_moved by = (
    (λ h. passes_above _ (subst Passes (same_moved by) h)),
    (λ h. subst Passes (sym (same_moved by))
        (passes_below _ h)),
  )

  least_moved : (by : ℕ) → IsLeast (mirrored c) by ↔ IsLeastAbove c by
  least_moved by = (
    (λ h. ((passes_moved by).0 h.0, λ d l p. h.1 d l ((passes_moved d).1 p))),
    (λ h. ((passes_moved by).1 h.0, λ d l p. h.1 d l ((passes_moved d).0 p))),
  )

-- ---- the range
range_turned : (x : ℤ) (by : ℕ) → IsInRange (neg_ℤ x +ℤ neg_ℤ (pos by)) ↔ IsInRange (x +ℤ pos by)
range_turned x by = omega (arith, ints)

can_raise : (v : PolicyVectors) (by : ℕ) → CanMove Above v by ↔ CanRaise v by
can_raise v by = (
  (λ h n s nl sl. (range_turned (value_of v n s) by).0 (h n s nl sl)),
  (λ h n s nl sl. (range_turned (value_of v n s) by).1
      (h n s nl sl)),
)

module _ (c : Controller) where
  -- ---- what is answered
  pub least_raise_is : (v : PolicyVectors) (x : ℤ) → IsLeastMove (mirrored c) (CanMove Above v) x → IsLeastRaise c v x
  least_raise_is v x h = (h.0, h.1, (least_moved c h.0).0 h.2, (can_raise v h.0).0 h.3)

  pub least_move_is : (v : PolicyVectors) (x : ℤ) → IsLeastRaise c v x → IsLeastMove (mirrored c) (CanMove Above v) x
  least_move_is v x h = (h.0, h.1, (least_moved c h.0).1 h.2, (can_raise v h.0).1 h.3)

  first_long : (n s : ℕ) (amount : ℤ) → IsFirstShort (mirrored c) n s amount → IsFirstLong c n s amount
  first_long n s amount h = grind (arith, mirrored_short, turn_short)

  first_short : (n s : ℕ) (amount : ℤ) → IsFirstLong c n s amount → IsFirstShort (mirrored c) n s amount
  first_short n s amount h = grind (arith, linear, mirrored_short)

  pub not_raised_is : (v : PolicyVectors) (fault : LowerFault) → IsNotMended (mirrored c) (CanMove Above v) fault
      → IsNotRaised c v (raise_of fault)
  not_raised_is v (lower.NoConstant n s amount) h = (h.0, (λ by p. h.1 by ((passes_moved c by).1 p)), first_long n s amount h.2)
  not_raised_is v lower.OutOfRange h = (h.0, (h.1.0, (least_moved c h.1.0).0 h.1.1, (λ can. h.1.2 ((can_raise v h.1.0).1 can))))
  not_raised_is v _ h = h

-- the refusal to lower the mirror image that says this from above
abbrev pub lower_of : RaiseFault → LowerFault
lower_of (raise.NoSuccessor n s z) = lower.NoSuccessor n s z
lower_of (raise.NoConstant n s amount) = lower.NoConstant n s amount
lower_of raise.OutOfRange = lower.OutOfRange
lower_of raise.Memory = lower.Memory

pub raise_again : (fault : RaiseFault) → raise_of (lower_of fault) ≡ fault
raise_again fault = grind arith

module _ (c : Controller) where
  pub not_mended_is : (v : PolicyVectors) (fault : RaiseFault) → IsNotRaised c v fault
      → IsNotMended (mirrored c) (CanMove Above v) (lower_of fault)
  not_mended_is v (raise.NoConstant n s amount) h = (h.0, (λ by p. h.1 by ((passes_moved c by).0 p)), first_short c n s amount h.2)
  not_mended_is v raise.OutOfRange h = (h.0, (h.1.0, (least_moved c h.1.0).1 h.1.1, (λ can. h.1.2 ((can_raise v h.1.0).0 can))))
  not_mended_is v _ h = h

  pub small_raise : (fault : LowerFault) → RefusesSmallAmount (mirrored c) fault → RefusesSmallRaise c (raise_of fault)
  small_raise fault h1 = grind arith

-- ---- the raised vectors
pub raised_passes : (t : CellTable) (g : PolicyGraph) (v w : PolicyVectors) → Fits t g v → IsController (controller_of t g v) → (by : ℕ)
    → PassesAbove (raised_by (controller_of t g v) by)
    → ((n s : ℕ) → n < v.nodes → s < v.states → value_of w n s ≡ value_of v n s +ℤ pos by) → PassesAbove (controller_of t g w)
raised_passes t g v w fits p by passes shifted =
    let c = raised_by (controller_of t g v) by in
    passes_above _
    (passes_alike _ (record { actions_in_range = p.closed.actions_in_range; next_in_range = p.closed.next_in_range })
    _
    (λ n s nl sl. ap neg_ℤ (shifted n s (omega (arith, nl, fits.nodes_same)) (omega (arith, sl, fits.states)))) (passes_below c passes))
