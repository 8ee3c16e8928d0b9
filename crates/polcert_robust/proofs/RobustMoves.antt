-- The least constant by which vectors are moved to pass in every model within, and the moved vectors.
use Rattle.std.proofs.Common.{◌≡◌, ℕ, ◌*◌, ◌<◌, ◌≤◌, ◌↔◌, ℤ, pos, neg_ℤ, ◌+ℤ◌, ◌-ℤ◌, Result, Ok, Err, IfOk, FitsSigned, w64}
use Rattle.std.proofs.Common.{sym, subst, arith}
use Rattle.std.proofs.lemmas.Int.{fits_signed_from_abs, ints}
use Rattle.polcert_text.specs.Numbers.{largest}
use Rattle.polcert_cells.specs.Tables.{CellTable, IsProper}
use Rattle.polcert_policy.specs.Graphs.{PolicyGraph, IsProperGraph, nodes}
use Rattle.polcert_policy.specs.Vectors.{AreProperVectors, IsInRange, PolicyVectors, value_of}
use Rattle.polcert_check.specs.Horizon.{Controller, Fits, controller_of}
use Rattle.polcert_check.specs.Lower.{lowered_by}
use Rattle.polcert_check.specs.Raise.{CanRaise, raised_by}
use Rattle.polcert_check.specs.Steps.Mirrored.{raise_of}
use Rattle.polcert_check.specs.Steps.Ranges.{IsClosed}
use Rattle.polcert_check.specs.declared.fault.LowerFault.{LowerFault}
use Rattle.polcert_check.specs.declared.fault.LowerFault.TheVariants as lower
use Rattle.polcert_check.specs.declared.fault.RaiseFault.{RaiseFault}
use Rattle.polcert_check.specs.declared.fault.RaiseFault.TheVariants as raise
use Rattle.polcert_check.proofs.Agreements.Agreeing.{passes_alike}
use Rattle.polcert_check.proofs.Certificates.{value_is_in_range}
use Rattle.polcert_check.proofs.Mirrors.FromAbove.{passes_above, passes_below}
use Rattle.polcert_check.proofs.Sums.Ring.{linear}
use Rattle.polcert_robust.specs.Intervals.{IntervalTable, LiesWithin, around, negated}
use Rattle.polcert_robust.specs.RobustAbove.{PassesAboveInEveryModel}
use Rattle.polcert_robust.specs.RobustLower.{IsLeastLowering, IsLeastRobust, IsLeastRobustConstant}
use Rattle.polcert_robust.specs.RobustLower.{IsNotLoweredRobustly}
use Rattle.polcert_robust.specs.RobustLower.{IsNotMendedRobustly, RefusesToLowerRobustly}
use Rattle.polcert_robust.specs.RobustRaise.{IsLeastRaising, IsLeastRobustAbove, IsLeastRobustRaise}
use Rattle.polcert_robust.specs.RobustRaise.{IsNotRaisedRobustly, RefusesToRaiseRobustly}
use Rattle.polcert_robust.specs.RobustVerdict.{PassesInEveryModel}
use Rattle.polcert_robust.specs.Worst.{IsRobust, negated_values, within_model}
use Rattle.polcert_robust.specs.declared.side.Side.{Side}
use Rattle.polcert_robust.specs.declared.side.Side.TheVariants.{Below, Above}
use Rattle.polcert_robust.specs.Steps.Moves.{CanMoveBy, IsLeastRobustMove}
use Rattle.polcert_robust.specs.Steps.Sides.{turned}
use Rattle.polcert_robust.proofs.Exact.{known}
use Rattle.polcert_robust.proofs.ExactAbove.{robust_above_if}
use Rattle.polcert_robust.proofs.Exactly.{only_then}
use Rattle.polcert_robust.proofs.Horizons.{controller_within, is_for_around, passes_above_within, robust_mirrored}
use Rattle.polcert_robust.proofs.Step.{passes_within}
use Rattle.polcert_robust.specs.declared.distance.Spread.{Spread}

-- ---- the range
turned_in_range : (side : Side) (x : ℤ) → IsInRange x → IsInRange (turned side x)
turned_in_range Below x r = r
turned_in_range Above x r = (omega (arith, ints, r.1), omega (arith, ints, r.1))

pub constant_fits : (side : Side) (v : PolicyVectors) → AreProperVectors v → (by : ℕ) → CanMoveBy side v by → FitsSigned w64 (pos by)
constant_fits side v proper by can =
    let nl : 0 < v.nodes = omega arith in
    let sl : 0 < v.states = omega arith in
    let small : by ≤ 2 * largest = omega (
      arith,
      ints,
      (turned_in_range side _ (value_is_in_range v proper 0 0 nl sl)).0,
      (turned_in_range side _ (value_is_in_range v proper 0 0 nl sl)).1,
      (can 0 0 nl sl).0,
      (can 0 0 nl sl).1,
    ) in
    fits_signed_from_abs w64 _ (omega arith)

range_turned : (x : ℤ) (by : ℕ) → IsInRange (neg_ℤ x +ℤ neg_ℤ (pos by)) ↔ IsInRange (x +ℤ pos by)
range_turned x by = omega (arith, ints)

can_raise : (v : PolicyVectors) (by : ℕ) → CanMoveBy Above v by ↔ CanRaise v by
can_raise v by = (
  (λ h n s nl sl. (range_turned _ by).0 (h n s nl sl)),
  (λ h n s nl sl. (range_turned _ by).1 (h n s nl sl)),
)

-- ---- what is worst from above
turned_sum : (x : ℤ) (by : ℕ) → neg_ℤ x -ℤ pos by ≡ neg_ℤ (x +ℤ pos by)
turned_sum x by = omega (arith, linear)

-- the negated values less `by` are those of the controller plus `by`, negated
same_raised : (c : Controller) (by : ℕ) → lowered_by (negated_values c) by ≡ negated_values (raised_by c by)
same_raised c by = λ j. record (negated_values c) { value = λ n s. turned_sum (c.value n s) by j }

module _ (i : IntervalTable) (c : Controller) where
  least_above : (by : ℕ) → IsLeastRobust (negated i) (negated_values c) by → IsLeastRobustAbove i c by
  least_above by least = (
    subst (IsRobust _) (same_raised c by) least.0,
    λ d l robust. least.1 d l (subst (IsRobust _) (sym (same_raised c d)) robust),
  )

  pub least_raise_is : (v : PolicyVectors) (x : ℤ) → IsLeastRobustMove (negated i) (negated_values c) (CanMoveBy Above v) x
      → IsLeastRobustRaise i c v x
  least_raise_is v x h = (h.0, h.1, least_above h.0 h.2, (can_raise v h.0).0 h.3)

  pub not_raised_is : (v : PolicyVectors) (fault : LowerFault)
      → IsNotMendedRobustly (negated i) (negated_values c) (CanMoveBy Above v) fault
      → IsNotRaisedRobustly i c v (raise_of fault)
  not_raised_is v (lower.NoSuccessor n s z) h = h
  not_raised_is v (lower.NoConstant n s amount) h = (h.0, (λ by robust. h.1 by (subst (IsRobust _) (sym (same_raised c by)) robust)), h.2)
  not_raised_is v lower.OutOfRange h = (h.0, (h.1.0, least_above h.1.0 h.1.1, (λ can. h.1.2 ((can_raise v h.1.0).1 can))))
  not_raised_is v lower.Memory h = absurd h

  -- a reason of the definition is no want of memory
  pub why_not_lowered : (v : PolicyVectors) (fault : LowerFault) → IsNotLoweredRobustly i c v fault → RefusesToLowerRobustly i c v fault
  why_not_lowered v lower.Memory h = absurd h
  why_not_lowered v _ h = h

  pub why_not_raised : (v : PolicyVectors) (fault : RaiseFault) → IsNotRaisedRobustly i c v fault → RefusesToRaiseRobustly i c v fault
  why_not_raised v raise.Memory h = absurd h
  why_not_raised v _ h = h

-- ---- in every model within
pub ok_mapped : {T F : Type 0} (P Q : T → Type 0) → ((x : T) → P x → Q x) → (r : Result T F) → IfOk r P → IfOk r Q
ok_mapped P Q follows (Ok x) h = follows x h
ok_mapped P Q follows (Err e) h = tt

module _ (x : CellTable) (graph : PolicyGraph) (vectors : PolicyVectors) (t_by o_by : Spread) (r_by : ℕ) (t_some : 0 < x.t_scale)
    (o_some : 0 < x.o_scale)
    (proper : IsProper x) (is_graph : IsProperGraph graph) (fits : Fits x graph vectors) where
  abbrev pub intervals : IntervalTable
  intervals = around x t_by o_by r_by

  abbrev pub c : Controller
  c = controller_of x graph vectors

  known_here : (n : ℕ) → n < nodes graph → c.action n < x.actions
  known_here = known x graph _ t_by o_by r_by t_some o_some proper is_graph fits

  pub least_lowering : (v : PolicyVectors) (by : ℤ) → IsLeastRobustConstant intervals c v by → IsLeastLowering intervals c v by
  least_lowering v by (d, is, (robust, less), can) = (
    d,
    is,
    (
      passes_within _ _ t_some o_some known_here robust,
      λ e el passes. less e el (only_then x _ t_by o_by r_by proper known_here (passes 1)),
    ),
    can,
  )

  pub least_raising : (v : PolicyVectors) (by : ℤ) → IsLeastRobustRaise intervals c v by → IsLeastRaising intervals c v by
  least_raising v by (d, is, (robust, less), can) = (
    d,
    is,
    (
      passes_above_within _ _ t_some o_some (let is = is_for_around x graph vectors t_by o_by r_by is_graph fits in
          record {
            actions = is.actions;
            observations = is.observations;
            closed = record { actions_in_range = is.closed.actions_in_range; next_in_range = is.closed.next_in_range };
          })
          (robust_mirrored _ _ robust),
      λ e el passes. less e el (robust_above_if x t_by o_by r_by _ proper known_here passes),
    ),
    can,
  )

  -- ---- the moved vectors
  closed_within : (parts : ℕ) (m : CellTable) → LiesWithin intervals parts m → IsClosed (within_model c parts m)
  closed_within parts m lies = (controller_within _ c (is_for_around x graph _ t_by o_by r_by is_graph fits) parts m lies).closed

  -- the values of other vectors are these, moved
  abbrev pub Moved : PolicyVectors → ℤ → Type 0
  Moved w by = (n s : ℕ) → n < vectors.nodes → s < vectors.states → value_of w n s ≡ value_of vectors n s +ℤ by

  pub lowered_passes : (w : PolicyVectors) (by : ℕ) → PassesInEveryModel intervals (lowered_by c by) → Moved w (neg_ℤ (pos by))
      → PassesInEveryModel intervals (controller_of x graph w)
  lowered_passes w by passes moved parts m lies =
      let closed = closed_within parts m lies in
      passes_alike _
      (record { actions_in_range = closed.actions_in_range; next_in_range = closed.next_in_range }) _
      (λ n s nl sl. cc (moved n s (omega arith) (omega arith)))
      (passes parts m lies)

  pub raised_passes : (w : PolicyVectors) (by : ℕ) → PassesAboveInEveryModel intervals (raised_by c by) → Moved w (pos by)
      → PassesAboveInEveryModel intervals (controller_of x graph w)
  raised_passes w by passes moved parts m lies =
      let closed = closed_within parts m lies in
      passes_above _
      (passes_alike _
      (record { actions_in_range = closed.actions_in_range; next_in_range = closed.next_in_range })
      _
      (λ n s nl sl. cc (moved n s (omega arith) (omega arith)))
      (passes_below _ (passes parts m lies)))
