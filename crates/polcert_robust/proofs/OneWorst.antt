-- A pair has one worst case.
use Rattle.std.proofs.Common.{◌≡◌, ℕ, ◌<◌, ℤ, pos, ◌-ℤ◌, ◌*ℤ◌, ◌≤ℤ◌, inl, ap, ◌∙◌, arith}
use Rattle.polcert_check.specs.Horizon.{Controller}
use Rattle.polcert_check.proofs.Sums.Ring.{linear}
use Rattle.polcert_check.proofs.Sums.SumLaws.{sum_below_same}
use Rattle.polcert_robust.specs.Intervals.{IntervalTable}
use Rattle.polcert_robust.specs.Worst.{IsWorstRow, IsWorstStep, mean, least_step_worth, worst_backing}
use Rattle.polcert_robust.proofs.Lowered.{lowered_row}
use Rattle.polcert_robust.proofs.Refuting.{worst_within}
use Rattle.polcert_robust.proofs.Rows.{le_cancel, worst_row_is_least}

mean_at_most : (low high : ℕ → ℕ) (scale count : ℕ) (x : ℕ → ℤ) (row other : ℕ → ℕ) → 0 < scale → IsWorstRow low high scale count x row
    → IsWorstRow low high scale count x other
    → mean row x count ≤ℤ mean other x count
mean_at_most low high scale count x row other some worst worst_too =
    let within = worst_within low high scale count x other worst_too in
    le_cancel scale _ _ some
    (worst_row_is_least low high scale count x row worst other scale within.1 within.0)

pub one_mean : (low high : ℕ → ℕ) (scale count : ℕ) (x : ℕ → ℤ) (row other : ℕ → ℕ) → 0 < scale → IsWorstRow low high scale count x row
    → IsWorstRow low high scale count x other
    → mean row x count ≡ mean other x count
one_mean low high scale count x row other some worst worst_too =
    omega (
      arith,
      linear,
      mean_at_most low high scale count x row other some worst worst_too,
      mean_at_most low high scale count x other row some worst_too worst,
    )

no_less : (x y : ℤ) → x ≡ y → x ≡ y -ℤ pos 0
no_less x y e = omega (arith, linear)

pub one_worst : (i : IntervalTable) (c : Controller) (n s : ℕ) → 0 < i.t_scale → 0 < i.o_scale → (seen : ℕ → ℕ → ℕ) (ends : ℕ → ℕ)
    → IsWorstStep i c n s seen ends
    → (seen_too : ℕ → ℕ → ℕ) (ends_too : ℕ → ℕ) → IsWorstStep i c n s seen_too ends_too
    → worst_backing i c n s seen ends ≡ worst_backing i c n s seen_too ends_too
one_worst i c n s t_some o_some seen ends worst seen_too ends_too worst_too =
    one_mean _ _ _ _ x ends _ t_some worst.ends_worst
    (lowered_row _ _ _ _ y _ worst_too.ends_worst (pos 0) x
    (λ e el. inl (no_less (x e) (y e) (same e el))))
    ∙ sum_below_same _ _ _
    (λ e el. ap (λ (v : ℤ). pos (ends_too e) *ℤ v) (same e el))
  where
    x : ℕ → ℤ
    x e = mean (seen e) (least_step_worth i c n s e) i.observations

    y : ℕ → ℤ
    y e = mean (seen_too e) (least_step_worth i c n s e) i.observations

    same : (e : ℕ) → e < i.states → x e ≡ y e
    same e el = one_mean _ _ _ _ _ _ _ o_some (worst.seen_worst e el) (worst_too.seen_worst e el)
