-- Lowering every vector by one constant lowers what is worst by the scale, the discount and the constant.
use Rattle.std.proofs.Common.{◌≡◌, ℕ, ◌*◌, ◌<◌, ◌≤◌, ◌⊎◌, inl, inr, ⊎_elim, ℤ, pos, ◌+ℤ◌, ◌-ℤ◌, ◌*ℤ◌, Option, Some, None, refl, sym, ap}
use Rattle.std.proofs.Common.{◌∙◌, arith}
use Rattle.std.proofs.Math.IntN.{zero-*ℤ}
use Rattle.std.proofs.lemmas.Bool.{cases_lt}
use Rattle.polcert_check.specs.Horizon.{Controller, one}
use Rattle.polcert_check.specs.Lower.{lowered_by}
use Rattle.polcert_check.specs.Shortfall.{at_node}
use Rattle.polcert_check.proofs.Sums.Ring.{linear}
use Rattle.polcert_check.proofs.Sums.SumLaws.{sum_below_same}
use Rattle.polcert_robust.specs.Intervals.{IntervalTable}
use Rattle.polcert_robust.specs.Worst.{IsWorstRow, IsWorstStep, MayLack, mean, least_step_worth, worst_backing}
use Rattle.polcert_robust.proofs.Rows.{centered, times_less}
use Rattle.polcert_robust.proofs.Step.{some_product}
use Rattle.polcert_robust.proofs.Found.{sum_le, found}

-- ---- a row
-- each value is lowered by d, or its weight is 0
abbrev pub AreLowered : (ℕ → ℕ) → ℕ → (ℕ → ℤ) → ℤ → (ℕ → ℤ) → Type 0
AreLowered high count x d y = (j : ℕ) → j < count → (y j ≡ x j -ℤ d) ⊎ (high j ≡ 0)

pub lowered_row : (low high : ℕ → ℕ) (scale count : ℕ) (x : ℕ → ℤ) (row : ℕ → ℕ) → IsWorstRow low high scale count x row
    → (d : ℤ) (y : ℕ → ℤ) → AreLowered high count x d y
    → IsWorstRow low high scale count y row
lowered_row low high scale count x row worst d y lowered = record {
  sums = worst.sums;
  from = worst.from;
  to = worst.to;
  level = worst.level -ℤ d;
  below = λ j l less. ⊎_elim (λ (e : y j ≡ x j -ℤ d). worst.below j l (omega (arith, linear))) (λ (e : high j ≡ 0). omega arith)
      (lowered j l);
  above = λ j l less. ⊎_elim (λ (e : y j ≡ x j -ℤ d). worst.above j l (omega (arith, linear))) (λ (e : high j ≡ 0). omega arith)
      (lowered j l);
}

pub no_weight : (w : ℕ) (x y : ℤ) → w ≡ 0 → pos w *ℤ x ≡ pos w *ℤ y
no_weight w x y e = rw e (zero-*ℤ x ∙ sym (zero-*ℤ y))

pub lowered_mean : (low high : ℕ → ℕ) (scale count : ℕ) (x : ℕ → ℤ) (row : ℕ → ℕ) → IsWorstRow low high scale count x row
    → (d : ℤ) (y : ℕ → ℤ)
    → AreLowered high count x d y
    → mean row y count ≡ mean row x count -ℤ pos scale *ℤ d
lowered_mean low high scale count x row worst d y lowered =
    cc (
      sum_below_same _ _ count (λ j l. ⊎_elim (λ (e : y j ≡ x j -ℤ d). ap (λ (z : ℤ). pos (row j) *ℤ z) e)
          (λ (e : high j ≡ 0). no_weight _ (y j) _ (omega arith)) (lowered j l)),
      centered row x d count,
      worst.sums,
    )

-- ---- what a step is worth
pub none_or_some : (P : Option ℕ → Type 0) (at : Option ℕ) → P None → ((k : ℕ) → P (Some k)) → P at
none_or_some P None h k = h
none_or_some P (Some n) h k = k n

no_high : (t o : ℕ) → 0 < t → (0 < t * o → ⊥) → o ≡ 0
no_high t o some none = ⊎_elim (λ (l : 0 < o). absurd (none (some_product t o some l))) (omega arith) (cases_lt 0 o)

pub lowered_step : (i : IntervalTable) (c : Controller) (n s by : ℕ) → ((z : ℕ) → z < i.observations → MayLack i c n s z → ⊥)
    → (seen : ℕ → ℕ → ℕ) (ends : ℕ → ℕ) → IsWorstStep i c n s seen ends
    → (lowered_seen : ℕ → ℕ → ℕ) × IsWorstStep i (lowered_by c by) n s lowered_seen ends
    × (worst_backing i (lowered_by c by) n s lowered_seen ends ≡ worst_backing i c n s seen ends -ℤ pos i.t_scale
    *ℤ (pos i.o_scale *ℤ (pos i.discount *ℤ pos by)))
lowered_step i c n s by lacks_none seen ends worst = (
  _,
  record {
    seen_worst = λ e el. (seen_is e el _).0;
    ends_worst = lowered_row _ _ _ _ x ends worst.ends_worst (pos _ *ℤ d) y end_lowered;
  },
  lowered_mean _ _ _ _ x ends worst.ends_worst (pos _ *ℤ d) y end_lowered,
)
  where
    a : ℕ
    a = c.action n

    d : ℤ
    d = pos i.discount *ℤ pos by

    w : ℕ → ℕ → ℤ
    w e z = least_step_worth i c n s e z

    u : ℕ → ℕ → ℤ
    u e z = least_step_worth i (lowered_by c by) n s e z

    Of : ℕ → (ℕ → ℕ) → Type 0
    Of e row = IsWorstRow (i.o_low a e) (i.o_high a e) i.o_scale i.observations (u e) row
        × ((mean row (u e) i.observations ≡ mean (seen e) (w e) i.observations -ℤ pos i.o_scale *ℤ d) ⊎ (i.t_high a s e ≡ 0))

    -- where the end state can be reached, each observation has a successor or no weight
    seen_lowered : (e : ℕ) → e < i.states → 0 < i.t_high a s e → AreLowered (i.o_high a e) i.observations (w e) d (u e)
    seen_lowered e el some z zl =
        none_or_some
        (λ at. c.next n z ≡ at → (at_node (λ k. pos one *ℤ i.r_low a s e z +ℤ pos i.discount *ℤ (c.value k e -ℤ pos by)) at
        ≡ at_node (λ k. pos one *ℤ i.r_low a s e z +ℤ pos i.discount *ℤ c.value k e) at -ℤ d) ⊎ (i.o_high a e z ≡ 0))
        _
        (λ none. inr (no_high _ _ some (λ both. lacks_none z zl (none, (e, el, both)))))
        (λ k is. inl (omega (arith, linear, times_less (pos i.discount) (c.value k e) (pos by))))
        refl

    of_end : (e : ℕ) → e < i.states → (0 < i.t_high a s e) ⊎ (i.t_high a s e ≤ 0) → (row : ℕ → ℕ) × Of e row
    of_end e el (inl some) = (
      _,
      (
        lowered_row _ _ _ _ (w e) _ (worst.seen_worst e el) d (u e) (seen_lowered e el some),
        inl (lowered_mean _ _ _ _ (w e) _ (worst.seen_worst e el) d (u e) (seen_lowered e el some)),
      ),
    )
    of_end e el (inr none) =
        let old = worst.seen_worst e el in
        let (row, new) = found _ _ _ _ (u e)
        (λ z zl. omega arith)
        (omega (arith, old.sums, sum_le _ _ _ old.from))
        (omega (arith, old.sums, sum_le _ _ _ old.to)) in
        (row, (new, inr (omega arith)))

    seen_at : (e : ℕ) → (e < i.states) ⊎ (i.states ≤ e) → ℕ → ℕ
    seen_at e (inl el) = (of_end e el (cases_lt 0 _)).0
    seen_at e (inr beyond) = λ z. 0

    lowered_seen : ℕ → ℕ → ℕ
    lowered_seen e = seen_at e (cases_lt e _)

    seen_is : (e : ℕ) → e < i.states → (k : (e < i.states) ⊎ (i.states ≤ e)) → Of e (seen_at e k)
    seen_is e el (inl k) = (of_end e k _).1
    seen_is e el (inr beyond) = absurd (omega arith)

    x : ℕ → ℤ
    x e = mean (seen e) (least_step_worth i c n s e) i.observations

    y : ℕ → ℤ
    y e = mean (lowered_seen e) (least_step_worth i (lowered_by c by) n s e) i.observations

    end_lowered : AreLowered (i.t_high a s) i.states x (pos i.o_scale *ℤ d) y
    end_lowered e el = (seen_is e el _).1
