-- What backs a value in the worst case, from the least means that are found, and the verdicts that follow.
use Rattle.std.proofs.Common.{◌≡◌, ℕ, ◌+◌, ◌*◌, ◌<◌, ◌≤◌, ◌⊎◌, inl, inr, ⊎_elim, ℤ, pos, ◌-ℤ◌, ◌*ℤ◌, ◌≤ℤ◌, Option, Some, None, refl, sym}
use Rattle.std.proofs.Common.{◌∙◌, arith}
use Rattle.std.proofs.lemmas.Bool.{cases_lt}
use Rattle.polcert_cells.specs.Tables.{IsProper}
use Rattle.polcert_check.specs.Horizon.{Controller, one}
use Rattle.polcert_check.specs.Verdict.{IsBefore}
use Rattle.polcert_check.specs.Steps.Factored.{IsLeastOf}
use Rattle.polcert_check.specs.Steps.Values.{IsMissedBefore}
use Rattle.polcert_check.specs.declared.survey.Verdict.{Verdict}
use Rattle.polcert_check.specs.declared.survey.Verdict.TheVariants.{Yes, Short, NoSuccessor}
use Rattle.polcert_check.proofs.Sums.Ring.{linear}
use Rattle.polcert_check.proofs.Sums.SumLaws.{sum_below_same}
use Rattle.polcert_robust.specs.Intervals.{IntervalTable, around, low_of, high_of}
use Rattle.polcert_robust.specs.RobustVerdict.{IsLeastThatMayLack, IsRobustBefore, IsRobustShort, IsRobustVerdict}
use Rattle.polcert_robust.specs.Worst.{IsRobust, IsWorstRow, MayLack, PairIsRobust, mean, least_step_worth}
use Rattle.polcert_robust.specs.Steps.Holding.{IsWorstMean}
use Rattle.polcert_robust.specs.Steps.Pairs.{IsEndMean, IsRobustPair, IsWorstBacking, sided_table}
use Rattle.polcert_robust.specs.declared.side.Side.{Side}
use Rattle.polcert_robust.proofs.Exactly.{around_row, high_ge, high_some}
use Rattle.polcert_robust.proofs.Lowered.{lowered_row, no_weight}
use Rattle.polcert_robust.proofs.OneWorst.{one_worst}
use Rattle.polcert_robust.proofs.Step.{left_some, right_some, some_product}
use Rattle.polcert_robust.specs.declared.distance.Spread.{Spread}

-- ---- values where the weight is 0 do not matter
none_or_some : (w : ℕ) → (w ≡ 0) ⊎ (0 < w)
none_or_some w = ⊎_elim (λ (h : 0 < w). inr h) (λ (h : w ≤ 0). inl (omega arith)) (cases_lt 0 w)

pub high_none : (by : Spread) (w : ℕ) → w ≡ 0 → high_of by w ≡ 0
high_none by w e = rw e refl

module _ (f : ℕ → ℕ) (by : Spread) (scale n : ℕ) (x y : ℕ → ℤ) (row : ℕ → ℕ)
    (worst : IsWorstRow (λ j. low_of by (f j)) (λ j. high_of by (f j)) scale n x row) (same : (j : ℕ) → j < n → 0 < f j → y j ≡ x j) where
  pub worst_for : IsWorstRow (λ j. low_of by (f j)) (λ j. high_of by (f j)) scale n y row
  worst_for =
      lowered_row _ _ scale n x row worst (pos 0) y
      (λ j l. ⊎_elim (λ (none : f j ≡ 0). inr (high_none by (f j) none)) (λ (some : 0 < f j). inl (omega (arith, linear, same j l some)))
      (none_or_some (f j)))

  pub mean_for : mean row x n ≡ mean row y n
  mean_for =
      sum_below_same _ _ n
      (λ j l. ⊎_elim
      (λ (none : f j ≡ 0). no_weight _ (x j) (y j) (omega (arith, high_none by (f j) none)))
      (λ (some : 0 < f j). cc (same j l some))
      (none_or_some (f j)))

-- the mean of known values
pub exact_mean : (f : ℕ → ℕ) (by : Spread) (scale n : ℕ) (y : ℕ → ℤ) (value : ℤ) → IsWorstMean (λ j v. v ≡ y j) f by scale n value
    → (row : ℕ → ℕ) × IsWorstRow (λ j. low_of by (f j)) (λ j. high_of by (f j)) scale n y row × (value ≡ mean row y n)
exact_mean f by scale n y value w = (
  w.row,
  worst_for f by scale n w.x y w.row w.worst (λ j l some. sym (w.each j l some)),
  w.is ∙ mean_for f by scale n w.x y w.row w.worst (λ j l some. sym (w.each j l some)),
)

-- ---- a pair
module _ (side : Side) (c : Controller) (t_by o_by : Spread) (r_by n s : ℕ) (proper : IsProper c.cells) (al : c.action n < c.cells.actions)
    (sl : s < c.cells.states) where
  abbrev pub table : IntervalTable
  table = sided_table side (around c.cells t_by o_by r_by)

  abbrev pub EndRow : ℕ → ℤ → Type 0
  EndRow e v = (row : ℕ → ℕ) × IsWorstRow (λ z. low_of o_by (c.cells.o (c.action n) e z)) (λ z. high_of o_by (c.cells.o (c.action n) e z))
      c.cells.o_scale c.cells.observations (least_step_worth table c n s e) row
      × (0 < c.cells.t (c.action n) s e → v ≡ mean row (least_step_worth table c n s e) c.cells.observations)

  row_or : (v : ℕ → ℤ) → ((e : ℕ) → e < c.cells.states → EndRow e (v e)) → (e : ℕ) → (e < c.cells.states) ⊎ (c.cells.states ≤ e) → ℕ → ℕ
  row_or v rows e (inl el) = (rows e el).0
  row_or v rows e (inr beyond) = λ z. 0

  row_or_is : (v : ℕ → ℤ) (rows : (e : ℕ) → e < c.cells.states → EndRow e (v e)) (e : ℕ) → e < c.cells.states
      → (k : (e < c.cells.states) ⊎ (c.cells.states ≤ e))
      → IsWorstRow (λ z. low_of o_by (c.cells.o (c.action n) e z)) (λ z. high_of o_by (c.cells.o (c.action n) e z)) c.cells.o_scale
      c.cells.observations (least_step_worth table c n s e) (row_or v rows e k)
      × (0 < c.cells.t (c.action n) s e → v e ≡ mean (row_or v rows e k) (least_step_worth table c n s e) c.cells.observations)
  unfolding row_or
  row_or_is v rows e el (inl k) = ((rows e k).1, (rows e k).2)
  row_or_is v rows e el (inr beyond) = absurd (omega arith)

  pub backing_of : (value : ℤ) → IsWorstMean (IsEndMean table c n s) (c.cells.t (c.action n) s) t_by c.cells.t_scale c.cells.states value
      → IsWorstBacking table c n s value
  backing_of value w = record {
    seen = seen;
    ends = w.row;
    worst = record {
      seen_worst = λ e el. (row_or_is w.x rows e el _).0;
      ends_worst = worst_for _ t_by _ _ w.x y w.row w.worst same;
    };
    is = w.is ∙ mean_for _ t_by _ _ w.x y w.row w.worst same;
  }
    where
      rows : (e : ℕ) → e < c.cells.states → EndRow e (w.x e)
      rows = (λ e el. ⊎_elim (λ (none : c.cells.t _ s e ≡ 0). let (row, worst) = around_row _ o_by _ _ _ (proper.o_rows _ e al el) in
          (row, worst, λ some. absurd (omega arith))) (λ (some : 0 < c.cells.t _ s e). let (row, worst, is) = w.each e el some in
          (row, worst, λ _. is)) (none_or_some _))

      seen : ℕ → ℕ → ℕ
      seen e = row_or w.x rows e (cases_lt e _)

      y : ℕ → ℤ
      y e = mean (seen e) (least_step_worth table c n s e) c.cells.observations

      same : (e : ℕ) → e < c.cells.states → 0 < c.cells.t (c.action n) s e → y e ≡ w.x e
      same e el some = sym ((row_or_is w.x rows e el _).1 some)

  -- ---- what the pair may lack
  some_high : (by : Spread) (w : ℕ) → 0 < w → 0 < high_of by w
  some_high by w some = omega (arith, high_ge by w)

  may_lack_if : (z : ℕ) → IsMissedBefore c n s c.cells.states z → (z < c.cells.observations) × MayLack table c n s z
  may_lack_if z (e, el, some, (zl, none, seen)) = (
    zl,
    (
      none,
      (
        e,
        el,
        some_product _ _ (some_high t_by _ some) (some_high o_by _ seen),
      ),
    ),
  )

  missed_if : (z : ℕ) → z < c.cells.observations → MayLack table c n s z → IsMissedBefore c n s c.cells.states z
  missed_if z zl (none, (e, el, some)) = (
    e,
    el,
    high_some t_by _ (left_some _ _ some),
    (
      zl,
      none,
      high_some o_by _ (right_some _ _ some),
    ),
  )

  pub least_may_lack : (missing : Option ℕ) → IsLeastOf (IsMissedBefore c n s c.cells.states) missing
      → IsLeastThatMayLack table c n s missing
  least_may_lack None least = λ z zl lack. least z (missed_if z zl lack)
  least_may_lack (Some z) least =
      let here = may_lack_if z least.0 in
      (here.0, here.1, λ y l lack. least.1 y l (missed_if y (omega arith) lack))

-- ---- the verdict on a pair
module _ (i : IntervalTable) (c : Controller) where
  pub robust_if : (n s : ℕ) (value : ℤ) → IsLeastThatMayLack i c n s None → IsWorstBacking i c n s value
      → (pos (i.t_scale * i.o_scale * one) *ℤ c.value n s -ℤ value) ≤ℤ pos 0 → PairIsRobust i c n s
  robust_if n s value none b h = record {
    lacks_none = none;
    seen = _;
    ends = _;
    worst = b.worst;
    not_short = omega (arith, linear, h);
  }

  pub short_by : (n s : ℕ) (value amount : ℤ) → IsWorstBacking i c n s value
      → amount ≡ pos (i.t_scale * i.o_scale * one) *ℤ c.value n s -ℤ value → IsRobustShort i c n s amount
  short_by n s value amount b is = record { seen = _; ends = _; worst = b.worst; is = omega (arith, linear, is) }

  -- ---- the walk
  pub none_before : IsRobustBefore i c 0 0
  none_before m t ml tl before = grind arith

  pub one_more : (n s : ℕ) → IsRobustBefore i c n s → PairIsRobust i c n s → IsRobustBefore i c n (s + 1)
  one_more n s before here m t ml tl is =
      ⊎_elim
      (λ (h : IsBefore m t n s). before m t ml tl h)
      (λ (h : _ × (t ≡ s)). rw h.0
      (rw h.1 here))
      (split is)
    where
      split : IsBefore m t n (s + 1) → IsBefore m t n s ⊎ ((m ≡ n) × (t ≡ s))
      split is = grind arith

  pub next_node : (n s : ℕ) → i.states ≤ s → IsRobustBefore i c n s → IsRobustBefore i c (n + 1) 0
  next_node n s all before m t ml tl is = before m t ml tl (earlier is)
    where
      earlier : IsBefore m t (n + 1) 0 → IsBefore m t n s
      earlier is = grind arith

  pub all_before : (n : ℕ) → c.nodes ≤ n → IsRobustBefore i c n 0 → IsRobust i c
  all_before n all before m t ml tl = before m t ml tl (inl (omega arith))

  pub first_no : (n s : ℕ) (v : Verdict) → n < c.nodes → s < i.states → IsRobustBefore i c n s → IsRobustPair i c n s v → (v ≡ Yes → ⊥)
      → IsRobustVerdict i c v
  first_no n s Yes nl sl before is is_no = absurd (is_no refl)
  first_no n s (Short m t amount) nl sl before (me, te, lacks, short, some) is_no = rw (me, te) (nl, sl, before, lacks, short, some)
  first_no n s (NoSuccessor m t z) nl sl before (me, te, lacks) is_no = rw (me, te) (nl, sl, before, lacks)

  -- ---- a no is not a yes
  pub not_robust : (v : Verdict) → 0 < i.t_scale → 0 < i.o_scale → IsRobustVerdict i c v → IsRobust i c → v ≡ Yes
  not_robust Yes t_some o_some is robust = refl
  not_robust (Short n s amount) t_some o_some (nl, sl, before, lacks, short, some) robust =
      let pair = robust n s nl sl in
      absurd (omega (
        arith,
        linear,
        some,
        short.is,
        pair.not_short,
        one_worst i c n s t_some o_some _ _ short.worst _ _ pair.worst,
      ))
  not_robust (NoSuccessor n s z) t_some o_some (nl, sl, before, (zl, lack, least)) robust = absurd ((robust n s nl sl).lacks_none z zl lack)
