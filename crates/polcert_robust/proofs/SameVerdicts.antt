-- A verdict for some cells is one for all cells that are the same in range.
use Rattle.std.proofs.Common.{◌≡◌, ◌∙◌, ℕ, ◌<◌, ◌≤◌, ℤ, Option, Some, None, sym, subst, arith, refl}
use Rattle.polcert_cells.specs.Tables.{CellTable}
use Rattle.polcert_check.specs.Horizon.{Controller}
use Rattle.polcert_check.specs.declared.survey.Verdict.{Verdict}
use Rattle.polcert_check.specs.declared.survey.Verdict.TheVariants.{Yes, Short, NoSuccessor}
use Rattle.polcert_check.proofs.Sums.SumLaws.{sum_below_same}
use Rattle.polcert_robust.specs.Intervals.{IntervalTable}
use Rattle.polcert_robust.specs.RobustVerdict.{IsLeastThatMayLack, IsRobustBefore, IsRobustShort, IsRobustVerdict}
use Rattle.polcert_robust.specs.Worst.{IsWorstRow, IsWorstStep, MayLack, PairIsRobust, least_step_worth, mean, worst_backing}

row_same : (low high low' high' : ℕ → ℕ) (scale count : ℕ) (x y : ℕ → ℤ) (row : ℕ → ℕ)
    → ((k : ℕ) → k < count → (low k ≡ low' k) × (high k ≡ high' k)) → ((k : ℕ) → k < count → x k ≡ y k)
    → IsWorstRow low high scale count x row → IsWorstRow low' high' scale count y row
row_same low high low' high' scale count x y row ends values worst = record {
  sums = worst.sums;
  from = λ k l. subst (λ v. v ≤ row k) (ends k l).0 (worst.from k l);
  to = λ k l. subst (λ v. row k ≤ v) (ends k l).1 (worst.to k l);
  level = _;
  below = λ k l less. worst.below k l (rw (values k l) less) ∙ (ends k l).1;
  above = λ k l more. worst.above k l (rw (values k l) more) ∙ (ends k l).0;
}

-- `cells` are any, and the intervals of j have those of i in range
module _ (i : IntervalTable) (c : Controller) (cells : CellTable) (t_low t_high o_low o_high : ℕ → ℕ → ℕ → ℕ)
    (r_low r_high : ℕ → ℕ → ℕ → ℕ → ℤ) (actions : (n : ℕ) → n < c.nodes → c.action n < i.actions)
    (t_same : (a s e : ℕ) → a < i.actions → s < i.states → e < i.states → (i.t_low a s e ≡ t_low a s e) × (i.t_high a s e ≡ t_high a s e))
    (o_same : (a e z : ℕ) → a < i.actions → e < i.states → z < i.observations
    → (i.o_low a e z ≡ o_low a e z) × (i.o_high a e z ≡ o_high a e z))
    (r_same : (a s e z : ℕ) → a < i.actions → s < i.states → e < i.states → z < i.observations → i.r_low a s e z ≡ r_low a s e z) where
  abbrev pub j : IntervalTable
  j = record i { t_low = t_low; t_high = t_high; o_low = o_low; o_high = o_high; r_low = r_low; r_high = r_high }

  abbrev pub d : Controller
  d = record c { cells = cells }

  module _ (n s : ℕ) (nl : n < c.nodes) (sl : s < i.states) where
    worth_same : (e z : ℕ) → e < i.states → z < i.observations → least_step_worth i c n s e z ≡ least_step_worth j d n s e z
    worth_same e z el zl = simp (r_same _ s e z (actions n nl) sl el zl)

    mean_same : (row : ℕ → ℕ) (e : ℕ) → e < i.states
        → mean row (least_step_worth i c n s e) i.observations ≡ mean row (least_step_worth j d n s e) i.observations
    mean_same row e el = sum_below_same _ _ _ (λ z zl. simp (worth_same e z el zl))

    backing_same : (seen : ℕ → ℕ → ℕ) (ends : ℕ → ℕ) → worst_backing i c n s seen ends ≡ worst_backing j d n s seen ends
    backing_same seen ends = sum_below_same _ _ _ (λ e el. rw (mean_same _ e el) refl)

    step_same : (seen : ℕ → ℕ → ℕ) (ends : ℕ → ℕ) → IsWorstStep i c n s seen ends → IsWorstStep j d n s seen ends
    step_same seen ends worst = record {
      seen_worst = λ e el. row_same _ _ _ _ _ _ _ _ _
          (λ z. o_same _ e z (actions n nl) el) (λ z. worth_same e z el) (worst.seen_worst e el);
      ends_worst = row_same _ _ _ _ _ _ _ _ ends (λ e. t_same _ s e (actions n nl) sl) (λ e el. mean_same _ e el) worst.ends_worst;
    }

    lack_there : (z : ℕ) → z < i.observations → MayLack i c n s z → MayLack j d n s z
    lack_there z zl (none, (e, el, some)) = (
      none,
      (
        e,
        el,
        subst (λ k. 0 < k) (cc ((t_same (c.action n) s e (actions n nl) sl el).1, (o_same (c.action n) e z (actions n nl) el zl).1)) some,
      ),
    )

    lack_here : (z : ℕ) → z < i.observations → MayLack j d n s z → MayLack i c n s z
    lack_here z zl (none, (e, el, some)) = (
      none,
      (
        e,
        el,
        subst (λ k. 0 < k)
            (sym (cc ((t_same (c.action n) s e (actions n nl) sl el).1, (o_same (c.action n) e z (actions n nl) el zl).1))) some,
      ),
    )

    least_same : (z : Option ℕ) → IsLeastThatMayLack i c n s z → IsLeastThatMayLack j d n s z
    least_same None none = λ z zl lack. none z zl (lack_here z zl lack)
    least_same (Some z) (zl, lack, least) = (zl, lack_there z zl lack, λ y l too. least y l (lack_here y (omega arith) too))

    short_same : (amount : ℤ) → IsRobustShort i c n s amount → IsRobustShort j d n s amount
    short_same amount h = record {
      seen = _;
      ends = _;
      worst = step_same _ _ h.worst;
      is = cc (h.is, backing_same _ _);
    }

    pair_same : PairIsRobust i c n s → PairIsRobust j d n s
    pair_same p = record {
      lacks_none = λ z zl lack. p.lacks_none z zl (lack_here z zl lack);
      seen = _;
      ends = _;
      worst = step_same _ _ p.worst;
      not_short = rw (← backing_same _ _) p.not_short;
    }

  before_same : (n s : ℕ) → IsRobustBefore i c n s → IsRobustBefore j d n s
  before_same n s before = λ m t ml tl is. pair_same m t ml tl (before m t ml tl is)

  pub verdict_same : (u : Verdict) → IsRobustVerdict i c u → IsRobustVerdict j d u
  verdict_same Yes all = λ n s nl sl. pair_same n s nl sl (all n s nl sl)
  verdict_same (Short n s amount) (nl, sl, before, lacks, short, some) =
      (nl, sl, before_same n s before, least_same n s nl sl None lacks, short_same n s nl sl _ short, some)
  verdict_same (NoSuccessor n s z) (nl, sl, before, lack) = (nl, sl, before_same n s before, least_same n s nl sl (Some z) lack)
