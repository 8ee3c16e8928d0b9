-- A verdict from above says yes exactly if the vectors pass from above in every model within, and a no is refuted by one of them.
use Rattle.std.proofs.Common.{◌≡◌, ℕ, ◌<◌, ◌↔◌, ℤ, pos, neg_ℤ, ◌+ℤ◌, ◌-ℤ◌, ◌*ℤ◌, refl, sym, subst, arith}
use Rattle.polcert_cells.specs.Tables.{CellTable, IsProper}
use Rattle.polcert_policy.specs.Graphs.{PolicyGraph, IsProperGraph, nodes}
use Rattle.polcert_policy.specs.Vectors.{PolicyVectors}
use Rattle.polcert_check.specs.Horizon.{Controller, Fits, controller_of}
use Rattle.polcert_check.specs.Shortfall.{Passes}
use Rattle.polcert_check.specs.Steps.Mirrored.{mirrored}
use Rattle.polcert_check.specs.declared.above.AboveVerdict.{AboveVerdict}
use Rattle.polcert_check.specs.declared.above.AboveVerdict.TheVariants as above
use Rattle.polcert_check.specs.declared.survey.Verdict.TheVariants.{Yes}
use Rattle.polcert_check.proofs.Mirrors.FromAbove.{pair_below, passes_below, passes_if_promised_above}
use Rattle.polcert_check.proofs.Sums.Ring.{linear, neg_product, one-*ℤ}
use Rattle.polcert_robust.specs.Intervals.{IntervalTable, LiesWithin, around, negated}
use Rattle.polcert_robust.specs.RobustAbove.{IsRobustAboveVerdict, MeetsHorizonAboveInEveryModel, PassesAboveInEveryModel, below_of}
use Rattle.polcert_robust.specs.Worst.{IsRobust, negated_values, within_model}
use Rattle.polcert_robust.proofs.Backings.{not_robust}
use Rattle.polcert_robust.proofs.Exact.{known, lacks_itself, short_fails}
use Rattle.polcert_robust.proofs.Exactly.{lies_around, only_then}
use Rattle.polcert_robust.proofs.Horizons.{is_for_around, near_above, negated_lies, negated_model, passes_above_within, robust_mirrored}
use Rattle.polcert_robust.proofs.Refuting.{refutes}
use Rattle.polcert_robust.specs.declared.distance.Spread.{Spread}

-- ---- negated twice
neg_neg : (x : ℤ) → x ≡ neg_ℤ (neg_ℤ x)
neg_neg x = omega (arith, linear)

lies_back : (i : IntervalTable) (m : CellTable) → LiesWithin (negated i) 1 m → LiesWithin i 1 (negated_model m)
lies_back i m lies = record {
  states = lies.states;
  actions = lies.actions;
  observations = lies.observations;
  discount = lies.discount;
  rows = record { t_rows = lies.rows.t_rows; o_rows = lies.rows.o_rows };
  t = lies.t;
  o = lies.o;
  r = λ a s e z al sl el zl. (
    omega (
      arith,
      linear,
      (lies.r a s e z al sl el zl).0,
      (lies.r a s e z al sl el zl).1,
      one-*ℤ (neg_ℤ (i.r_low a s e z)),
      one-*ℤ (i.r_low a s e z),
    ),
    omega (
      arith,
      linear,
      (lies.r a s e z al sl el zl).0,
      (lies.r a s e z al sl el zl).1,
      one-*ℤ (neg_ℤ (i.r_high a s e z)),
      one-*ℤ (i.r_high a s e z),
    ),
  );
}

same_back : (c : Controller) (m : CellTable) → mirrored (within_model c 1 (negated_model m)) ≡ within_model (negated_values c) 1 m
same_back c m = sym (λ j. record (mirrored (within_model c 1 (negated_model m)))
    { cells = record m { r = λ a s e z. neg_neg (m.r a s e z) j }; value = λ n s. neg_product (pos 1) (c.value n s) j })

low_same : (r : ℤ) (by : ℕ) → neg_ℤ r -ℤ pos by ≡ neg_ℤ (r +ℤ pos by)
low_same r by = omega (arith, linear)

high_same : (r : ℤ) (by : ℕ) → neg_ℤ r +ℤ pos by ≡ neg_ℤ (r -ℤ pos by)
high_same r by = omega (arith, linear)

same_intervals : (x : CellTable) (t_by o_by : Spread) (r_by : ℕ)
    → around (negated_model x) t_by o_by r_by ≡ negated (around x t_by o_by r_by)
same_intervals x t_by o_by r_by = λ j. record (negated (around x t_by o_by r_by))
    { r_low = λ a s e z. low_same (x.r a s e z) r_by j; r_high = λ a s e z. high_same (x.r a s e z) r_by j }

yes_above : (v : AboveVerdict) → below_of v ≡ Yes → v ≡ above.Yes
yes_above v e = grind arith

-- each model near the negated one is the negative of one near the model
module _ (x : CellTable) (t_by o_by : Spread) (r_by : ℕ) (k : Controller) where
  pub robust_above_if : IsProper x → ((n : ℕ) → n < k.nodes → k.action n < x.actions) → PassesAboveInEveryModel (around x t_by o_by r_by) k
      → IsRobust (negated (around x t_by o_by r_by)) (negated_values k)
  robust_above_if proper known_all passes =
      rw (← same_intervals x t_by o_by r_by)
      (only_then _ _ t_by o_by r_by (record { t_rows = proper.t_rows; o_rows = proper.o_rows }) known_all
      (λ m lies. subst Passes (same_back k m) (passes_below (within_model k 1 (negated_model m))
      (passes 1 (negated_model m) (lies_back (around x t_by o_by r_by) m
      (rw (← same_intervals x t_by o_by r_by) lies))))))

module _ (x : CellTable) (graph : PolicyGraph) (vectors : PolicyVectors) (t_by o_by : Spread) (r_by : ℕ) (t_some : 0 < x.t_scale)
    (o_some : 0 < x.o_scale)
    (proper : IsProper x) (is_graph : IsProperGraph graph) (fits : Fits x graph vectors) where
  abbrev pub intervals : IntervalTable
  intervals = around x t_by o_by r_by

  abbrev pub c : Controller
  c = controller_of x graph vectors

  known_here : (n : ℕ) → n < nodes graph → c.action n < x.actions
  known_here = known x graph _ t_by o_by r_by t_some o_some proper is_graph fits

  pub exact_above : (v : AboveVerdict) → IsRobustAboveVerdict intervals c v → (v ≡ above.Yes) ↔ PassesAboveInEveryModel intervals c
  exact_above v is = (
    (λ yes. passes_above_within intervals c t_some o_some (is_for_around x graph vectors t_by o_by r_by is_graph fits)
        (robust_mirrored (negated intervals) c (subst (IsRobustAboveVerdict intervals c) yes is))),
    (λ passes. yes_above v (not_robust _ _ _ t_some o_some is ((robust_above_if x t_by o_by r_by c proper known_here) passes))),
  )

  pub horizon_above : (v : AboveVerdict) → IsRobustAboveVerdict intervals c v → MeetsHorizonAboveInEveryModel intervals c v
  horizon_above above.Yes robust = near_above x graph vectors t_by o_by r_by t_some o_some is_graph fits robust
  horizon_above (above.Long n s amount) (nl, sl, before, lacks, short, some) =
      let (m, lies, fails) = refutes _ _ (negated_model x)
      (negated_lies _ 1 x (lies_around x t_by o_by r_by proper)) refl refl n s (known_here n nl) sl _ short.ends
      short.worst
      (short_fails x graph _ t_by o_by r_by t_some o_some proper is_graph fits
      (pos _ *ℤ neg_ℤ (c.value n s))
      _ _ short.is some) in (
        negated_model m,
        lies_back _ m lies,
        λ promise. fails (rw (← same_back c m) (pair_below (within_model c 1 (negated_model m)) n s
            (passes_if_promised_above (within_model c 1 (negated_model m)) n s promise))),
      )
  horizon_above (above.NoSuccessor n s z) (nl, sl, before, (zl, lack, least)) = (
    x,
    lies_around x t_by o_by r_by proper,
    λ promise. (passes_if_promised_above (within_model c 1 x) n s promise).lacks_none z zl
        (lacks_itself x graph _ t_by o_by r_by t_some o_some proper is_graph fits n s z lack),
  )
