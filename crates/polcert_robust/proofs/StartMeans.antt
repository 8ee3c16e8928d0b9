-- The means of a node's values over the starts near a model's, and the node at which they are greatest.
use Rattle.std.proofs.Common.{◌≡◌, ◌∙◌, ℕ, zero, suc, ◌+◌, ◌*◌, ◌<◌, ◌≤◌, ⊎_elim, ℤ, pos, neg_ℤ, ◌+ℤ◌, ◌-ℤ◌, ◌*ℤ◌, ◌≤ℤ◌, ◌<ℤ◌}
use Rattle.std.proofs.Common.{unsigned_abs}
use Rattle.std.proofs.Common.{FitsSigned, to_z, of_z, w64, refl, sym, ap, subst, arith}
use Rattle.std.proofs.lemmas.Bool.{cases_eq}
use Rattle.std.proofs.lemmas.Int.{fits_signed_from_abs, to_z-of_z, to_z_pos}
use Rattle.std.specs.Int.{int_div_euclid}
use Rattle.std.proofs.Math.IntN.{zero-*ℤ}
use mir.Syntax.{w128}
use Rattle.polcert_text.specs.Numbers.{largest}
use Rattle.polcert_cells.specs.Meaning.{Meaning, HasLimitedNumbers, states_of, start_weight, start_total, sum_below}
use Rattle.polcert_cells.specs.Tables.{CellTable}
use Rattle.polcert_policy.specs.Graphs.{PolicyGraph, nodes}
use Rattle.polcert_policy.specs.Vectors.{PolicyVectors, value_of}
use Rattle.polcert_check.specs.Above.{MeetsEveryHorizonAbove}
use Rattle.polcert_check.specs.Horizon.{MeetsEveryHorizon, controller_of}
use Rattle.polcert_check.specs.StartWorth.{IsCeilQuotient, IsFloorQuotient}
use Rattle.polcert_check.proofs.Horizons.StartSums.{floor_is, start_row, value_fits}
use Rattle.polcert_check.proofs.Sums.Bounds.{negated_is}
use Rattle.polcert_check.proofs.Sums.Ring.{linear, ≤ℤ_trans, ≤ℤ_from_eq}
use Rattle.polcert_robust.specs.Intervals.{low_of, high_of}
use Rattle.polcert_robust.specs.Start.{IsAtMostFrom, IsBestNodeNear, IsLeastFromStart, IsStartMostNear, IsStartNear}
use Rattle.polcert_robust.specs.Start.{IsStartWorthNear, IsWorthFrom, StartsWithin, scaled_start_total, scaled_start_weight, start_multiple}
use Rattle.polcert_robust.specs.Worst.{IsWorstRow, mean, within_model}
use Rattle.polcert_robust.specs.Steps.Holding.{IsWorstMean}
use Rattle.polcert_robust.proofs.Backings.{exact_mean}
use Rattle.polcert_robust.proofs.Holding.{updated}
use Rattle.polcert_robust.proofs.Means.{total_pos}
use Rattle.polcert_robust.proofs.Refuting.{at_same, at_other}
use Rattle.polcert_robust.proofs.Starts.{from_every_start, from_every_start_above, mean_neg}
use Rattle.polcert_robust.specs.declared.distance.Spread.{Spread}

-- ---- the scale
sum_times : (w : ℕ → ℕ) (k n : ℕ) → sum_below (λ s. w s * k) n ≡ sum_below w n * k
sum_times w k zero = omega arith
sum_times w k (suc n) = omega (arith, sum_times w k n)
  where
    parts : (a b c : ℕ) → (a + b) * c ≡ a * c + b * c
    parts a b c = omega arith

module _ (m : Meaning) (limits : HasLimitedNumbers m) where
  pub weights_sum_up : sum_below (start_weight m) (states_of m) ≡ start_total m
  weights_sum_up = omega (arith, linear, sym (total_pos (start_weight m) (states_of m)) ∙ start_row m limits)

  pub scaled_sum : sum_below (scaled_start_weight m) (states_of m) ≡ scaled_start_total m
  scaled_sum = sum_times _ _ _ ∙ ap (λ (k : ℕ). k * start_multiple m) weights_sum_up

-- ---- a mean
pub least_from_start : (m : Meaning) (by : Spread) (x : ℕ → ℤ) (value : ℤ)
    → IsWorstMean (λ s v. v ≡ x s) (scaled_start_weight m) by (scaled_start_total m) (states_of m) value → IsLeastFromStart m by x value
least_from_start m by x value w =
    let (row, worst, is) = exact_mean _ by _ _ x value w in
    record { start = row; worst = worst; is = is }

-- ---- the best of the nodes so far
pub best_of_one : (IsMean : (ℕ → ℤ) → ℤ → Type 0) (v : PolicyVectors) (x : ℤ) → IsMean (value_of v 0) x → IsBestNodeNear IsMean v 1 0 x
best_of_one IsMean v x is = record {
  means = λ i. x;
  each = λ i il. rw (← first i il) is;
  first = record {
    is_below = omega arith;
    none_greater = λ i il. omega (arith, linear);
    smaller_before = λ i il. absurd (omega arith);
  };
  is = refl;
}
  where
    first : (i : ℕ) → i < 1 → 0 ≡ i
    first i il = omega arith

module _ (IsMean : (ℕ → ℤ) → ℤ → Type 0) (v : PolicyVectors) (count best : ℕ) (greatest x : ℤ)
    (so_far : IsBestNodeNear IsMean v count best greatest) (is : IsMean (value_of v count) x) where
  with_it : ℕ → ℤ
  with_it = updated count x so_far.means

  here : (i : ℕ) → i ≡ count → with_it i ≡ x
  unfolding with_it
  here i e = at_same i count x _ e

  before : (i : ℕ) → i < count → with_it i ≡ so_far.means i
  unfolding with_it
  before i il = at_other i count x _ (λ (same : i ≡ count). omega arith)

  each_with_it : (i : ℕ) → i < count + 1 → IsMean (value_of v i) (with_it i)
  each_with_it i il = ⊎_elim (λ (e : i ≡ count). subst (IsMean _) (sym (here i e)) (rw e is))
      (λ (ne : i ≡ count → ⊥). subst (IsMean _) (sym (before i (omega arith))) (so_far.each i (omega arith)))
      (cases_eq i count)

  pub best_is_new : greatest <ℤ x → IsBestNodeNear IsMean v (count + 1) count x
  best_is_new more = record {
    means = _;
    each = each_with_it;
    first = record {
      is_below = omega arith;
      none_greater = λ i il. ⊎_elim (λ e. ≤ℤ_from_eq _ _ (cc e)) (λ (ne : i ≡ count → ⊥). at_most i (omega arith)) (cases_eq i count);
      smaller_before = λ i il. omega (arith, linear, here count refl, before i il, so_far.first.none_greater i il, more);
    };
    is = sym (here count refl);
  }
    where
      at_most : (i : ℕ) → i < count → with_it i ≤ℤ with_it count
      at_most i il = omega (arith, linear, here count refl, before i il, so_far.first.none_greater i il, more)

  pub best_stays : x ≤ℤ greatest → IsBestNodeNear IsMean v (count + 1) best greatest
  best_stays less = record {
    means = _;
    each = each_with_it;
    first = record {
      is_below = omega arith;
      none_greater = λ i il. ⊎_elim (λ (e : i ≡ count). omega (arith, linear, here i e, before best so_far.first.is_below, less))
          (λ (ne : i ≡ count → ⊥). omega (
            arith,
            linear,
            before i (omega arith),
            before best so_far.first.is_below,
            so_far.first.none_greater i (omega arith),
          ))
          (cases_eq i count);
      smaller_before = λ i il. omega (
        arith,
        linear,
        before i (omega arith),
        before best so_far.first.is_below,
        so_far.first.smaller_before i il,
      );
    };
    is = so_far.is ∙ sym (before best so_far.first.is_below);
  }

-- another kind of mean that each of this kind is
pub best_with : (IsMean IsMean' : (ℕ → ℤ) → ℤ → Type 0) → ((x : ℕ → ℤ) (value : ℤ) → IsMean x value → IsMean' x value) → (v : PolicyVectors)
    (count n : ℕ) (value : ℤ)
    → IsBestNodeNear IsMean v count n value → IsBestNodeNear IsMean' v count n value
best_with IsMean IsMean' other v count n value best = record {
  means = _;
  each = λ i il. other _ _ (best.each i il);
  first = best.first;
  is = best.is;
}

-- ---- the quotient
pub negated_mean_is : (total : ℕ) (x : ℤ) → total ≤ 10000000000 → unsigned_abs x ≤ total * largest
    → to_z w128 (of_z w128 (pos 0 -ℤ to_z w128 (of_z w128 x))) ≡ neg_ℤ x
negated_mean_is total x few small = negated_is w128 x (grind arith) (grind arith)

pub quotient_back : (a : ℤ) (k : ℕ) (q : ℤ) → 0 < k → k ≤ 10000000000 → unsigned_abs a ≤ k * largest → FitsSigned w128 a
    → q ≡ int_div_euclid (to_z w128 (of_z w128 a)) (to_z w128 k)
    → IsFloorQuotient a k (to_z w64 (of_z w64 (to_z w128 (of_z w128 q))))
    × (unsigned_abs (to_z w64 (of_z w64 (to_z w128 (of_z w128 q)))) ≤ largest)
quotient_back a k q some few small fa is =
    let same = rw (to_z-of_z w128 a fa, to_z_pos w128 k (omega arith)) at is in
    let small_q : unsigned_abs q ≤ largest = grind arith in
    rw (to_z-of_z w128 q (value_fits q small_q), to_z-of_z w64 q (fits_signed_from_abs w64 q (omega arith)))
    (rw same (floor_is a k some), small_q)

-- ---- what is promised of the start
floor_some : (a : ℤ) (k : ℕ) (q : ℤ) → IsFloorQuotient a k q → 0 < k
floor_some a zero q (le, lt) = absurd (omega (arith, linear, le, lt, zero-*ℤ q, zero-*ℤ (q +ℤ pos 1)))
floor_some a (suc k) q both = omega arith

ceil_some : (a : ℤ) (k : ℕ) (q : ℤ) → IsCeilQuotient a k q → 0 < k
ceil_some a zero q (le, lt) = absurd (omega (arith, linear, le, lt, zero-*ℤ q, zero-*ℤ (q -ℤ pos 1)))
ceil_some a (suc k) q both = omega arith

un_negated : (x y : ℤ) → neg_ℤ x ≡ neg_ℤ y → x ≡ y
un_negated x y e = omega (arith, linear)

module _ (m : Meaning) (by : Spread) (cells : CellTable) (g : PolicyGraph) (v : PolicyVectors)
    (same : v.nodes ≡ nodes g) (parts : ℕ) (t : CellTable) (states : t.states ≡ states_of m) (shares : ℕ → ℕ) (total : ℕ)
    (near : IsStartNear m by shares total) where
  abbrev low : ℕ → ℕ
  low s = low_of by (scaled_start_weight m s)

  abbrev high : ℕ → ℕ
  high s = high_of by (scaled_start_weight m s)

  near_there : StartsWithin low high (scaled_start_total m) t.states shares total
  near_there = rw states near

  worst_there : (x : ℕ → ℤ) (row : ℕ → ℕ) → IsWorstRow low high (scaled_start_total m) (states_of m) x row
      → IsWorstRow low high (scaled_start_total m) t.states x row
  worst_there x row worst = rw states worst

  mean_there : (x : ℕ → ℤ) (row : ℕ → ℕ) → mean row x (states_of m) ≡ mean row x t.states
  mean_there x row = cc states

  pub worth_promised : MeetsEveryHorizon (within_model (controller_of cells g v) parts t) → (n : ℕ) (worth : ℤ)
      → IsStartWorthNear m by v n worth
      → (k : ℕ) → IsWorthFrom (within_model (controller_of cells g v) parts t) shares total k n (pos parts *ℤ worth)
  worth_promised meets n worth (value, best, floor) k =
      let is = best.each n best.first.is_below in
      from_every_start (controller_of cells g v) parts t meets low high _ (floor_some _ _ _ floor) n
      (omega arith) _ (worst_there _ _ is.worst) worth
      (≤ℤ_trans _ _ _ floor.0 (≤ℤ_from_eq _ _ (cc)))
      _ total near_there k

  pub most_promised : MeetsEveryHorizonAbove (within_model (controller_of cells g v) parts t) → (most : ℤ) → IsStartMostNear m by v most
      → (k n : ℕ) → n < nodes g → IsAtMostFrom (within_model (controller_of cells g v) parts t) shares total k n (pos parts *ℤ most)
  most_promised meets most (best_node, value, best, ceil) k n nl =
      let there : n < v.nodes = omega arith in
      let is = best.each n there in
      let mean_is =
      un_negated _ _ (is.is ∙ mean_neg is.start (value_of v n) (states_of m)) ∙ mean_there (value_of v n) _ in
      from_every_start_above (controller_of cells g v) parts t meets low high _ (ceil_some _ _ _ ceil) n nl _
      (worst_there _ _ is.worst) most
      (omega (arith, linear, mean_is, best.first.none_greater n there, best.is, ceil.0))
      _ total near_there k
