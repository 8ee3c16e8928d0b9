-- Points bound every policy of observations from a model's start, and enclose the optimum.
use Rattle.std.proofs.Common.{◌≡◌, ℕ, zero, suc, ◌+◌, ◌*◌, ◌^◌, ◌<◌, ◌≤◌, ℤ, pos, neg_ℤ, ◌+ℤ◌, ◌*ℤ◌, ◌≤ℤ◌, unsigned_abs, List, [], ◌∷◌, sym}
use Rattle.std.proofs.Common.{◌∙◌, arith}
use Rattle.std.proofs.Math.Nat.{pow-suc}
use Rattle.polcert_policy.specs.Graphs.{PolicyGraph, IsProperGraph, nodes}
use Rattle.polcert_policy.specs.Vectors.{PolicyVectors}
use Rattle.polcert_check.specs.Horizon.{controller_of, Fits as FitsModel}
use Rattle.polcert_check.specs.Shortfall.{Passes}
use Rattle.polcert_check.specs.StartWorth.{IsStartWorth}
use Rattle.polcert_check.proofs.Sums.Scales.{scales}
use Rattle.polcert_check.proofs.Walking.Verdicts.{positive_product}
use Rattle.polcert_optimum.proofs.Optimum.{table_within, node_policy, earns, earns_at_least}
use Rattle.std.specs.List.{AllByRecursion}
use Rattle.polcert_points.proofs.Common.{pow-zero, Meaning, HasLimitedNumbers, states_of, start_weight, start_total}
use Rattle.polcert_points.proofs.Common.{IsProper, table_of, one, ObservationPolicy, as_policy, IsPolicyOf, step_scale}
use Rattle.polcert_points.proofs.Common.{start_scale}
use Rattle.polcert_check.proofs.Sums.Ring.{linear, below_cancel, mul_le, ≤ℤ_trans, ≤ℤ_from_eq, *ℤ_assoc, *ℤ_left_comm, *ℤ-+ℤ, +ℤ-*ℤ}
use Rattle.polcert_check.proofs.Sums.RowTotals.{sum_of_pos}
use Rattle.polcert_check.proofs.Horizons.StartSums.{start_row}
use Rattle.polcert_points.specs.Belief.{mass}
use Rattle.polcert_optimum.specs.Bound.{mixture_weight, mixture_sum}
use Rattle.polcert_points.specs.Points.{Points, Cover, Covers, IsBelowValues}
use Rattle.polcert_points.specs.PointStart.{IsPointCertificate, PointsBoundFromStart, PointsBoundMixturesFromStart}
use Rattle.polcert_optimum.specs.Optimum.{start_rewards, EarnsAtLeast, EarnsAtMost, EncloseOptimum}
use Rattle.polcert_points.proofs.PointBounds.{belief_at_most, rewards_apart}
use Rattle.polcert_points.proofs.Beliefs.{cancel}
use Rattle.polcert_optimum.proofs.Optimum.{at_most_if_bounded}

-- the mass of the start
pub start_mass : (m : Meaning) → HasLimitedNumbers m → pos (mass (table_of m) (start_weight m)) ≡ pos (start_total m)
start_mass m limits = sym (sum_of_pos _ _) ∙ start_row m limits

scale_of : (n q : ℕ) (mass_is most : ℤ) → mass_is ≡ pos n → pos q *ℤ (mass_is *ℤ most) ≡ pos (n * q) *ℤ most
scale_of n q mass_is most is = rw is (*ℤ_left_comm (pos q) (pos n) most ∙ sym (*ℤ_assoc (pos n) (pos q) most))

lower_rest : (n a : ℕ) (mass_is rewards low less : ℤ) → mass_is ≡ pos n → less ≤ℤ low
    → (rewards +ℤ pos (n * a) *ℤ less) ≤ℤ (rewards +ℤ pos a *ℤ (mass_is *ℤ low))
lower_rest n a mass_is rewards low less is h = omega (arith, linear, scale_of n a mass_is low is, mul_le (n * a) _ _ h)

module _ (m : Meaning) (limits : HasLimitedNumbers m) (vectors charges : ℕ → ℕ → ℤ) (points : Points) (covers : Covers) (times : ℕ)
    (cover : Cover) (most : ℤ) (proper : IsProper (table_of m))
    (certificate : IsPointCertificate m vectors charges points covers times cover most) where
  pub from_start : PointsBoundFromStart m vectors points most
  from_start policy of k low below =
      let t = table_of m in
      let some : 0 < states_of m = omega arith in
      let x = step_scale t ^ k * one ^ k in
      let a = m.preamble.discount ^ k * step_scale t ^ k in
      let is = start_mass m limits in
      let all =
      ≤ℤ_trans _ _ _ (belief_at_most t _ _ _ _ proper certificate.informed certificate.charged certificate.backed low
      below k policy of some _ _ _ most certificate.start)
      (≤ℤ_from_eq _ _ (scale_of _ x _ most is)) in
      record {
        total = all;
        rewards = λ less least. ≤ℤ_trans _ _ _ (lower_rest _ a _ _ low less is (least 0 [] some tt))
            (≤ℤ_trans _ _ _ (≤ℤ_from_eq _ _ (sym (rewards_apart t _ _ _ _ proper certificate.informed
            certificate.charged certificate.backed low below k policy of _))) all);
      }

  -- ---- mixtures
  mixture_le : (f : ObservationPolicy → ℤ) (x : ℤ) → ((policy : ObservationPolicy) → IsPolicyOf (table_of m) (as_policy policy)
      → f policy ≤ℤ x) → (mixture : List (ℕ × ObservationPolicy)) → AllByRecursion (λ p. IsPolicyOf (table_of m) (as_policy p.1)) mixture
      → mixture_sum f mixture ≤ℤ (mixture_weight mixture *ℤ x)
  mixture_le f x each [] of = grind arith
  mixture_le f x each (p ∷ mixture) of =
      omega (arith, linear, +ℤ-*ℤ (pos p.0) (mixture_weight mixture) x, mixture_le f x each mixture of.1, mul_le p.0 _ _ (each p.1 of.0))

  pub mixtures : PointsBoundMixturesFromStart m vectors points most
  mixtures mixture of k low below =
      mixture_le _
      _ (λ policy is. (from_start policy is k low below).total) _ of

  -- ---- a number below all values
  some_row : (f : ℕ → ℤ) (n : ℕ) → (b : ℕ) × ((i : ℕ) → i < n → unsigned_abs (f i) ≤ b)
  some_row f zero = grind arith
  some_row f (suc n) = let (b, within) = some_row f n in (b + unsigned_abs (f n), grind arith)

  some_table : (f : ℕ → ℕ → ℤ) (rows n : ℕ) → (b : ℕ) × ((i j : ℕ) → i < rows → j < n → unsigned_abs (f i j) ≤ b)
  some_table f rows n = let (b, within) = some_row (λ i. pos (some_row (f i) n).0) rows in
      (b, grind arith)

  low_of : (b c : ℕ) (x : ℤ) → unsigned_abs x ≤ c → c ≤ b → neg_ℤ (pos b) ≤ℤ x
  low_of b c x h l = grind arith

  pub some_low : (b : ℕ) × IsBelowValues (table_of m) vectors points (neg_ℤ (pos b))
  some_low =
      let (b, first) = some_table vectors _ _ in
      let (c, second) = some_table points.value _ _ in (
        b + c,
        record {
          vectors_above = λ a s al sl. low_of _ b _ (first a s al sl) (omega arith);
          points_above = λ i a il al. low_of _ c _ (second i a il al) (omega arith);
        },
      )

  -- ---- in the long run
  pub earns_at_most : m.preamble.discount < one → (policy : ObservationPolicy) → IsPolicyOf (table_of m) (as_policy policy)
      → EarnsAtMost m (as_policy policy) most
  earns_at_most less policy of =
      let (b, below) = some_low in
      at_most_if_bounded m _ _ b most less (λ s history sl f. ≤ℤ_from_eq _ _ refl_of)
      (λ k. from_start policy of k _ below)
    where
      refl_of : {x : ℤ} → x ≡ x
      refl_of {x} = λ i. x

  -- ---- with a bound from below
  both_algebra : (scale : ℕ) (rewards low high : ℤ) → 0 < scale → (pos (3 * scale) *ℤ low) ≤ℤ (pos 3 *ℤ rewards +ℤ pos scale)
      → (pos 3 *ℤ rewards) ≤ℤ (pos (3 * scale) *ℤ high +ℤ pos scale) → low ≤ℤ high
  both_algebra scale rewards low high some h k =
      let three : (pos 3 *ℤ low) ≤ℤ (pos 3 *ℤ high +ℤ pos 2) =
      cancel scale (pos 3 *ℤ low) (pos 3 *ℤ high +ℤ pos 2) some
      (omega (
        arith,
        linear,
        h,
        k,
        *ℤ_left_comm (pos scale) (pos 3) low,
        *ℤ_assoc (pos 3) (pos scale) low,
        *ℤ-+ℤ (pos scale)
            (pos 3 *ℤ high) (pos 2),
        *ℤ_left_comm (pos scale) (pos 3) high,
        *ℤ_assoc (pos 3) (pos scale) high,
      )) in
      omega (arith, linear, below_cancel 3 low (high +ℤ pos 1) (omega (arith, linear, three, *ℤ-+ℤ (pos 3) high (pos 1))))

  pub encloses : m.preamble.discount < one → ((k : ℕ) → 0 < start_scale m k) → (low : ℤ) (policy : ObservationPolicy)
      → IsPolicyOf (table_of m) (as_policy policy) → EarnsAtLeast m (as_policy policy) low → EncloseOptimum m low most
  encloses less scales low policy of earns = record {
    policy = policy;
    is_policy = of;
    at_least = earns;
    at_most = earns_at_most less;
    ordered =
        let (first, above) = earns 3 (omega arith) in
        let (second, under) = earns_at_most less policy of 3 (omega arith) in
        let k = first + second in
        both_algebra _ (start_rewards m _ k) low most (scales k) (above k (omega arith))
        (under k (omega arith));
  }

-- ---- with a yes from below of any graph
pow_some : (n k : ℕ) → 0 < n → 0 < n ^ k
pow_some n zero some = rw (pow-zero n) (omega arith)
pow_some n (suc k) some = rw (pow-suc n k) (positive_product _ n (pow_some n k some) some)

one_some : 0 < one
unfolding one
one_some = omega arith

pub scale_some : (m : Meaning) → HasLimitedNumbers m → (k : ℕ) → 0 < start_scale m k
scale_some m limits k =
    let (t_some, o_some) = scales _ (table_within m limits) in
    positive_product _ _ limits.start_some
    (positive_product _ _
    (pow_some _ k (grind arith))
    (pow_some one k one_some))

pub graph_and_points : (m : Meaning) (graph : PolicyGraph) (low : PolicyVectors) (vectors charges : ℕ → ℕ → ℤ) (points : Points)
    (covers : Covers) (times : ℕ) (cover : Cover) → HasLimitedNumbers m → IsProper (table_of m) → IsProperGraph graph
    → FitsModel (table_of m) graph low → Passes (controller_of (table_of m) graph low) → m.preamble.discount < one
    → (n : ℕ) (worth most : ℤ) → n < nodes graph → IsStartWorth m low n worth
    → IsPointCertificate m vectors charges points covers times cover most
    → EncloseOptimum m worth most
graph_and_points m graph low vectors charges points covers times cover limits proper known fits passes less n worth most nl is certificate =
    encloses m limits _ _ _ _ _ _ most proper certificate less (scale_some m limits) _
    (node_policy m limits _ low proper known fits passes less n nl _ is)
    ((earns m limits _ low proper known fits passes less n nl _ is).is_policy)
    (earns_at_least m limits _ low proper known fits passes less n nl _ is)
