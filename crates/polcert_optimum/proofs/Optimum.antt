-- What policies earn from a model's start in the long run, where the discount is below 1.
use Rattle.std.proofs.Common.{◌≡◌, ℕ, ◌*◌, ◌^◌, ◌<◌, ◌≤◌, ℤ, pos, neg_ℤ, ◌+ℤ◌, ◌*ℤ◌, ◌≤ℤ◌, Some, sym, subst, arith}
use Rattle.std.proofs.Math.Nat.{mul-le-mul_left}
use Rattle.polcert_optimum.proofs.Common.{Meaning, HasLimitedNumbers, states_of, start_total, IsProper}
use Rattle.polcert_optimum.proofs.Common.{IsWithinLimits, table_of, action_of, PolicyVectors, value_of, Controller, controller_of, one}
use Rattle.polcert_optimum.proofs.Common.{IsRunInRange, History, Policy, ObservationPolicy, as_policy, IsPolicyOf, step_scale}
use Rattle.polcert_optimum.proofs.Common.{AreInformed, graph_policy, EarnsAsItsPolicy, sum_over_start}
use Rattle.polcert_optimum.proofs.Common.{AreAtMostFromStart, IsBoundedFromStart, BoundsEveryPolicyFromStart}
use Rattle.polcert_optimum.proofs.Common.{BoundEveryObservationPolicyFromStart}
use Rattle.polcert_policy.specs.Graphs.{PolicyGraph, IsProperGraph, nodes}
use Rattle.polcert_check.specs.Horizon.{Fits}
use Rattle.polcert_check.specs.Shortfall.{Passes}
use Rattle.polcert_check.specs.StartWorth.{IsStartWorth}
use Rattle.polcert_check.proofs.Certificates.{controller_is}
use Rattle.polcert_check.proofs.Sums.Ring.{linear, below_cancel, *ℤ-+ℤ, *ℤ_assoc, mul_le, ≤ℤ_trans, ≤ℤ_from_eq}
use Rattle.polcert_check.proofs.Sums.SumLaws.{sum_below_le}
use Rattle.polcert_check.proofs.Horizons.EveryHorizon.{promised}
use Rattle.polcert_check.proofs.Horizons.StartSums.{mean_le}
use Rattle.polcert_check.proofs.Mirrors.Interval.{some_row, some_bound}
use Rattle.polcert_check.proofs.Horizons.Kept.{LacksNone-from_Passes}
use Rattle.polcert_optimum.specs.Optimum.{EarnsAtLeast, EarnsAtMost, EncloseOptimum}
use Rattle.polcert_optimum.proofs.Bounded.{end_state_in_range}
use Rattle.polcert_optimum.proofs.EveryGraph.{every_graph}
use Rattle.polcert_optimum.proofs.GraphPolicies.{earns_as_policy}
use Rattle.polcert_optimum.proofs.Start.{sum_more, informed_from_start}
use Rattle.polcert_optimum.proofs.Vanishing.{vanishes, at_least, at_most}

pub table_within : (m : Meaning) → HasLimitedNumbers m → IsWithinLimits (table_of m)
table_within m limits = grind arith

-- ---- the remainder
-- the total of the start times what is left of the discount, for a tolerance of 1 / d and values within b
pub remainder : (total d b g q h : ℕ) → g * (d * b) ≤ h → d * (total * (g * q) * b) ≤ total * (q * h)
remainder total d b g q h less = omega (arith, mul-le-mul_left (total * q) less)

pub upper_algebra : (d a b scale : ℕ) (rewards bound : ℤ) → (rewards +ℤ pos a *ℤ neg_ℤ (pos b)) ≤ℤ bound → d * (a * b) ≤ scale
    → (pos d *ℤ rewards) ≤ℤ (pos d *ℤ bound +ℤ pos scale)
upper_algebra d a b scale rewards bound h less =
    let below : rewards ≤ℤ (bound +ℤ pos (a * b)) = grind arith in
    omega (arith, linear, *ℤ-+ℤ (pos d) bound (pos (a * b)), mul_le d _ _ below)

lower_algebra : (d a b scale : ℕ) (rewards bound : ℤ) → bound ≤ℤ (rewards +ℤ pos (a * b)) → d * (a * b) ≤ scale
    → (pos d *ℤ bound) ≤ℤ (pos d *ℤ rewards +ℤ pos scale)
lower_algebra d a b scale rewards bound h less = omega (arith, linear, *ℤ-+ℤ (pos d) rewards (pos (a * b)), mul_le d _ _ h)

-- ---- at most what the bound is worth
pub at_most_if_bounded : (m : Meaning) (policy : Policy) (end : ℕ → History → ℤ) (b : ℕ) (most : ℤ) → m.preamble.discount < one
    → ((s : ℕ) (history : History) → s < states_of m → IsRunInRange (table_of m) history → neg_ℤ (pos b) ≤ℤ end s history)
    → ((k : ℕ) → IsBoundedFromStart m end (λ s. policy) k most) → EarnsAtMost m policy most
at_most_if_bounded m policy end b most less least bounds d some =
    let g : ℕ = m.preamble.discount in (
      _,
      (λ k late.
          let q : ℕ = step_scale (table_of m) ^ k in
          let a : ℕ = start_total m * (g ^ k * q) in
          let small = remainder _ d b _ q _ (vanishes g one _ k less late)
          in
          ≤ℤ_trans _ _ _
          (upper_algebra d a b _ _ _
          ((bounds k).rewards _ least) small)
          (≤ℤ_from_eq _ _ (cc (*ℤ_assoc (pos d) _ most)))),
    )

pub earns_at_most : (m : Meaning) (vectors : ℕ → ℕ → ℤ) (most : ℤ) → m.preamble.discount < one
    → BoundEveryObservationPolicyFromStart m vectors most
    → (policy : ObservationPolicy) → IsPolicyOf (table_of m) (as_policy policy) → EarnsAtMost m (as_policy policy) most
earns_at_most m vectors most less bound policy of =
    let (b, within) = some_bound vectors _ _ in
    at_most_if_bounded m _ _ b most less
    (λ s history sl f. at_least _ b (within _ _ (of _ f) (end_state_in_range (table_of m) _ s sl f)))
    (bound policy of)

-- a policy that sees the states too
pub every_policy_earns_at_most : (m : Meaning) (value : ℕ → ℤ) (most : ℤ) → m.preamble.discount < one
    → BoundsEveryPolicyFromStart m value most
    → (policy : Policy) → IsPolicyOf (table_of m) policy → EarnsAtMost m policy most
every_policy_earns_at_most m value most less bound policy of =
    let (b, within) = some_row value _ in
    at_most_if_bounded m _ _ b most less
    (λ s history sl f. at_least _ b (within _ (end_state_in_range (table_of m) _ s sl f)))
    (bound _ (λ s. of))

-- ---- at least what a node is worth
-- what is at least x times the value at each state, less y times b, is so in the mean
mean_ge : (m : Meaning) → HasLimitedNumbers m → (x y b : ℕ) (value rewards : ℕ → ℤ) (worth : ℤ)
    → (pos (start_total m) *ℤ worth) ≤ℤ sum_over_start m value
    → ((s : ℕ) → s < states_of m → (pos x *ℤ value s) ≤ℤ (rewards s +ℤ pos y *ℤ pos b))
    → (pos (start_total m * x) *ℤ worth) ≤ℤ (sum_over_start m rewards +ℤ pos (start_total m * y * b))
mean_ge m limits x y b value rewards worth mean each =
    let same : start_total m * (y * b) ≡ start_total m * y * b = omega arith in
    rw (sym same, sym (sum_more m limits rewards (pos (y * b))))
    (mean_le _ _ x _ worth value _ mean
    each)

module _ (m : Meaning) (limits : HasLimitedNumbers m) (g : PolicyGraph) (v : PolicyVectors) (proper : IsProper (table_of m))
    (known : IsProperGraph g) (fits : Fits (table_of m) g v)
    (passes : Passes (controller_of (table_of m) g v)) (less : m.preamble.discount < one) (n : ℕ) (nl : n < nodes g) (worth : ℤ)
    (is_worth : IsStartWorth m v n worth) where
  abbrev pub c : Controller
  c = controller_of (table_of m) g v

  abbrev pub node_policy : ObservationPolicy
  node_policy = graph_policy c (Some n)

  pub earns : EarnsAsItsPolicy c n
  earns =
      earns_as_policy c (controller_is _ g v fits proper known) (omega arith)
      (LacksNone-from_Passes c passes) n nl

  pub earns_at_least : EarnsAtLeast m (as_policy node_policy) worth
  earns_at_least d some =
      let t = table_of m in
      let discount : ℕ = m.preamble.discount in
      let (b, within) = some_bound (value_of v) _ _ in (
        _,
        (λ k late.
            let q : ℕ = step_scale t ^ k in
            let x : ℕ = q * one ^ k in
            let y : ℕ = discount ^ k * q in
            let a : ℕ = start_total m * y in
            let each : (s : ℕ) → s < states_of m → (pos x *ℤ value_of v n s) ≤ℤ
            _ =
            λ s sl. subst (λ (r : ℤ). (pos x *ℤ value_of v n s) ≤ℤ (r +ℤ pos y *ℤ pos b)) (earns.earns k s sl)
            ((promised t g v proper known fits passes k n s nl sl).1.rewarded _ (λ i u il ul. at_most _ b (within i u il ul))) in
            let mean =
            mean_ge m limits x y b _ _ worth is_worth.0 each in
            let small = remainder _ d b _ q _
            (vanishes _ one _ k less late) in
            ≤ℤ_trans _ _ _
            (≤ℤ_from_eq _ _ (*ℤ_assoc (pos d) (pos _) worth))
            (lower_algebra d a b _ _ _ mean
            small)),
      )

  -- ---- the optimum between both
  pub cancel : (t : ℕ) (x y : ℤ) → 0 < t → (pos t *ℤ x) ≤ℤ (pos t *ℤ y) → x ≤ℤ y
  cancel t x y some h = omega (arith, linear, below_cancel t x (y +ℤ pos 1) (omega (arith, linear, *ℤ-+ℤ (pos t) y (pos 1))))

  pub encloses : (vectors : ℕ → ℕ → ℤ) → AreInformed (table_of m) vectors → (most : ℤ) → AreAtMostFromStart m vectors most
      → EncloseOptimum m worth most
  encloses vectors informed most mean =
      let a : ℕ = action_of g n in
      let al = (controller_is _ g v fits proper known).closed.actions_in_range n nl in
      let values =
      sum_below_le _ _ _ (λ s sl. mul_le _ _ _
      (every_graph _ vectors proper (table_within m limits) less informed g v known fits passes n s nl sl)) in
      record {
        policy = node_policy;
        is_policy = earns.is_policy;
        at_least = earns_at_least;
        at_most = earns_at_most m vectors most less (informed_from_start m limits _ proper informed most mean);
        ordered = cancel _ worth most limits.start_some (≤ℤ_trans _ _ _ is_worth.0 (≤ℤ_trans _ _ _ values (mean a al)));
      }
