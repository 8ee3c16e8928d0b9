-- What a graph's own policy earns in the long run, and how two policies compare.
use Rattle.std.proofs.Common.{◌≡◌, ℕ, ◌+◌, ◌*◌, ◌^◌, ◌<◌, ℤ, pos, neg_ℤ, ◌+ℤ◌, ◌-ℤ◌, ◌*ℤ◌, ◌≤ℤ◌, List, Some}
use Rattle.std.proofs.Common.{refl, sym, ap, ◌∙◌, subst, arith}
use Rattle.polcert_optimum.proofs.Common.{Meaning, HasLimitedNumbers, states_of, start_total, IsProper, table_of}
use Rattle.polcert_optimum.proofs.Common.{PolicyVectors, value_of, CellTable, Controller, controller_of, one, Policy, ObservationPolicy}
use Rattle.polcert_optimum.proofs.Common.{as_policy, IsPolicyOf, step_scale, expected_rewards, AreInformed, graph_policy, EarnsAsItsPolicy}
use Rattle.polcert_optimum.proofs.Common.{start_scale, AreAtMostFromStart, sum_over_start}
use Rattle.polcert_policy.specs.Graphs.{PolicyGraph, IsProperGraph, nodes}
use Rattle.polcert_check.specs.Horizon.{Fits}
use Rattle.polcert_check.specs.Shortfall.{Passes}
use Rattle.polcert_check.specs.Above.{PassesAbove}
use Rattle.polcert_check.specs.StartWorth.{IsStartWorth}
use Rattle.polcert_check.specs.StartMost.{IsStartMost}
use Rattle.polcert_check.proofs.Certificates.{controller_is}
use Rattle.polcert_check.proofs.Sums.Ring.{linear, *ℤ-+ℤ, +ℤ-*ℤ, neg_product, *ℤ_assoc, ≤ℤ_trans, ≤ℤ_from_eq}
use Rattle.polcert_check.proofs.Mirrors.FromAbove.{horizons_above}
use Rattle.polcert_check.proofs.Horizons.EveryHorizon.{promised}
use Rattle.polcert_check.proofs.Horizons.StartSums.{mean_le}
use Rattle.polcert_check.proofs.Horizons.Kept.{LacksNone-from_Passes}
use Rattle.polcert_check.proofs.Mirrors.Interval.{some_bound}
use Rattle.polcert_optimum.specs.Optimum.{EarnsAtLeast, EarnsAtMost}
use Rattle.polcert_optimum.specs.Earnings.{policy_from, AreRewardsAtLeast, AreRewardsAtMost, EarnsAtMostMore}
use Rattle.polcert_optimum.specs.Earnings.{IsOptimalTo}
use Rattle.polcert_optimum.specs.Seen.{seen_rewards, SeenEarnsAtMost}
use Rattle.polcert_optimum.proofs.GraphPolicies.{earns_as_policy}
use Rattle.polcert_optimum.proofs.Start.{sum_more, rewards_le, informed_from_start}
use Rattle.polcert_optimum.proofs.Vanishing.{vanishes, at_least}
use Rattle.polcert_optimum.proofs.Optimum.{remainder, upper_algebra, earns, earns_at_least, earns_at_most}

-- ---- the graph's own policy is the one of its controller, whatever the vectors
module _ (t : CellTable) (g : PolicyGraph) (v : PolicyVectors) where
  action_is : (n : ℕ) (observations : List ℕ) → policy_from g n observations ≡ graph_policy (controller_of t g v) (Some n) observations
  action_is n observations = grind arith

  pub same_policy : (n : ℕ) → policy_from g n ≡ graph_policy (controller_of t g v) (Some n)
  same_policy n = λ i observations. action_is n observations i

-- ---- at most, in the long run, from what holds for every number of steps
pub at_most_if_less : (m : Meaning) (policy : ℕ → Policy) (b : ℕ) (most : ℤ) → m.preamble.discount < one
    → ((k : ℕ) → (seen_rewards m policy k +ℤ pos (start_total m * (m.preamble.discount ^ k * step_scale (table_of m) ^ k)) *ℤ neg_ℤ (pos b))
    ≤ℤ (pos (start_scale m k) *ℤ most))
    → SeenEarnsAtMost m policy most
at_most_if_less m policy b most less bounds d some =
    let g : ℕ = m.preamble.discount in (
      _,
      (λ k late.
          let q : ℕ = step_scale (table_of m) ^ k in
          let a : ℕ = start_total m * (g ^ k * q) in
          let small = remainder _ d b _ q _ (vanishes g one _ k less late)
          in
          ≤ℤ_trans _ _ _
          (upper_algebra d a b _ _ _ (bounds k) small)
          (≤ℤ_from_eq _ _ (ap (λ (x : ℤ). x +ℤ pos (start_scale m k)) (sym (*ℤ_assoc (pos d) (pos _) most))))),
    )

-- ---- a graph whose vectors pass from above
pub own_rewards_at_most : (m : Meaning) → HasLimitedNumbers m → (g : PolicyGraph) (v : PolicyVectors) → IsProper (table_of m)
    → IsProperGraph g → Fits (table_of m) g v → PassesAbove (controller_of (table_of m) g v) → (n : ℕ) → n < nodes g
    → (most : ℤ) → IsStartMost m v most → (k : ℕ) (bottom : ℤ) → ((i s : ℕ) → i < nodes g → s < states_of m → bottom ≤ℤ value_of v i s)
    → AreRewardsAtMost m (as_policy (policy_from g n)) k bottom most
own_rewards_at_most m limits g v proper known fits passes n nl most is k bottom within =
    let t = table_of m in
    let c = controller_of t g v in
    let own = earns_as_policy c (controller_is t g v fits proper known) (omega arith)
    (λ i s z il sl. (passes i s il sl).lacks_none z) n nl in
    subst (λ (p : ObservationPolicy). AreRewardsAtMost m (as_policy p) k bottom most) (sym (same_policy t g v n))
    (rewards_le m limits _ _ _
    _ _ most
    (λ s sl. subst (λ (r : ℤ). (r +ℤ pos (m.preamble.discount ^ k * step_scale t ^ k) *ℤ bottom) ≤ℤ
    (pos (step_scale t ^ k * one ^ k) *ℤ value_of v n s)) (own.earns k s sl)
    ((horizons_above c (controller_is t g v fits proper known) passes k n s nl sl).1.rewarded _ within))
    (≤ℤ_trans _ _ _ (is.1.none_greater n (omega arith)) is.2.0))

module _ (m : Meaning) (limits : HasLimitedNumbers m) (g : PolicyGraph) (v : PolicyVectors) (proper : IsProper (table_of m))
    (known : IsProperGraph g) (fits : Fits (table_of m) g v)
    (passes : PassesAbove (controller_of (table_of m) g v)) (less : m.preamble.discount < one) (n : ℕ) (nl : n < nodes g) where
  abbrev c : Controller
  c = controller_of (table_of m) g v

  above_earns : EarnsAsItsPolicy c n
  above_earns =
      earns_as_policy c (controller_is _ g v fits proper known) (omega arith)
      (λ i s z il sl. (passes i s il sl).lacks_none z) n nl

  graph_at_most : (most : ℤ) → sum_over_start m (value_of v n) ≤ℤ (pos (start_total m) *ℤ most)
      → EarnsAtMost m (as_policy (graph_policy c (Some n))) most
  graph_at_most most mean =
      let t = table_of m in
      let (b, within) = some_bound (value_of v) _ _ in
      at_most_if_less m _ b most less
      (λ k. rewards_le m limits _ _ _
      _ _ most
      (λ s sl. subst (λ (r : ℤ). (r +ℤ pos (m.preamble.discount ^ k * step_scale t ^ k) *ℤ neg_ℤ (pos b)) ≤ℤ
      (pos (step_scale t ^ k * one ^ k) *ℤ value_of v n s)) (above_earns.earns k s sl)
      ((horizons_above c (controller_is t g v fits proper known) passes k n s nl sl).1.rewarded _
      (λ i u il ul. at_least _ b (within i u il ul))))
      mean)

  pub own_at_most : (most : ℤ) → IsStartMost m v most → EarnsAtMost m (as_policy (policy_from g n)) most
  own_at_most most is =
      subst (λ (p : ObservationPolicy). EarnsAtMost m (as_policy p) most) (sym (same_policy (table_of m) g v n))
      (graph_at_most most (≤ℤ_trans _ _ _ (is.1.none_greater n (omega arith)) is.2.0))

-- ---- a graph whose vectors pass from below
pub own_rewards_at_least : (m : Meaning) → HasLimitedNumbers m → (g : PolicyGraph) (v : PolicyVectors) → IsProper (table_of m)
    → IsProperGraph g → Fits (table_of m) g v → Passes (controller_of (table_of m) g v) → (n : ℕ) → n < nodes g
    → (worth : ℤ) → IsStartWorth m v n worth → (k : ℕ) (top : ℤ) → ((i s : ℕ) → i < nodes g → s < states_of m → value_of v i s ≤ℤ top)
    → AreRewardsAtLeast m (as_policy (policy_from g n)) k top worth
own_rewards_at_least m limits g v proper known fits passes n nl worth is k top within =
    let t = table_of m in
    let c = controller_of t g v in
    let x : ℕ = step_scale t ^ k * one ^ k in
    let y : ℕ = m.preamble.discount ^ k * step_scale t ^ k in
    let own = earns_as_policy c (controller_is t g v fits proper known) (omega arith) (LacksNone-from_Passes c passes) n
    nl in
    let rewards = λ (s : ℕ). expected_rewards t _ k s in
    let each : (s : ℕ) → s < states_of m → (pos x *ℤ value_of v n s) ≤ℤ _ =
    λ s sl. subst (λ (r : ℤ). (pos x *ℤ value_of v n s) ≤ℤ (r +ℤ pos y *ℤ top)) (own.earns k s sl)
    ((promised t g v proper known fits passes k n s nl sl).1.rewarded top within) in
    let mean =
    mean_le _ _ x _ worth _ _ is.0 each in
    subst (λ (p : ObservationPolicy). AreRewardsAtLeast m (as_policy p) k top worth) (sym (same_policy t g v n))
    (≤ℤ_trans _ _ _ mean (≤ℤ_from_eq _ _ (sum_more m limits _ _
    ∙ ap (λ (z : ℤ). sum_over_start m rewards +ℤ z) (sym (*ℤ_assoc (pos _) (pos y) top)))))

module _ (m : Meaning) (limits : HasLimitedNumbers m) (g : PolicyGraph) (v : PolicyVectors) (proper : IsProper (table_of m))
    (known : IsProperGraph g) (fits : Fits (table_of m) g v)
    (passes : Passes (controller_of (table_of m) g v)) (less : m.preamble.discount < one) (n : ℕ) (nl : n < nodes g) (worth : ℤ)
    (is_worth : IsStartWorth m v n worth) where
  pub own_at_least : EarnsAtLeast m (as_policy (policy_from g n)) worth
  own_at_least =
      subst (λ (p : ObservationPolicy). EarnsAtLeast m (as_policy p) worth) (sym (same_policy (table_of m) g v n))
      (earns_at_least m limits g v proper known fits passes less n nl worth is_worth)

  pub own_is_policy : IsPolicyOf (table_of m) (as_policy (policy_from g n))
  own_is_policy =
      subst (λ (p : ObservationPolicy). IsPolicyOf (table_of m) (as_policy p)) (sym (same_policy (table_of m) g v n))
      (earns m limits g v proper known fits passes less n nl worth is_worth).is_policy

-- ---- two policies
twice : (n a : ℕ) (x : ℤ) → n ≡ 2 * a → pos n *ℤ x ≡ pos a *ℤ x +ℤ pos a *ℤ x
twice n a x is = ap (λ (i : ℕ). pos i *ℤ x) (omega arith) ∙ +ℤ-*ℤ (pos a) (pos a) x

-- both tolerances are halves
halves : (d scale : ℕ) (low high r q : ℤ) → (pos (2 * d * scale) *ℤ low) ≤ℤ (pos (2 * d) *ℤ r +ℤ pos scale)
    → (pos (2 * d) *ℤ q) ≤ℤ (pos (2 * d * scale) *ℤ high +ℤ pos scale)
    → (pos d *ℤ q) ≤ℤ (pos d *ℤ r +ℤ pos (d * scale) *ℤ (high -ℤ low) +ℤ pos scale)
halves d scale low high r q h1 h2 =
    let spread =
    *ℤ-+ℤ (pos _) high _ ∙ ap (λ (x : ℤ). pos (d * scale) *ℤ high +ℤ x) (neg_product (pos _) low) in
    omega (
      arith,
      linear,
      h1,
      h2,
      spread,
      twice (2 * d * scale) (d * scale) low (omega arith),
      twice (2 * d * scale) (d * scale) high (omega arith),
      twice _ d r refl,
      twice _ d q refl,
    )

pub compared : (m : Meaning) (policy other : Policy) (low high : ℤ) → EarnsAtLeast m policy low → EarnsAtMost m other high
    → EarnsAtMostMore m policy other (high -ℤ low)
compared m policy other low high below above d some =
    let (one_first, one_from) = below (2 * d) (omega arith) in
    let (other_first, other_from) = above (2 * d) (omega arith) in (
      one_first + other_first,
      (λ k late. halves d _ low high _ _ (one_from k (omega arith)) (other_from k (omega arith))),
    )

-- how far the graph's own policy is from the best
pub optimal_to : (m : Meaning) → HasLimitedNumbers m → (g : PolicyGraph) (v : PolicyVectors) → IsProper (table_of m) → IsProperGraph g
    → Fits (table_of m) g v → Passes (controller_of (table_of m) g v) → m.preamble.discount < one
    → (n : ℕ) → n < nodes g → (worth : ℤ) → IsStartWorth m v n worth → (vectors : ℕ → ℕ → ℤ) → AreInformed (table_of m) vectors → (most : ℤ)
    → AreAtMostFromStart m vectors most → IsOptimalTo m (policy_from g n) (most -ℤ worth)
optimal_to m limits g v proper known fits passes less n nl worth is_worth vectors informed most mean = record {
  is_policy = own_is_policy m limits g v proper known fits passes less n nl worth is_worth;
  none_better = λ other of. compared m _ _ worth most (own_at_least m limits g v proper known fits passes less n nl worth is_worth)
      (earns_at_most m vectors most less (informed_from_start m limits _ proper informed most mean) other of);
}
