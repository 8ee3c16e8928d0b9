-- From a model's start, and in the long run.
use Rattle.std.proofs.Common.{◌≡◌, ℕ, zero, suc, ◌+◌, ◌-◌, ◌*◌, ◌^◌, ◌<◌, ◌≤◌, ℤ, pos, ◌+ℤ◌, ◌*ℤ◌, ◌≤ℤ◌, List, [], ◌∷◌, unsigned_abs, refl}
use Rattle.std.proofs.Common.{sym, ap, ◌∙◌, arith}
use Rattle.std.proofs.Math.Nat.{mul-le-mul_left}
use Rattle.std.specs.List.{AllByRecursion}
use Rattle.polcert_belief.proofs.Common.{mass, Selector, policy_of, PicksWithin, discounts, EarnsWithin, CellTable, Controller, IsProper}
use Rattle.polcert_belief.proofs.Common.{AtMost, one, Passes, IsController, ObservationPolicy, as_policy, expected_total, step_scale}
use Rattle.polcert_belief.proofs.Common.{value_at_end, *ℤ-zero, zero-*ℤ, pow-suc, pow-zero}
use Rattle.polcert_cells.specs.Meaning.{HasLimitedNumbers, Meaning, start_total, start_weight, states_of}
use Rattle.polcert_cells.specs.Tables.{table_of}
use Rattle.polcert_policy.specs.Graphs.{PolicyGraph, IsProperGraph, nodes}
use Rattle.polcert_policy.specs.Vectors.{PolicyVectors, value_of}
use Rattle.polcert_check.specs.Horizon.{Fits, controller_of}
use Rattle.polcert_check.specs.StartWorth.{IsStartWorth}
use Rattle.polcert_check.proofs.Certificates.{controller_is}
use Rattle.polcert_check.proofs.Sums.Ring.{linear, products, *ℤ_assoc, *ℤ-+ℤ, +ℤ-*ℤ, mul_le, ≤ℤ_trans, ≤ℤ_from_eq}
use Rattle.polcert_check.proofs.Sums.RowTotals.{sum_of_pos}
use Rattle.polcert_check.proofs.Horizons.StartSums.{start_row}
use Rattle.polcert_check.proofs.Mirrors.Interval.{some_bound}
use Rattle.polcert_optimum.specs.Bound.{mixture_weight, mixture_sum}
use Rattle.polcert_optimum.specs.Start.{start_scale, sum_over_start}
use Rattle.polcert_optimum.specs.Optimum.{start_rewards, EarnsAtLeast, EncloseOptimum}
use Rattle.polcert_optimum.specs.Seen.{EncloseSeenOptimum}
use Rattle.polcert_optimum.proofs.Vanishing.{vanishes, at_most}
use Rattle.polcert_belief.specs.FromStart.{EarnsFromStart, EarnsFromStartWithin, IsBelowWithin, MixtureEarnsAtLeast, MixtureEarnsWithin}
use Rattle.polcert_belief.specs.FromStart.{all_discounts, start_loss}
use Rattle.polcert_belief.specs.Ahead.{LooksAheadWithin}
use Rattle.polcert_belief.proofs.Backing.{discounts_suc, step_discounts, few_steps, is_policy}
use Rattle.polcert_belief.proofs.Near.{cancel}
use Rattle.polcert_belief.proofs.Picking.{best_is_no_worse}
use Rattle.polcert_belief.proofs.Rewards.{earns_within, earns_ahead, exactly, more_le, with_most}

mass_is : (m : Meaning) → HasLimitedNumbers m → mass (table_of m) (start_weight m) ≡ start_total m
mass_is m limits = ap unsigned_abs (sym (sum_of_pos (start_weight m) (states_of m)) ∙ start_row m limits)

-- ---- one pick, from the start
factor_out : (d x w : ℤ) → (d *ℤ x) *ℤ w ≡ x *ℤ (d *ℤ w)
factor_out d x w = simp products

pick_nat : (q o e by m : ℕ) → (q * o) * (by * m) + by * (m * q * e) ≡ by * q * (o + e) * m
pick_nat q o e by m = omega arith

-- one pick, with what follows it
pick_le : (d q o e by m : ℕ) (wm ws b : ℤ) → (pos d *ℤ wm) ≤ℤ (pos d *ℤ ws +ℤ pos (by * m))
    → (pos (d * (q * o)) *ℤ ws) ≤ℤ (pos d *ℤ b +ℤ pos (by * (m * q * e)))
    → (pos (d * (q * o)) *ℤ wm) ≤ℤ (pos d *ℤ b +ℤ pos (by * q * (o + e)) *ℤ pos m)
pick_le d q o e by m wm ws b h k =
    let x : ℕ = q * o in
    let scaled : (pos x *ℤ (pos d *ℤ wm)) ≤ℤ (pos x *ℤ (pos d *ℤ ws +ℤ pos (by * m))) = mul_le x _ _ h in
    let left : pos (d * x) *ℤ wm ≡ pos x *ℤ (pos d *ℤ wm) = factor_out (pos d) (pos x) wm in
    let right : pos x *ℤ (pos d *ℤ ws +ℤ pos (by * m)) ≡ pos (d * x) *ℤ ws +ℤ pos (x * (by * m)) =
    *ℤ-+ℤ (pos x) (pos d *ℤ ws) (pos (by * m)) ∙ ap (λ (y : ℤ). y +ℤ pos (x * (by * m))) (sym (factor_out (pos d) (pos x) ws)) in
    let lost : (q * o) * (by * m) + by * (m * q * e) ≡ by * q * (o + e) * m = pick_nat q o e by m in
    let both : pos (x * (by * m)) +ℤ pos (by * (m * q * e)) ≡ pos (by * q * (o + e)) *ℤ pos m = ap pos lost in
    omega (arith, linear, scaled, left, right, both, k)

start_le : (d q o e by total : ℕ) (worth wn wf y : ℤ) → (pos total *ℤ worth) ≤ℤ wn → (pos d *ℤ wn) ≤ℤ (pos d *ℤ wf +ℤ pos (by * total))
    → (pos (d * (q * o)) *ℤ wf) ≤ℤ (pos d *ℤ y +ℤ pos (by * (total * q * e)))
    → (pos (d * (total * (q * o))) *ℤ worth) ≤ℤ (pos d *ℤ y +ℤ pos (by * (total * q * (o + e))))
start_le d q o e by total worth wn wf y mean first earned =
    let x : ℕ = d * (q * o) in
    let picked : (pos x *ℤ wn) ≤ℤ (pos d *ℤ y +ℤ pos (by * q * (o + e)) *ℤ pos total) = pick_le d q o e by total wn wf y first earned in
    let scaled : (pos x *ℤ (pos total *ℤ worth)) ≤ℤ (pos x *ℤ wn) = mul_le x _ _ mean in
    let order : d * (total * (q * o)) ≡ x * total = omega arith in
    let left : pos (d * (total * (q * o))) *ℤ worth ≡ pos x *ℤ (pos total *ℤ worth) = ap (λ (n : ℕ). pos n *ℤ worth) order
    ∙ *ℤ_assoc (pos x) (pos total) worth in
    let lost : by * (total * q * (o + e)) ≡ by * q * (o + e) * total = omega arith in
    let right : pos (by * (total * q * (o + e))) ≡ pos (by * q * (o + e)) *ℤ pos total = ap pos lost in
    omega (arith, linear, picked, scaled, left, right)

-- the same where the first pick is a best one, and the loss may be less
best_le : (d x total l k : ℕ) (worth wn wf y : ℤ) → (pos total *ℤ worth) ≤ℤ wn → wn ≤ℤ wf → (pos (d * x) *ℤ wf) ≤ℤ (pos d *ℤ y +ℤ pos l)
    → l ≤ k
    → (pos (d * (total * x)) *ℤ worth) ≤ℤ (pos d *ℤ y +ℤ pos k)
best_le d x total l k worth wn wf y mean best earned few =
    let scaled : (pos (d * x) *ℤ (pos total *ℤ worth)) ≤ℤ (pos (d * x) *ℤ wf) = mul_le (d * x) _ _ (≤ℤ_trans _ _ _ mean best) in
    let order : d * (total * x) ≡ d * x * total = omega arith in
    let left : pos (d * (total * x)) *ℤ worth ≡ pos (d * x) *ℤ (pos total *ℤ worth) = ap (λ (n : ℕ). pos n *ℤ worth) order
    ∙ *ℤ_assoc (pos (d * x)) (pos total) worth in
    omega (arith, linear, scaled, earned, left, few)

-- ---- 1 + discount + .. + discount ^ k, times 1 - discount
geometric_nat : (v g u o e p : ℕ) → u ≡ v + g → v * (o + e) + p ≡ u * o → v * (o * u + g * (o + e)) + g * p ≡ u * (o * u)
geometric_nat v g u o e p h k =
    let scaled : g * (v * (o + e) + p) ≡ g * (u * o) = ap (λ (n : ℕ). g * n) k in
    let parts : v * (o * u) + g * (u * o) ≡ u * (o * u) = rw h (omega arith) in
    omega (arith, scaled, parts)

geometric : (v g : ℕ) → one ≡ v + g → (k : ℕ) → v * all_discounts g k + g ^ suc k ≡ one * one ^ k
geometric v g h zero = rw (pow-suc g 0, pow-zero g, pow-zero one) (omega (arith, h))
geometric v g h (suc k) =
    let next = geometric_nat v g one (one ^ k) (discounts g k) (g ^ suc k) h (geometric v g h k) in
    rw (discounts_suc g k, pow-suc one k, pow-suc g (suc k)) (omega (arith, next))

few_discounts : (g k : ℕ) → g < one → (one - g) * all_discounts g k ≤ one * one ^ k
few_discounts g k less = omega (arith, geometric (one - g) g (omega arith) k)

-- ---- the remainder after k steps, for a tolerance of 1 / p
remainder : (total p b g q h : ℕ) → g * (p * b) ≤ h → p * (total * (g * q) * b) ≤ total * (q * h)
remainder total p b g q h less = omega (arith, mul-le-mul_left (total * q) less)

lower_algebra : (p a b scale : ℕ) (rewards bound : ℤ) → bound ≤ℤ (rewards +ℤ pos (a * b)) → p * (a * b) ≤ scale
    → (pos p *ℤ bound) ≤ℤ (pos p *ℤ rewards +ℤ pos scale)
lower_algebra p a b scale rewards bound h less =
    omega (arith, linear, *ℤ-+ℤ (pos p) rewards (pos (a * b)), mul_le p _ _ h)

swap_algebra : (s x low : ℤ) → s *ℤ (x *ℤ low) ≡ x *ℤ (s *ℤ low)
swap_algebra s x low = simp products

some_product : (d v : ℕ) → 0 < d → 0 < v → 0 < d * v
some_product d v h k = grind arith

lost_nat : (v by total q e u o s : ℕ) → s ≡ total * (q * o) → v * e ≤ u * o → v * (by * (total * q * e)) ≤ s * (by * u)
lost_nat v by total q e u o s is h = rw is (omega (arith, mul-le-mul_left (by * (total * q)) h))

-- what is lost by all picks is less than what `low` leaves
long_le : (d v by u s total q o e : ℕ) (worth low y : ℤ) → 0 < d → 0 < v → s ≡ total * (q * o) → v * e ≤ u * o
    → (pos (d * s) *ℤ worth) ≤ℤ (pos d *ℤ y +ℤ pos (by * (total * q * e)))
    → (pos (d * v) *ℤ low +ℤ pos (by * u)) ≤ℤ (pos (d * v) *ℤ worth) → (pos s *ℤ low) ≤ℤ y
long_le d v by u s total q o e worth low y some_d some_v is few earned leaves =
    let n : ℕ = d * v in
    let l1 : (pos v *ℤ (pos (d * s) *ℤ worth)) ≤ℤ (pos v *ℤ (pos d *ℤ y +ℤ pos (by * (total * q * e)))) = mul_le v _ _ earned in
    let l2 : (pos s *ℤ (pos n *ℤ low +ℤ pos (by * u))) ≤ℤ (pos s *ℤ (pos n *ℤ worth)) = mul_le s _ _ leaves in
    let order : v * (d * s) ≡ s * n = omega arith in
    let order2 : v * d ≡ n = omega arith in
    let e1 : pos v *ℤ (pos (d * s) *ℤ worth) ≡ pos s *ℤ (pos n *ℤ worth) = sym (*ℤ_assoc (pos v) (pos (d * s)) worth)
    ∙ ap (λ (m : ℕ). pos m *ℤ worth) order ∙ *ℤ_assoc (pos s) (pos n) worth in
    let e2 : pos v *ℤ (pos d *ℤ y +ℤ pos (by * (total * q * e))) ≡ pos n *ℤ y +ℤ pos (v * (by * (total * q * e))) =
    *ℤ-+ℤ (pos v) (pos d *ℤ y) (pos (by * (total * q * e)))
    ∙ ap (λ (x : ℤ). x +ℤ pos (v * (by * (total * q * e)))) (sym (*ℤ_assoc (pos v) (pos d) y) ∙ ap (λ (m : ℕ). pos m *ℤ y) order2) in
    let e3 : pos s *ℤ (pos n *ℤ low +ℤ pos (by * u)) ≡ pos n *ℤ (pos s *ℤ low) +ℤ pos (s * (by * u)) =
    *ℤ-+ℤ (pos s) (pos n *ℤ low) (pos (by * u)) ∙ ap (λ (x : ℤ). x +ℤ pos (s * (by * u))) (swap_algebra (pos s) (pos n) low) in
    let lost : v * (by * (total * q * e)) ≤ s * (by * u) = lost_nat v by total q e u o s is few in
    cancel n (pos s *ℤ low) y (some_product d v some_d some_v) (omega (arith, linear, l1, l2, e1, e2, e3, lost))

-- ---- mixtures
mixture_ge : {P : Type 0} (f : P → ℤ) (d l : ℕ) (x : ℤ) (Is : P → Type 0) → ((policy : P) → Is policy → x ≤ℤ (pos d *ℤ f policy +ℤ pos l))
    → (mixture : List (ℕ × P)) → AllByRecursion (λ p. Is p.1) mixture
    → (mixture_weight mixture *ℤ x) ≤ℤ (pos d *ℤ mixture_sum f mixture +ℤ mixture_weight mixture *ℤ pos l)
mixture_ge f d l x Is each [] of = omega (arith, linear, zero-*ℤ x, zero-*ℤ (pos l), *ℤ-zero (pos d))
mixture_ge f d l x Is each (p ∷ mixture) of =
    let here : (pos p.0 *ℤ x) ≤ℤ (pos p.0 *ℤ (pos d *ℤ f p.1 +ℤ pos l)) = mul_le p.0 _ _ (each p.1 of.0) in
    let rest = mixture_ge f d l x Is each mixture of.1 in
    omega (
      arith,
      linear,
      here,
      rest,
      +ℤ-*ℤ (pos p.0) (mixture_weight mixture) x,
      +ℤ-*ℤ (pos p.0) (mixture_weight mixture) (pos l),
      *ℤ-+ℤ (pos p.0) (pos d *ℤ f p.1) (pos l),
      *ℤ-+ℤ (pos d) (pos p.0 *ℤ f p.1) (mixture_sum f mixture),
      swap_algebra (pos p.0) (pos d) (f p.1),
    )

-- what each selector's policy earns in the long run, it earns from some number of steps on in which all of them do
some_first : (m : Meaning) (c : Controller) (low : ℤ) (mixture : List (ℕ × Selector))
    → AllByRecursion (λ p. EarnsAtLeast m (as_policy (policy_of c p.1)) low) mixture → (d : ℕ) → 0 < d
    → (first : ℕ) × ((k : ℕ) → first ≤ k → AllByRecursion
    (λ p. (pos (d * start_scale m k) *ℤ low) ≤ℤ (pos d *ℤ start_rewards m (as_policy (policy_of c p.1)) k +ℤ pos (start_scale m k)))
    mixture)
some_first m c low [] of d some = (0, λ k late. tt)
some_first m c low (p ∷ mixture) of d some =
    let (first, here) = of.0 d some in
    let (second, rest) = some_first m c low mixture of.1 d some in
    (first + second, (λ k late. (here k (omega (arith, late)), rest k (omega (arith, late)))))

pub mixtures_in_the_long_run : (m : Meaning) (c : Controller) (mixture : List (ℕ × Selector)) (low : ℤ)
    → AllByRecursion (λ p. EarnsAtLeast m (as_policy (policy_of c p.1)) low) mixture → MixtureEarnsAtLeast m c mixture low
mixtures_in_the_long_run m c mixture low of d some =
    let (first, all) = some_first m c low mixture of d some in (
      first,
      (λ k late. mixture_ge (λ selector. start_rewards m (as_policy (policy_of c selector)) k) d (start_scale m k)
          (pos (d * start_scale m k) *ℤ low)
          (λ selector. (pos (d * start_scale m k) *ℤ low) ≤ℤ (pos d *ℤ start_rewards m (as_policy (policy_of c selector)) k
          +ℤ pos (start_scale m k))) (λ selector is. is) mixture (all k late)),
    )

module _ (m : Meaning) (limits : HasLimitedNumbers m) (g : PolicyGraph) (v : PolicyVectors) (proper : IsProper (table_of m))
    (known : IsProperGraph g) (fits : Fits (table_of m) g v) (passes : Passes (controller_of (table_of m) g v)) where
  abbrev pub c : Controller
  c = controller_of (table_of m) g v

  is_controller : IsController c
  is_controller = controller_is (table_of m) g v fits proper known

  -- ---- picks
  pub earns_from_start : (by d : ℕ) (selector : Selector) → PicksWithin by d c (start_weight m) selector → (n : ℕ) (worth : ℤ) → n < nodes g
      → IsStartWorth m v n worth → (k : ℕ) → EarnsFromStartWithin by d m c (policy_of c selector) selector k worth
  earns_from_start by d selector picks n worth nl is k =
      let t : CellTable = table_of m in
      let q : ℕ = step_scale t ^ k in
      let e : ℕ = discounts m.preamble.discount k in
      let earned : EarnsWithin by d c (policy_of c selector) (start_weight m) selector k =
      earns_within c is_controller passes by d (start_weight m) selector
      (best_is_no_worse by d c is_controller.closed (start_weight m) selector picks) k in
      let first = rw (mass_is m limits) at (picks.none_better [] n tt nl) in
      record {
        is_policy = earned.is_policy;
        total = start_le d q (one ^ k) e by (start_total m) worth _ _ _ is.0 first (rw (mass_is m limits) at earned.total);
        rewards = λ high most. start_le d q (one ^ k) e by (start_total m) worth _ _ _ is.0 first
            (rw (mass_is m limits) at (earned.rewards high most));
      }

  pub mixtures_from_start : (by d : ℕ) (mixture : List (ℕ × Selector))
      → AllByRecursion (λ p. PicksWithin by d c (start_weight m) p.1) mixture → (n : ℕ) (worth : ℤ) → n < nodes g → IsStartWorth m v n worth
      → (k : ℕ) → MixtureEarnsWithin by d m c mixture k worth
  mixtures_from_start by d mixture of n worth nl is k =
      mixture_ge (λ selector. sum_over_start m (λ s. expected_total (table_of m) (value_at_end c selector s)
      (as_policy (policy_of c selector)) k s)) d (by * start_loss m k) (pos (d * start_scale m k) *ℤ worth)
      (λ selector. PicksWithin by d c (start_weight m) selector)
      (λ selector picks. (earns_from_start by d selector picks n worth nl is k).total) mixture of

  -- ---- one step ahead
  ahead_loss : (by k : ℕ) → by * (start_total m * step_scale (table_of m) ^ k * (one * step_discounts m.preamble.discount k)) ≤ by
      * start_loss m k
  ahead_loss by k = mul-le-mul_left by (mul-le-mul_left (start_total m * step_scale (table_of m) ^ k) (few_steps m.preamble.discount k))

  pub looks_from_start : (by d : ℕ) (policy : ObservationPolicy) (selector : Selector)
      → LooksAheadWithin by d c policy (start_weight m) selector → (n : ℕ) (worth : ℤ) → n < nodes g → IsStartWorth m v n worth → (k : ℕ)
      → EarnsFromStartWithin by d m c policy selector k worth
  looks_from_start by d policy selector looks n worth nl is k =
      let t : CellTable = table_of m in
      let x : ℕ = step_scale t ^ k * one ^ k in
      let l : ℕ = by * (start_total m * step_scale t ^ k * (one * step_discounts m.preamble.discount k)) in
      let of = is_policy t policy looks.known in
      let first = looks.none_better [] n tt nl in
      let total = earns_ahead c is_controller passes by d policy (start_weight m) selector looks k in
      let loss : ℕ = by * start_loss m k in
      record {
        is_policy = of;
        total = best_le d x (start_total m) l loss worth _ _ _ is.0 first (rw (mass_is m limits) at total) (ahead_loss by k);
        rewards = λ high most. best_le d x (start_total m) l loss worth _ _ _ is.0 first
            (rw (mass_is m limits) at (more_le d _ _ _
            (by * (mass t (start_weight m) * step_scale t ^ k * (one * step_discounts m.preamble.discount k))) total
            (with_most c is_controller policy of selector looks.are_nodes (start_weight m) k high most))) (ahead_loss by k);
      }

module _ (m : Meaning) (g : PolicyGraph) (v : PolicyVectors) where
  abbrev of_start : Controller
  of_start = controller_of (table_of m) g v

  -- ---- exactly
  pub from_start_exactly : (policy : ObservationPolicy) (selector : Selector) (k : ℕ) (worth : ℤ)
      → EarnsFromStartWithin 0 1 m of_start policy selector k worth → EarnsFromStart m of_start policy selector k worth
  from_start_exactly policy selector k worth within = record {
    is_policy = within.is_policy;
    total = exactly (start_scale m k) (start_loss m k) _ _ within.total;
    rewards = λ high most. exactly (start_scale m k) (start_loss m k) _ _ (within.rewards high most);
  }

  -- ---- the long run
  pub long_run_within : m.preamble.discount < one → (by d : ℕ) → 0 < d → (policy : ObservationPolicy) (selector : Selector) (worth low : ℤ)
      → ((k : ℕ) → EarnsFromStartWithin by d m of_start policy selector k worth)
      → IsBelowWithin by d m.preamble.discount worth low → EarnsAtLeast m (as_policy policy) low
  long_run_within less by d some policy selector worth low earns leaves p some_p =
      let t : CellTable = table_of m in
      let discount : ℕ = m.preamble.discount in
      let (b, within) = some_bound (value_of v) (nodes g) (states_of m) in (
        suc (discount * (p * b)),
        (λ k late.
            let q : ℕ = step_scale t ^ k in
            let a : ℕ = start_total m * (discount ^ k * q) in
            let most : AtMost of_start (pos b) = λ i u il ul. at_most _ b (within i u il ul) in
            let earned : (pos (d * start_scale m k) *ℤ worth) ≤ℤ
            (pos d *ℤ (start_rewards m (as_policy policy) k +ℤ pos (a * b)) +ℤ pos (by * (start_total m * q * all_discounts discount k)))
            =
            (earns k).rewards (pos b) most in
            let bound : (pos (start_scale m k) *ℤ low) ≤ℤ (start_rewards m (as_policy policy) k +ℤ pos (a * b)) =
            long_le d (one - discount) by one (start_scale m k) (start_total m) q (one ^ k) (all_discounts discount k) worth low _ some
            (omega (arith, less)) refl (few_discounts discount k less) earned leaves in
            let small : p * (a * b) ≤ start_scale m k = remainder (start_total m) p b (discount ^ k) q (one ^ k)
            (vanishes discount one (p * b) k less late) in
            ≤ℤ_trans _ _ _
            (≤ℤ_from_eq _ _ (*ℤ_assoc (pos p) (pos (start_scale m k)) low))
            (lower_algebra p a b (start_scale m k) (start_rewards m (as_policy policy) k) (pos (start_scale m k) *ℤ low) bound small)),
      )

  pub long_run : m.preamble.discount < one → (policy : ObservationPolicy) (selector : Selector) (worth : ℤ)
      → ((k : ℕ) → EarnsFromStartWithin 0 1 m of_start policy selector k worth) → EarnsAtLeast m (as_policy policy) worth
  long_run less policy selector worth earns =
      long_run_within less 0 1 (omega arith) policy selector worth worth earns
      (nothing_left (pos (1 * (one - m.preamble.discount)) *ℤ worth) one)
    where
      nothing_left : (x : ℤ) (u : ℕ) → (x +ℤ pos (0 * u)) ≤ℤ x
      nothing_left x u = let none : 0 * u ≡ 0 = omega arith in rw none (omega (arith, linear))

  -- the policy takes the place of the one that a bound of the optimum names
  pub encloses : m.preamble.discount < one → (policy : ObservationPolicy) (selector : Selector) (worth most : ℤ)
      → ((k : ℕ) → EarnsFromStartWithin 0 1 m of_start policy selector k worth) → EncloseOptimum m worth most
      → (e : EncloseOptimum m worth most) × (e.policy ≡ policy)
  encloses less policy selector worth most earns enclosed = (
    record {
      policy = policy;
      is_policy = (earns 0).is_policy;
      at_least = long_run less policy selector worth earns;
      at_most = enclosed.at_most;
      ordered = enclosed.ordered;
    },
    refl,
  )

  pub encloses_seen : m.preamble.discount < one → (policy : ObservationPolicy) (selector : Selector) (worth most : ℤ)
      → ((k : ℕ) → EarnsFromStartWithin 0 1 m of_start policy selector k worth) → EncloseSeenOptimum m worth most
      → (e : EncloseSeenOptimum m worth most) × ((s : ℕ) → e.policy s ≡ policy)
  encloses_seen less policy selector worth most earns enclosed = (
    record {
      policy = λ s. policy;
      is_policy = λ s sl. (earns 0).is_policy;
      at_least = long_run less policy selector worth earns;
      at_most = enclosed.at_most;
      ordered = enclosed.ordered;
    },
    (λ s. refl),
  )
