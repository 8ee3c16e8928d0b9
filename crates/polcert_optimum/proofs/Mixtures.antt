-- Mixtures of policies: the rewards alone, and the long run.
use Rattle.std.proofs.Common.{◌≡◌, ℕ, ◌*◌, ◌^◌, ◌<◌, ℤ, pos, ◌+ℤ◌, ◌*ℤ◌, ◌≤ℤ◌, Bool, true, false, List, [], ◌∷◌, sym, ap}
use Rattle.std.proofs.Common.{◌∙◌, arith}
use Rattle.std.specs.List.{AllByRecursion}
use Rattle.polcert_optimum.proofs.Common.{zero-*ℤ, *ℤ_comm, Meaning, HasLimitedNumbers, states_of, start_total, IsProper, table_of}
use Rattle.polcert_optimum.proofs.Common.{PolicyVectors, value_of, one, Policy, step_scale, AreInformed, start_scale}
use Rattle.polcert_cells.specs.Meaning.{actions_of}
use Rattle.polcert_check.proofs.Sums.Ring.{linear, *ℤ-+ℤ, +ℤ-*ℤ, *ℤ_left_comm, *ℤ_assoc, ≤ℤ_trans, ≤ℤ_from_eq}
use Rattle.polcert_check.proofs.Mirrors.Interval.{some_bound}
use Rattle.polcert_optimum.specs.Bound.{mixture_weight, mixture_sum}
use Rattle.polcert_optimum.specs.Seen.{IsMostOf, IsBoundStartMost, seen_rewards}
use Rattle.polcert_optimum.specs.Mixtures.{MixtureEarnsAtMost, MixturesEarnAtMost, MixturesOfModelEarnAtMost}
use Rattle.polcert_optimum.proofs.Bounded.{end_state_in_range}
use Rattle.polcert_optimum.proofs.EveryPolicy.{mixture_le}
use Rattle.polcert_optimum.proofs.Optimum.{remainder, upper_algebra}
use Rattle.polcert_optimum.proofs.Seen.{seen_from_start, number_is}
use Rattle.polcert_optimum.proofs.SeenModels.{mean_of_kind}
use Rattle.polcert_optimum.proofs.Start.{informed_from_start}
use Rattle.polcert_optimum.proofs.Vanishing.{vanishes, at_least}

-- one number more at each policy
mixture_more : {P : Type 0} (f : P → ℤ) (x : ℤ) (mixture : List (ℕ × P))
    → mixture_sum (λ p. f p +ℤ x) mixture ≡ mixture_sum f mixture +ℤ mixture_weight mixture *ℤ x
mixture_more f x [] = omega (arith, linear, zero-*ℤ x)
mixture_more f x (m ∷ mixture) = ap (λ (y : ℤ). pos m.0 *ℤ (f m.1 +ℤ x) +ℤ y) (mixture_more f x mixture)
    ∙ omega (arith, linear, *ℤ-+ℤ (pos m.0) (f m.1) x, +ℤ-*ℤ (pos m.0) (mixture_weight mixture) x)

-- a factor at each policy
mixture_scale : {P : Type 0} (f : P → ℤ) (x : ℤ) (mixture : List (ℕ × P)) → mixture_sum (λ p. x *ℤ f p) mixture ≡ x *ℤ mixture_sum f mixture
mixture_scale f x [] = sym (zero-*ℤ x ∙ *ℤ_comm (pos 0) (pos 0)) ∙ zero_is x
  where
    zero_is : (y : ℤ) → pos 0 *ℤ y ≡ y *ℤ pos 0
    zero_is y = *ℤ_comm _ y
mixture_scale f x (m ∷ mixture) = cc (mixture_scale f x mixture, *ℤ_left_comm (pos m.0) x _, *ℤ-+ℤ x _ _)

-- what holds of each policy holds of the mixture
module _ {P : Type 0} (m : Meaning) (vectors : ℕ → ℕ → ℤ) (from : P → ℕ → Policy) (most : ℤ) (Is : P → Type 0)
    (alone : (p : P) → Is p → (k : ℕ) (low : ℤ) → ((a e : ℕ) → a < actions_of m → e < states_of m → low ≤ℤ vectors a e)
    → (seen_rewards m (from p) k +ℤ pos (start_total m * (m.preamble.discount ^ k * step_scale (table_of m) ^ k)) *ℤ low) ≤ℤ
    (pos (start_scale m k) *ℤ most)) where
  of_each : (mixture : List (ℕ × P)) → AllByRecursion (λ p. Is p.1) mixture → MixtureEarnsAtMost m vectors from mixture most
  of_each mixture of = record {
    rewards = λ k low least.
        let x : ℤ = pos _ *ℤ low in
        ≤ℤ_trans _ _ _ (≤ℤ_from_eq _ _ (sym (mixture_more _ x mixture)))
        (mixture_le Is _ _ (λ p is. alone p is k low least) _ of);
    long_run = λ less d some.
        let g : ℕ = m.preamble.discount in
        let (b, within) = some_bound vectors _ _ in (
          _,
          (λ k late.
              let q : ℕ = step_scale (table_of m) ^ k in
              let a : ℕ = start_total m * (g ^ k * q) in
              let scale : ℕ = start_scale m k in
              let small = remainder _ d b _ q _ (vanishes g one _ k less late) in
              ≤ℤ_trans _ _ _ (≤ℤ_from_eq _ _ (sym (mixture_scale (λ p. seen_rewards m (from p) k) (pos d) _)))
              (mixture_le Is _ _
              (λ p is. rw (*ℤ_assoc (pos d) (pos scale) most) (upper_algebra d a b scale _ _
              (alone p is k _ (λ i s il sl. at_least _ b (within i s il sl))) small))
              _ of)),
        );
  }

module _ (m : Meaning) (limits : HasLimitedNumbers m) (p : IsProper (table_of m)) (v : PolicyVectors) (same : v.nodes ≡ actions_of m)
    (informed : AreInformed (table_of m) (value_of v)) (most : ℤ) where
  of_kind : (mdp : Bool) → IsMostOf mdp m v most → MixturesEarnAtMost mdp m (value_of v) most
  of_kind true is =
      of_each m _ _ most _
      (λ policy of k low least. (seen_from_start m limits (value_of v) p informed most (number_is m v most same is) policy of k).rewards low
      (λ s history sl f. least _ _ (of s sl _ f) (end_state_in_range (table_of m) _ s sl f)))
  of_kind false is =
      of_each m _ _ most _
      (λ policy of k low least. (informed_from_start m limits _ p informed most (mean_of_kind m v same most false is) policy of
      k).rewards low
      (λ s history sl f. least _ _ (of _ f) (end_state_in_range (table_of m) _ s sl f)))

  pub model_mixtures_earn : IsBoundStartMost m v most → MixturesOfModelEarnAtMost m (value_of v) most
  model_mixtures_earn = of_kind _
