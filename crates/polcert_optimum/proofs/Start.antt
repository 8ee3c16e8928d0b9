-- The bounds from a model's start.
use Rattle.std.proofs.Common.{◌≡◌, ℕ, ◌*◌, ◌<◌, ℤ, pos, ◌+ℤ◌, ◌*ℤ◌, ◌≤ℤ◌, [], sym, ap, ◌∙◌, arith}
use Rattle.polcert_optimum.proofs.Common.{*ℤ_comm, Meaning, HasLimitedNumbers, states_of, start_total, IsProper, table_of}
use Rattle.polcert_optimum.proofs.Common.{History, Policy, DominatesBackup}
use Rattle.polcert_optimum.proofs.Common.{IsBounded, AreInformed, sum_over_start, AreAtMostFromStart, IsBoundedFromStart}
use Rattle.polcert_optimum.proofs.Common.{BoundsEveryPolicyFromStart, BoundEveryObservationPolicyFromStart}
use Rattle.polcert_check.proofs.Sums.Ring.{products, mul_le, ≤ℤ_trans, ≤ℤ_from_eq, *ℤ_assoc, *ℤ_left_comm, linear}
use Rattle.polcert_check.proofs.Sums.SumLaws.{sum_below_same, sum_below_le, sum_below_scale, sum_below_add}
use Rattle.polcert_check.proofs.Horizons.StartSums.{start_row}
use Rattle.polcert_optimum.specs.Start.{IsAtMostFromStart, BoundEveryObservationMixtureFromStart}
use Rattle.polcert_optimum.proofs.EveryPolicy.{every_policy, mixture_le}
use Rattle.polcert_optimum.proofs.Informed.{every_observation_policy}

module _ (m : Meaning) where
  -- what is at most x times the value at each state is so in the mean
  pub sum_le : (x : ℕ) (worth value : ℕ → ℤ) (most : ℤ) → ((s : ℕ) → s < states_of m → worth s ≤ℤ (pos x *ℤ value s))
      → IsAtMostFromStart m value most → sum_over_start m worth ≤ℤ (pos (start_total m * x) *ℤ most)
  sum_le x worth value most each mean =
      let total : ℕ = start_total m in
      let terms =
      sum_below_le _ _ _ (λ s sl. ≤ℤ_trans _ _ _ (mul_le _ _ _ (each s sl))
      (≤ℤ_from_eq _ _ (*ℤ_left_comm (pos _) (pos x) _))) in
      ≤ℤ_trans _ _ _ terms (≤ℤ_trans _ _ _ (≤ℤ_from_eq _ _ (sum_below_scale (pos x) _ (states_of m)))
      (≤ℤ_trans _ _ _ (mul_le x _ _ mean) (≤ℤ_from_eq _ _
      (*ℤ_left_comm (pos x) (pos total) most ∙ sym (*ℤ_assoc (pos total) (pos x) most)))))

  -- one number more at each state is that number in the mean
  pub sum_more : HasLimitedNumbers m → (f : ℕ → ℤ) (x : ℤ)
      → sum_over_start m (λ s. f s +ℤ x) ≡ sum_over_start m f +ℤ pos (start_total m) *ℤ x
  sum_more limits f x =
      sum_below_same _ _ (states_of m) (λ s _. simp products)
      ∙ sum_below_add _ _ (states_of m)
      ∙ ap (λ (y : ℤ). sum_over_start m f +ℤ y) (sum_below_scale x _ (states_of m)
      ∙ ap (λ (y : ℤ). x *ℤ y) (start_row m limits) ∙ *ℤ_comm x _)

  pub rewards_le : HasLimitedNumbers m → (x y : ℕ) (low : ℤ) (rewards value : ℕ → ℤ) (most : ℤ)
      → ((s : ℕ) → s < states_of m → (rewards s +ℤ pos y *ℤ low) ≤ℤ (pos x *ℤ value s)) → IsAtMostFromStart m value most
      → (sum_over_start m rewards +ℤ pos (start_total m * y) *ℤ low) ≤ℤ (pos (start_total m * x) *ℤ most)
  rewards_le limits x y low rewards value most each mean =
      omega (
        arith,
        linear,
        *ℤ_assoc (pos (start_total m)) (pos y) low,
        sum_more limits rewards (pos y *ℤ low),
        sum_le x _ value most each mean,
      )

  -- a bound from each state is one from the start
  pub from_each : HasLimitedNumbers m → (end : ℕ → History → ℤ) (value : ℕ → ℤ) (policy : ℕ → Policy) (k : ℕ) (most : ℤ)
      → ((s : ℕ) → s < states_of m → IsBounded (table_of m) (end s) (value s) (policy s) k s) → IsAtMostFromStart m value most
      → IsBoundedFromStart m end policy k most
  from_each limits end value policy k most each mean = grind (arith, sum_le, rewards_le)

  pub from_start : HasLimitedNumbers m → (value : ℕ → ℤ) → IsProper (table_of m) → DominatesBackup (table_of m) value
      → (most : ℤ) → IsAtMostFromStart m value most → BoundsEveryPolicyFromStart m value most
  from_start limits value p above most mean policy of k =
      from_each limits _ value _ k most
      (λ s. every_policy _ value p above _ (of s) k s) mean

  pub informed_from_start : HasLimitedNumbers m → (vectors : ℕ → ℕ → ℤ) → IsProper (table_of m)
      → AreInformed (table_of m) vectors → (most : ℤ) → AreAtMostFromStart m vectors most
      → BoundEveryObservationPolicyFromStart m vectors most
  informed_from_start limits vectors p informed most mean policy of k =
      from_each limits _ _
      _
      k most (every_observation_policy _ vectors p informed policy of k) (mean _ (of [] tt))

  pub mixtures_from_start : (vectors : ℕ → ℕ → ℤ) (most : ℤ) → BoundEveryObservationPolicyFromStart m vectors most
      → BoundEveryObservationMixtureFromStart m vectors most
  mixtures_from_start vectors most bound mixture of k =
      mixture_le _
      _ _
      (λ policy is. (bound policy is k).total) _ of
