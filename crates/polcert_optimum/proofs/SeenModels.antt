-- What the number on the line of a yes bounds: by whether the model is an MDP.
use Rattle.std.proofs.Common.{◌≡◌, ℤ, Bool, true, false, ap, subst, arith}
use Rattle.polcert_optimum.proofs.Common.{Meaning, HasLimitedNumbers, start_total, IsProper, table_of, PolicyVectors, value_of, AreInformed}
use Rattle.polcert_optimum.proofs.Common.{AreAtMostFromStart}
use Rattle.polcert_cells.specs.Meaning.{IsSame, actions_of}
use Rattle.polcert_cells.specs.declared.elements.StartWeights.{StartWeights}
use Rattle.polcert_check.specs.StartWorth.{IsCeilQuotient}
use Rattle.polcert_check.proofs.Mirrors.SameAbove.{same_start_most}
use Rattle.polcert_check.proofs.Sums.Ring.{≤ℤ_trans}
use Rattle.polcert_optimum.specs.Seen.{IsMostOf, IsBoundStartMost, BoundPoliciesOf, BoundEveryPolicyOfModel, BoundMixturesOf}
use Rattle.polcert_optimum.specs.Seen.{BoundEveryMixtureOfModel}
use Rattle.polcert_optimum.proofs.Seen.{seen_from_start, seen_mixtures, each_at_most, number_is}
use Rattle.polcert_optimum.proofs.Start.{informed_from_start, mixtures_from_start}

module _ (m : Meaning) (v : PolicyVectors) (same : v.nodes ≡ actions_of m) (most : ℤ) where
  -- no vector is worth more in the mean over the start
  pub mean_of_kind : (mdp : Bool) → IsMostOf mdp m v most → AreAtMostFromStart m (value_of v) most
  mean_of_kind true is = each_at_most m _ most (number_is m v most same is)
  mean_of_kind false is = λ a al. ≤ℤ_trans _ _ _ (is.1.none_greater a (rw same al)) is.2.0

  module _ (limits : HasLimitedNumbers m) (p : IsProper (table_of m)) (informed : AreInformed (table_of m) (value_of v)) where
    policies_of_kind : (mdp : Bool) → IsMostOf mdp m v most → BoundPoliciesOf mdp m (value_of v) most
    policies_of_kind true is = seen_from_start m limits (value_of v) p informed most (number_is m v most same is)
    policies_of_kind false is = informed_from_start m limits _ p informed most (mean_of_kind false is)

    mixtures_of_kind : (mdp : Bool) → IsMostOf mdp m v most → BoundMixturesOf mdp m (value_of v) most
    mixtures_of_kind true is = seen_mixtures m limits (value_of v) p informed most (number_is m v most same is)
    mixtures_of_kind false is = mixtures_from_start m (value_of v) most
        (informed_from_start m limits _ p informed most (mean_of_kind false is))

    pub model_policies : IsBoundStartMost m v most → BoundEveryPolicyOfModel m (value_of v) most
    model_policies = policies_of_kind _

    pub model_mixtures : IsBoundStartMost m v most → BoundEveryMixtureOfModel m (value_of v) most
    model_mixtures = mixtures_of_kind _

  pub model_mean : IsBoundStartMost m v most → AreAtMostFromStart m (value_of v) most
  model_mean = mean_of_kind _

-- ---- the number of one model is that of each same one
kind_same : (m n : Meaning) → IsSame m n → (v : PolicyVectors) (most : ℤ) (mdp : Bool) → IsMostOf mdp m v most → IsMostOf mdp n v most
kind_same m n same v most true is =
    rw (← ap (λ (start : StartWeights). start.total) same.start)
    (subst (λ (sum : ℤ). IsCeilQuotient sum (start_total m) most) (grind arith) is)
kind_same m n same v most false is = same_start_most m n same v most is

pub same_bound_most : (m n : Meaning) → IsSame m n → (v : PolicyVectors) (most : ℤ) → IsBoundStartMost m v most → IsBoundStartMost n v most
same_bound_most m n same v most is =
    subst (λ (mdp : Bool). IsMostOf mdp n v most) (cc)
    (kind_same m n same v most _ is)
