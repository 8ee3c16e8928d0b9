-- What three texts denote: one model, one list of vectors and one of points, whatever stands for them.
use Rattle.std.proofs.Common.{◌≡◌, ◌∙◌, ℕ, ◌<◌, ◌*◌, ℤ, Bool, true, false, List, Ok, refl, sym, ap, ap₂, subst, arith}
use Rattle.polcert_points_answer.proofs.Common.{IsSame, Meaning, actions_of, observations_of, states_of, table_of, IsModelText, FitPoints}
use Rattle.polcert_points_answer.proofs.Common.{PointTable, table_of_set, PointValues, IsNoPointsText, IsPointsRefusal, IsPointsText}
use Rattle.polcert_points_answer.proofs.Common.{PolicyVectors, value_of, PointFault, ArePointsRefused, HasVectors, IsPointBoundAnswer}
use Rattle.polcert_points_answer.proofs.Common.{IsPointBoundVerdict, IsPointBoundMost, PointCertificate, IsPointBoundLine}
use Rattle.polcert_points_answer.proofs.Common.{PointBoundVerdict, PointExceeded, VectorExceeded, Yes}
use Rattle.polcert_cells.specs.Meaning.{HasLimitedNumbers, sum_below}
use Rattle.polcert_cells.specs.Preamble.{Preamble, is_mdp}
use Rattle.polcert_model.proofs.LimitLaws.{within_limits}
use Rattle.polcert_model.proofs.TextLaws as models
use Rattle.polcert_policy.specs.declared.fault.PointFault.TheVariants as faults
use Rattle.polcert_policy.specs.PointText.{IsRefusedPointsText}
use Rattle.polcert_policy.proofs.OnePointsRefusal.{one_points, points_proper}
use Rattle.polcert_check.specs.Horizon.{one}
use Rattle.polcert_check.specs.StartWorth.{IsCeilQuotient}
use Rattle.polcert_check.proofs.Agreements.SameModels.{same_cells}
use Rattle.polcert_optimum.specs.Policy.{step_scale}
use Rattle.polcert_optimum.specs.Seen.{BoundPoliciesOf, BoundMixturesOf}
use Rattle.polcert_optimum.specs.declared.verdict.InformedVerdict.TheVariants as informed
use Rattle.polcert_optimum.proofs.SeenModels.{same_bound_most}
use Rattle.polcert_points.specs.Belief.{mass}
use Rattle.polcert_points.specs.PointTable.{IsProperPointTable}
use Rattle.polcert_points.specs.declared.point_verdict.PointVerdict.TheVariants as points
use Rattle.polcert_points.proofs.OnePoints.{every_policy_at_points, policies_at_points, mixtures_at_points}
use Rattle.polcert_points.proofs.SamePoints.{point_verdict_there, same_point_most}
use Rattle.polcert_points.proofs.PointSets.{proper_set}
use Rattle.polcert_answer.proofs.Denoted.{for_counts, same_states, same_actions}
use Rattle.polcert_bound_answer.specs.Answer.{IsBoundAnswer}
use Rattle.polcert_bound_answer.specs.Headline.{BoundCertificate}
use Rattle.polcert_bound_answer.proofs.Denoted as bound
use Rattle.polcert_bound_answer.proofs.SameInformed.{scale_same, verdict_there}
use Rattle.polcert_points_answer.specs.Headline.{IsMostByPoints, BoundPoliciesByPoints, BoundMixturesByPoints, IsCertifiedByPoints}

-- what is said of a text for the counts of the one is said of it for those of the other
pub for_all_counts : {m n : Meaning} → IsSame m n → (P : ℕ → ℕ → ℕ → Type 0) → P (states_of m) (actions_of m) (observations_of m)
    → P (states_of n) (actions_of n) (observations_of n)
for_all_counts {m} {n} same P is = for_counts same (P (states_of n))
    (subst (λ s. P s (actions_of m) (observations_of m)) (same_states same) is)

-- a text that is refused for the counts of one model that the first text denotes is refused for those of each
pub points_refused : (model vectors : List ℕ) (fault : PointFault) (m : Meaning) (v : PolicyVectors) → HasVectors model vectors m v
    → (text : List ℕ)
    → IsRefusedPointsText (states_of m) (actions_of m) (observations_of m) fault text → ArePointsRefused model vectors fault text
points_refused model vectors fault m v has text r = record {
  meaning = m;
  values = v;
  has_vectors = has;
  no_points = λ n other. for_all_counts (models.one_model model m n has.is_model other) (λ s a z. IsNoPointsText s a z text fault)
      r.no_points;
  refusal = λ n other. for_all_counts (models.one_model model m n has.is_model other) (λ s a z. IsPointsRefusal s a z text fault) r.refusal;
}

-- there may be no memory to check any points
pub memory_refused : (model vectors : List ℕ) (text : List ℕ) (m : Meaning) (v : PolicyVectors) → HasVectors model vectors m v
    → ArePointsRefused model vectors faults.Memory text
memory_refused model vectors text m v has = record {
  meaning = m;
  values = v;
  has_vectors = has;
  no_points = λ _ _. tt;
  refusal =
      λ _ _. tt;
}

-- the points are for the counts of the model
pub fit_points_of : (m : Meaning) (p : PointValues) (points : List ℕ)
    → IsPointsText (states_of m) (actions_of m) (observations_of m) points p → FitPoints (table_of m) (table_of_set p)
fit_points_of m p points are = record { states = are.2.states_are; actions = are.2.actions_are; observations = are.2.observations_are }

-- ---- a verdict, a number and a line on one model are those on every same one
module _ (m n : Meaning) (v : PolicyVectors) (p : PointTable) (same : IsSame m n) where
  pub verdict_on_same : (verdict : PointBoundVerdict) → IsPointBoundVerdict (table_of m) (value_of v) p verdict
      → IsPointBoundVerdict (table_of n) (value_of v) p verdict
  verdict_on_same Yes h = (
    verdict_there (table_of m) (table_of n) (same_cells m n same) (value_of v) informed.Yes h.0,
    point_verdict_there
        (table_of m) (table_of n) (same_cells m n same) (value_of v) p points.Yes h.1,
  )
  verdict_on_same (VectorExceeded a s amount) h = verdict_there (table_of m) (table_of n) (same_cells m n same) (value_of v)
      (informed.Exceeded a s amount) h
  verdict_on_same (PointExceeded i a amount) h = (
    verdict_there (table_of m) (table_of n) (same_cells m n same) (value_of v) informed.Yes
        h.0,
    point_verdict_there (table_of m) (table_of n) (same_cells m n same) (value_of v) p (points.Exceeded i a amount) h.1,
  )

  kind_same : (mdp : Bool) (most : ℤ) → IsMostByPoints mdp m v p most → IsMostByPoints mdp n v p most
  kind_same true most is = same_bound_most m n same v most is
  kind_same false most is = same_point_most m n same (value_of v) p most is

  pub most_on_same : (most : ℤ) → IsPointBoundMost m v p most → IsPointBoundMost n v p most
  most_on_same most is = subst (λ (b : Bool). IsMostByPoints b n v p most) (ap (λ (q : Preamble). is_mdp q) same.preamble)
      (kind_same (is_mdp m.preamble) most is)

  mass_same : (i : ℕ) → mass (table_of m) (p.points.belief i) ≡ mass (table_of n) (p.points.belief i)
  mass_same i = ap (λ (k : ℕ). sum_below (p.points.belief i) k) (same_states same)

  scale_is : step_scale (table_of m) ≡ step_scale (table_of n)
  scale_is = scale_same (table_of m) (table_of n) (same_cells m n same)

  pub line_on_same : (verdict : PointBoundVerdict) (line : List ℕ) → IsPointBoundLine m v p verdict line
      → IsPointBoundLine n v p verdict line
  line_on_same Yes line (most, is_most, spelled) = (most, most_on_same most is_most, spelled)
  line_on_same (VectorExceeded a s amount) line (by, quotient, spelled) =
      (by, subst (λ (k : ℕ). IsCeilQuotient amount (k * one) by) scale_is quotient, spelled)
  line_on_same (PointExceeded i a amount) line (by, quotient, spelled) =
      (by, subst (λ (k : ℕ). IsCeilQuotient amount k by) (ap₂ (λ x y. x * y) scale_is (mass_same i)) quotient, spelled)

module _ {model vectors points : List ℕ} (m : Meaning) (v : PolicyVectors) (p : PointValues) (has : HasVectors model vectors m v)
    (are : IsPointsText (states_of m) (actions_of m) (observations_of m) points p) where
  -- what a model, vectors and points denote
  pub certificate_of : PointCertificate model vectors points
  certificate_of = record { meaning = m; values = v; set = p; is_model = has.is_model; are_vectors = has.are_vectors; are_points = are }

  -- three texts are one model, as far as indices are in range, one list of vectors for it, and one of points
  same_points : (c : PointCertificate model vectors points) → IsSame m c.meaning × (v ≡ c.values) × (p ≡ c.set)
  same_points c =
      let pair = bound.same_vectors m v has.is_model has.are_vectors
      (record { meaning = c.meaning; values = c.values; is_model = c.is_model; are_vectors = c.are_vectors }) in
      let limits = within_limits c.is_model.lexemes c.meaning c.is_model.denotes in (
        pair.0,
        pair.1,
        one_points (states_of c.meaning) (actions_of c.meaning) (observations_of c.meaning) points p c.set limits.states.0
            limits.actions.0 limits.observations.0 (for_all_counts pair.0 (λ s a z. IsPointsText s a z points p) are) c.are_points,
      )

  -- What is said of what three texts denote, and carries to every same model, is said of whatever they denote.
  pub of_each : (P : Meaning → PolicyVectors → PointValues → Type 0) → ((n : Meaning) → IsSame m n → P n v p)
      → (c : PointCertificate model vectors points) → P c.meaning c.values c.set
  of_each P carried c =
      let same = same_points c in
      subst (λ (q : PointValues). P c.meaning c.values q) same.2
      (subst (λ (w : PolicyVectors). P c.meaning w p) same.1 (carried c.meaning same.0))

  pub verdict_of_each : (verdict : PointBoundVerdict) → IsPointBoundVerdict (table_of m) (value_of v) (table_of_set p) verdict
      → (c : PointCertificate model vectors points) → IsPointBoundVerdict (table_of c.meaning) (value_of c.values) (table_of_set c.set)
      verdict
  verdict_of_each verdict h = of_each (λ n w q. IsPointBoundVerdict (table_of n) (value_of w) (table_of_set q) verdict)
      (λ n same. verdict_on_same m n v (table_of_set p) same verdict h)

  pub most_of_each : (most : ℤ) → IsPointBoundMost m v (table_of_set p) most → (c : PointCertificate model vectors points)
      → IsPointBoundMost c.meaning c.values (table_of_set c.set) most
  most_of_each most h = of_each (λ n w q. IsPointBoundMost n w (table_of_set q) most)
      (λ n same. most_on_same m n v (table_of_set p) same most h)

  pub line_of_each : (verdict : PointBoundVerdict) (line : List ℕ) → IsPointBoundLine m v (table_of_set p) verdict line
      → (c : PointCertificate model vectors points) → IsPointBoundLine c.meaning c.values (table_of_set c.set) verdict line
  line_of_each verdict line h = of_each (λ n w q. IsPointBoundLine n w (table_of_set q) verdict line)
      (λ n same. line_on_same m n v (table_of_set p) same verdict line h)

-- ---- what three texts denote, as its parts are used
module _ {model vectors points : List ℕ} (c : PointCertificate model vectors points) where
  abbrev pub bound_of : BoundCertificate model vectors
  bound_of = record { meaning = c.meaning; values = c.values; is_model = c.is_model; are_vectors = c.are_vectors }

  pub fit_points : FitPoints (table_of c.meaning) (table_of_set c.set)
  fit_points = fit_points_of c.meaning c.set points c.are_points

  pub proper_points : IsProperPointTable (table_of_set c.set)
  proper_points =
      let limits = bound.limited bound_of in
      proper_set c.set (points_proper (states_of c.meaning) (actions_of c.meaning) (observations_of c.meaning) points c.set limits.states.0
      limits.states.1 limits.actions.0 limits.actions.1 limits.observations.0 limits.observations.1 c.are_points)

-- ---- a yes certifies the texts
module _ (model vectors points : List ℕ) (answer : IsPointBoundAnswer model vectors points (Ok Yes)) where
  -- the vectors are answered yes alone
  pub vectors_yes : IsBoundAnswer model vectors (Ok informed.Yes)
  vectors_yes =
      let c = answer.0 in
      let d : BoundCertificate model vectors = bound_of c in
      (d, bound.verdict_of_each c.meaning c.values c.is_model c.are_vectors informed.Yes ((answer.1 c).0))

  policies_of : (mdp : Bool) (c : PointCertificate model vectors points) (most : ℤ) → is_mdp c.meaning.preamble ≡ mdp
      → IsMostByPoints mdp c.meaning c.values (table_of_set c.set) most
      → BoundPoliciesByPoints mdp c.meaning c.values (table_of_set c.set) most
  policies_of true c most mdp is =
      subst (λ (b : Bool). BoundPoliciesOf b c.meaning (value_of c.values) most) mdp
      ((bound.yes_certified model vectors vectors_yes).from_start (bound_of c) most is)
  policies_of false c most mdp is =
      policies_at_points c.meaning (value_of c.values) (table_of_set c.set) most (bound.limited (bound_of c))
      (bound.table_proper (bound_of c)) (fit_points c) (proper_points c) is (answer.1 c).0 (answer.1 c).1

  mixtures_of : (mdp : Bool) (c : PointCertificate model vectors points) (most : ℤ) → is_mdp c.meaning.preamble ≡ mdp
      → IsMostByPoints mdp c.meaning c.values (table_of_set c.set) most
      → BoundMixturesByPoints mdp c.meaning c.values (table_of_set c.set) most
  mixtures_of true c most mdp is =
      subst (λ (b : Bool). BoundMixturesOf b c.meaning (value_of c.values) most) mdp
      ((bound.yes_certified model vectors vectors_yes).mixtures (bound_of c) most is)
  mixtures_of false c most mdp is =
      mixtures_at_points c.meaning (value_of c.values) (table_of_set c.set) most (bound.limited (bound_of c))
      (bound.table_proper (bound_of c)) (fit_points c) (proper_points c) is (answer.1 c).0 (answer.1 c).1

  pub yes_certified : IsCertifiedByPoints model vectors points
  yes_certified = record {
    certificate = answer.0;
    vectors_alone = bound.yes_certified model vectors vectors_yes;
    promise = λ c. every_policy_at_points (table_of c.meaning) (value_of c.values) (table_of_set c.set) (bound.table_proper (bound_of c))
        ((bound.limited (bound_of c)).states.0) (fit_points c) (proper_points c) (answer.1 c).0 (answer.1 c).1;
    from_start = λ c most is. policies_of (is_mdp c.meaning.preamble) c most refl is;
    mixtures = λ c most is. mixtures_of (is_mdp c.meaning.preamble) c most refl is;
  }
