-- The headline: what a yes to three texts promises, over the very bytes of the texts.
--
-- The first two are those of `polcert_bound_answer`: a model, and one vector for each of its actions. The third has belief points. Sources
-- are named in polcert_points/specs/Points.antt.
use Rattle.std.specs.Prelude.{ℕ, ℤ, List, Bool, true, false}
use Rattle.polcert_cells.specs.Meaning.{Meaning, states_of, actions_of, observations_of}
use Rattle.polcert_cells.specs.Preamble.{is_mdp}
use Rattle.polcert_cells.specs.Tables.{table_of}
use Rattle.polcert_model.specs.Text.{IsModelText}
use Rattle.polcert_policy.specs.Vectors.{PolicyVectors, value_of}
use Rattle.polcert_policy.specs.ActionVectors.{IsActionVectorsText}
use Rattle.polcert_policy.specs.PointText.{IsPointsText}
use Rattle.polcert_policy.specs.Points.{PointValues}
use Rattle.polcert_optimum.specs.Seen.{IsBoundStartMost, BoundEverySeenPolicyFromStart, BoundEverySeenMixtureFromStart}
use Rattle.polcert_points.specs.Points.{PointsBoundEveryObservationPolicy}
use Rattle.polcert_points.specs.PointTable.{PointTable, table_of_set}
use Rattle.polcert_points.specs.PointStart.{PointsBoundFromStart, PointsBoundMixturesFromStart}
use Rattle.polcert_points.specs.PointStartMost.{IsPointStartMost}
use Rattle.polcert_bound_answer.specs.Headline.{IsCertifiedBound}

-- Three texts and what they denote: a model; vectors, one for each action of the model with a value for each state, each rounded up; and
-- belief points for the model's states, actions and observations, with weights rounded down and values rounded up.
pub record PointCertificate (model vectors points : List ℕ) : Type 0 where
  pub meaning : Meaning
  pub values : PolicyVectors
  pub set : PointValues
  pub is_model : IsModelText model meaning
  pub are_vectors : IsActionVectorsText (actions_of meaning) (states_of meaning) vectors values
  pub are_points : IsPointsText (states_of meaning) (actions_of meaning) (observations_of meaning) points set

-- ---- the number on the line of a yes

-- in an MDP (true) the number of the vectors alone, and else the least that the start is worth by the points, rounded up
abbrev pub IsMostByPoints : Bool → Meaning → PolicyVectors → PointTable → ℤ → Type 0
IsMostByPoints true m v p most = IsBoundStartMost m v most
IsMostByPoints false m v p most = IsPointStartMost m (value_of v) p most

abbrev pub IsPointBoundMost : Meaning → PolicyVectors → PointTable → ℤ → Type 0
IsPointBoundMost m v p most = IsMostByPoints (is_mdp m.preamble) m v p most

-- and what it is promised to bound: in an MDP (true) the policies that see the start state too
abbrev pub BoundPoliciesByPoints : Bool → Meaning → PolicyVectors → PointTable → ℤ → Type 0
BoundPoliciesByPoints true m v p most = BoundEverySeenPolicyFromStart m (value_of v) most
BoundPoliciesByPoints false m v p most = PointsBoundFromStart m (value_of v) p.points most

abbrev pub BoundEveryPolicyByPoints : Meaning → PolicyVectors → PointTable → ℤ → Type 0
BoundEveryPolicyByPoints m v p most = BoundPoliciesByPoints (is_mdp m.preamble) m v p most

-- as do the mixtures of such policies
abbrev pub BoundMixturesByPoints : Bool → Meaning → PolicyVectors → PointTable → ℤ → Type 0
BoundMixturesByPoints true m v p most = BoundEverySeenMixtureFromStart m (value_of v) most
BoundMixturesByPoints false m v p most = PointsBoundMixturesFromStart m (value_of v) p.points most

abbrev pub BoundEveryMixtureByPoints : Meaning → PolicyVectors → PointTable → ℤ → Type 0
BoundEveryMixtureByPoints m v p most = BoundMixturesByPoints (is_mdp m.preamble) m v p most

-- The headline. The texts denote a model, vectors and points; the vectors alone are certified; and whatever the texts denote: every policy
-- that sees the observations alone earns at most the value of its first action at the point where it starts, for every number of steps;
-- and from the start, as does every mixture of such policies, at most the number on the line.
pub record IsCertifiedByPoints (model vectors points : List ℕ) : Type 0 where
  pub certificate : PointCertificate model vectors points
  pub vectors_alone : IsCertifiedBound model vectors
  pub promise : (c : PointCertificate model vectors points) → PointsBoundEveryObservationPolicy (table_of c.meaning) (value_of c.values) (table_of_set c.set).points
  pub from_start : (c : PointCertificate model vectors points) (most : ℤ) → IsPointBoundMost c.meaning c.values (table_of_set c.set) most → BoundEveryPolicyByPoints c.meaning c.values (table_of_set c.set) most
  pub mixtures : (c : PointCertificate model vectors points) (most : ℤ) → IsPointBoundMost c.meaning c.values (table_of_set c.set) most → BoundEveryMixtureByPoints c.meaning c.values (table_of_set c.set) most
