-- The headline: what a yes to two texts promises, over the very bytes of the texts.
--
-- Sources: the POMDP file format page and its grammar at pomdp.org (the model); pomdp-solve's description of its value function files
-- (the vectors, here one for each action); Hauskrecht (2000) for the bound. Each word is a definition of the crate that it comes from.
use Rattle.std.specs.Prelude.{ℕ, ℤ, List}
use Rattle.polcert_cells.specs.Meaning.{Meaning, states_of, actions_of}
use Rattle.polcert_cells.specs.Tables.{table_of}
use Rattle.polcert_model.specs.Text.{IsModelText}
use Rattle.polcert_policy.specs.Vectors.{PolicyVectors, value_of}
use Rattle.polcert_policy.specs.ActionVectors.{IsActionVectorsText}
use Rattle.polcert_optimum.specs.Informed.{BoundEveryObservationPolicy}
use Rattle.polcert_optimum.specs.Seen.{IsBoundStartMost, BoundEveryPolicyOfModel, BoundEveryMixtureOfModel}

-- Two texts and what they denote: the first is the text of a model, and the second that of vectors, one for each action of the model
-- with a value for each state, each rounded up.
pub record BoundCertificate (model vectors : List ℕ) : Type 0 where
  pub meaning : Meaning
  pub values : PolicyVectors
  pub is_model : IsModelText model meaning
  pub are_vectors : IsActionVectorsText (actions_of meaning) (states_of meaning) vectors values

-- The headline. The texts denote a model and vectors; and whatever they denote: every policy that sees the observations alone earns at
-- most the value of its first action's vector at the state where it starts, for every number of steps; and from the start, as does every
-- mixture of such policies, at most what no vector is worth more than there. In an MDP the start state is seen too, and every policy
-- earns at most the mean over the start of the greatest of the vectors' values at each state.
pub record IsCertifiedBound (model vectors : List ℕ) : Type 0 where
  pub certificate : BoundCertificate model vectors
  pub promise : (c : BoundCertificate model vectors) → BoundEveryObservationPolicy (table_of c.meaning) (value_of c.values)
  pub from_start : (c : BoundCertificate model vectors) (most : ℤ) → IsBoundStartMost c.meaning c.values most → BoundEveryPolicyOfModel c.meaning (value_of c.values) most
  pub mixtures : (c : BoundCertificate model vectors) (most : ℤ) → IsBoundStartMost c.meaning c.values most → BoundEveryMixtureOfModel c.meaning (value_of c.values) most
