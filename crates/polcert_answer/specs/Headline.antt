-- The headline: what a yes to three texts promises, over the very bytes of the texts.
--
-- Sources: the POMDP file format page and its grammar at pomdp.org (the model); pomdp-solve's descriptions of its policy
-- graph and value function files (the graph and the vectors); the textbook step relation of a finite controller (the
-- promise). Each word is a definition of the crate that it comes from, and `tests/believe --print` prints them all.
use Rattle.std.specs.Prelude.{ℕ, ◌<◌, List}
use Rattle.polcert_text.specs.declared.number.Rounding.{Rounding}
use Rattle.polcert_text.specs.declared.number.Rounding.TheVariants.{Down}
use Rattle.polcert_cells.specs.Meaning.{Meaning, states_of, actions_of, observations_of}
use Rattle.polcert_cells.specs.Tables.{table_of}
use Rattle.polcert_model.specs.Text.{IsModelText}
use Rattle.polcert_policy.specs.Graphs.{PolicyGraph, nodes}
use Rattle.polcert_policy.specs.GraphText.{IsGraphText}
use Rattle.polcert_policy.specs.Vectors.{PolicyVectors}
use Rattle.polcert_policy.specs.VectorText.{IsRoundedVectorsText}
use Rattle.polcert_check.specs.Horizon.{Controller, controller_of, Promise, RewardPromise}

-- Three texts and what they denote: the first is the text of a model, the second that of a policy graph for the model's
-- actions and observations, and the third that of vectors, one for each node of the graph with a value for each state, each
-- rounded this way.
pub record RoundedCertificate (rounding : Rounding) (model graph vectors : List ℕ) : Type 0 where
  pub meaning : Meaning
  pub policy : PolicyGraph
  pub values : PolicyVectors
  pub is_model : IsModelText model meaning
  pub is_graph : IsGraphText (actions_of meaning) (observations_of meaning) graph policy
  pub are_vectors : IsRoundedVectorsText rounding policy (states_of meaning) vectors values

-- the same with each value rounded down
abbrev pub Certificate : List ℕ → List ℕ → List ℕ → Type 0
Certificate model graph vectors = RoundedCertificate Down model graph vectors

-- the controller that they denote: the model's cells, and at each node its action, its successors and its values
abbrev pub controller : {rounding : Rounding} {model graph vectors : List ℕ} → RoundedCertificate rounding model graph vectors → Controller
controller c = controller_of (table_of c.meaning) c.policy c.values

-- The headline. The texts denote a controller; and whatever controller they denote: for every number of steps k, every
-- node n and every state s, the expected discounted reward of k steps together with the discounted vector value where
-- they end is at least the vector's value at n and s, exactly, and no run that needs a missing successor weighs anything.
pub record IsCertified (model graph vectors : List ℕ) : Type 0 where
  pub certificate : Certificate model graph vectors
  pub promise : (c : Certificate model graph vectors) (k n s : ℕ) → n < nodes c.policy → s < states_of c.meaning → Promise (controller c) k n s

-- The headline for the rewards alone, without the vectors at the end: the weights of the runs are all there; and where no vector
-- value is above m, the expected discounted reward of k steps is at least the vector's value less discount ^ k times m.
abbrev pub AreRewardsCertified : List ℕ → List ℕ → List ℕ → Type 0
AreRewardsCertified model graph vectors = (c : Certificate model graph vectors) (k n s : ℕ) → n < nodes c.policy → s < states_of c.meaning → RewardPromise (controller c) k n s
