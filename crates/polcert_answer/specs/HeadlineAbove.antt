-- The headline from above: what a yes to three texts promises where the vectors are to bound what a controller earns from above.
-- Each value is rounded up, and the inequality is turned; everything else is the headline's.
use Rattle.std.specs.Prelude.{ℕ, ◌<◌, List}
use Rattle.polcert_text.specs.declared.number.Rounding.TheVariants.{Up}
use Rattle.polcert_cells.specs.Meaning.{states_of}
use Rattle.polcert_policy.specs.Graphs.{nodes}
use Rattle.polcert_cells.specs.Tables.{table_of}
use Rattle.polcert_check.specs.Above.{PromiseAbove, RewardPromiseAbove, BoundEveryLowerVector}
use Rattle.polcert_answer.specs.Headline.{RoundedCertificate, controller}

-- three texts and what they denote, with each value rounded up
abbrev pub CertificateAbove : List ℕ → List ℕ → List ℕ → Type 0
CertificateAbove model graph vectors = RoundedCertificate Up model graph vectors

-- The texts denote a controller; and whatever controller they denote: for every number of steps k, every node n and every
-- state s, the expected discounted reward of k steps together with the discounted vector value where they end is at most the
-- vector's value at n and s, exactly, and no run that needs a missing successor weighs anything.
pub record IsCertifiedAbove (model graph vectors : List ℕ) : Type 0 where
  pub certificate : CertificateAbove model graph vectors
  pub promise : (c : CertificateAbove model graph vectors) (k n s : ℕ) → n < nodes c.policy → s < states_of c.meaning → PromiseAbove (controller c) k n s

-- The sentence above for the rewards alone, without the vectors at the end: the weights of the runs are all there; and where no vector value
-- is below m, the expected discounted reward of k steps is at most the vector's value less discount ^ k times m.
abbrev pub AreRewardsCertifiedAbove : List ℕ → List ℕ → List ℕ → Type 0
AreRewardsCertifiedAbove model graph vectors = (c : CertificateAbove model graph vectors) (k n s : ℕ) → n < nodes c.policy → s < states_of c.meaning → RewardPromiseAbove (controller c) k n s

-- An interval: where the discount is below 1, no vectors of the graph that pass from below are above these anywhere.
abbrev pub BoundLowerVectors : List ℕ → List ℕ → List ℕ → Type 0
BoundLowerVectors model graph vectors = (c : CertificateAbove model graph vectors) → BoundEveryLowerVector (table_of c.meaning) c.policy c.values
