-- Helper definitions of private functions: what was read, its intervals, and the laws of a side. Nobody has to believe them.
use Rattle.std.specs.Prelude.{ℕ, ◌<◌, ◌⊎◌, ℤ, List}
use Rattle.polcert_cells.specs.Meaning.{IsSame, Meaning, states_of}
use Rattle.polcert_cells.specs.Tables.{table_of}
use Rattle.polcert_model.specs.Contents.{meaning}
use Rattle.polcert_policy.specs.Graphs.{PolicyGraph, nodes}
use Rattle.polcert_policy.specs.Vectors.{PolicyVectors}
use Rattle.polcert_policy.specs.VectorText.{IsRoundedVectorsText}
use Rattle.polcert_check.specs.Horizon.{Controller, Fits, controller_of}
use Rattle.polcert_answer.specs.Answer.{HasGraph}
use Rattle.polcert_robust.specs.Intervals.{IntervalTable, negated}
use Rattle.polcert_robust.specs.RobustVerdict.{IsRobustShort}
use Rattle.polcert_robust.specs.Worst.{negated_values}
use Rattle.polcert_robust_answer.specs.Near.{HasNearHorizon, NearSide, models_near}
use Rattle.polcert_robust_answer.specs.declared.inputs.NearInputs.{NearInputs}
use Rattle.polcert_robust_answer.specs.declared.within.Within.{Within}

-- the controller of what was read
abbrev pub controller_near : NearInputs → Controller
controller_near given = controller_of (table_of (meaning given.model)) given.graph given.vectors

-- its graph and vectors are for its model
abbrev pub FitNear : NearInputs → Type 0
FitNear given = Fits (table_of (meaning given.model)) given.graph given.vectors

-- the intervals around its model
abbrev pub near_given : Within → NearInputs → IntervalTable
near_given w given = models_near w (table_of (meaning given.model))

-- by this amount some pair is short in the worst case, from below or from above
abbrev pub IsNearAmount : Within → NearInputs → ℤ → Type 0
IsNearAmount w given amount = (n : ℕ) × (s : ℕ) × (n < nodes given.graph) × (s < states_of (meaning given.model))
    × (IsRobustShort (near_given w given) (controller_near given) n s amount
    ⊎ IsRobustShort (negated (near_given w given)) (negated_values (controller_near given)) n s amount)

-- this is the verdict on a model, a graph and vectors, what it says of the promise, and its line
pub record IsNearAnswer {V : Type 0} (side : NearSide V) (w : Within) (m : Meaning) (g : PolicyGraph) (v : PolicyVectors) (verdict : V) (line : List ℕ) : Type 0 where
  pub verdict_is : side.Is (models_near w (table_of m)) (controller_of (table_of m) g v) verdict
  pub horizon_is : side.Meets (models_near w (table_of m)) (controller_of (table_of m) g v) verdict
  pub line_is : side.IsLine w m (controller_of (table_of m) g v) v verdict line

-- what a side has to obey so that one run serves it
pub record NearLaws {V : Type 0} (side : NearSide V) : Type 0 where
  -- what a verdict says of the promise, it says for each same model
  pub same : (w : Within) (m n : Meaning) → IsSame m n → (g : PolicyGraph) (v : PolicyVectors) (x : V)
      → side.Meets (models_near w (table_of m)) (controller_of (table_of m) g v) x → side.Meets (models_near w (table_of n)) (controller_of (table_of n) g v) x
  pub promised : (w : Within) (model graph vectors : List ℕ) → HasNearHorizon side w side.yes model graph vectors → side.Promised w model graph vectors
  pub started : (w : Within) (model graph vectors : List ℕ) → HasNearHorizon side w side.yes model graph vectors
      → (m : Meaning) (g : PolicyGraph) (v : PolicyVectors) → HasGraph model graph m g → IsRoundedVectorsText side.rounding g (states_of m) vectors v
      → (line : List ℕ) → side.IsLine w m (controller_of (table_of m) g v) v side.yes line → side.StartPromised w line model graph vectors
