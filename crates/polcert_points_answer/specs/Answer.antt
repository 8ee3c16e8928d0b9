-- The answer to three texts: a refusal of the first that is none of its kind, or else the verdict.
use Rattle.std.specs.Prelude.{ℕ, ℤ, List, Result, Ok, Err}
use Rattle.polcert_cells.specs.Meaning.{Meaning, states_of, actions_of, observations_of}
use Rattle.polcert_cells.specs.Tables.{CellTable, table_of}
use Rattle.polcert_model.specs.Text.{IsModelText}
use Rattle.polcert_policy.specs.declared.fault.PointFault.{PointFault}
use Rattle.polcert_policy.specs.Vectors.{PolicyVectors, value_of}
use Rattle.polcert_policy.specs.ActionVectors.{IsActionVectorsText}
use Rattle.polcert_policy.specs.PointText.{IsNoPointsText, IsPointsRefusal}
use Rattle.polcert_optimum.specs.declared.verdict.InformedVerdict.TheVariants as informed
use Rattle.polcert_optimum.specs.InformedCheck.{IsInformedVerdict}
use Rattle.polcert_points.specs.PointTable.{PointTable, table_of_set}
use Rattle.polcert_points.specs.PointVerdict.{IsPointVerdict}
use Rattle.polcert_points.specs.declared.point_verdict.PointVerdict.TheVariants as points
use Rattle.polcert_answer.specs.declared.fault.Fault.{Fault}
use Rattle.polcert_answer.specs.declared.fault.Fault.TheVariants.{Points}
use Rattle.polcert_bound_answer.specs.Answer.{IsBoundFault}
use Rattle.polcert_points_answer.specs.declared.verdict.PointBoundVerdict.{PointBoundVerdict}
use Rattle.polcert_points_answer.specs.declared.verdict.PointBoundVerdict.TheVariants.{Yes, VectorExceeded, PointExceeded}
use Rattle.polcert_points_answer.specs.Headline.{PointCertificate}

-- the first text is the text of this model, and the second that of vectors of its actions
pub record HasVectors (model vectors : List ℕ) (m : Meaning) (v : PolicyVectors) : Type 0 where
  pub is_model : IsModelText model m
  pub are_vectors : IsActionVectorsText (actions_of m) (states_of m) vectors v

-- The first text is a model's and the second one of vectors of its actions; and the third has no points for the model's states, actions
-- and observations, and the fault is a right refusal of it.
pub record ArePointsRefused (model vectors : List ℕ) (fault : PointFault) (text : List ℕ) : Type 0 where
  pub meaning : Meaning
  pub values : PolicyVectors
  pub has_vectors : HasVectors model vectors meaning values
  pub no_points : (m : Meaning) → IsModelText model m → IsNoPointsText (states_of m) (actions_of m) (observations_of m) text fault
  pub refusal : (m : Meaning) → IsModelText model m → IsPointsRefusal (states_of m) (actions_of m) (observations_of m) text fault

-- what a refusal says of the three texts
abbrev pub IsPointBoundFault : List ℕ → List ℕ → List ℕ → Fault → Type 0
IsPointBoundFault model vectors points (Points fault) = ArePointsRefused model vectors fault points
IsPointBoundFault model vectors points fault = IsBoundFault model vectors fault

-- The verdict on vectors and points: yes if the vectors are informed and the inequality holds at every point and action; else the first
-- action and state where the vectors are exceeded; or else the first point and action where the inequality fails.
abbrev pub IsPointBoundVerdict : CellTable → (ℕ → ℕ → ℤ) → PointTable → PointBoundVerdict → Type 0
IsPointBoundVerdict t vectors p Yes = IsInformedVerdict t vectors informed.Yes × IsPointVerdict t vectors p points.Yes
IsPointBoundVerdict t vectors p (VectorExceeded a s amount) = IsInformedVerdict t vectors (informed.Exceeded a s amount)
IsPointBoundVerdict t vectors p (PointExceeded i a amount) = IsInformedVerdict t vectors informed.Yes × IsPointVerdict t vectors p (points.Exceeded i a amount)

-- The answer: the verdict, if the texts denote a model, vectors and points, and whichever they denote; else the refusal.
abbrev pub IsPointBoundAnswer : List ℕ → List ℕ → List ℕ → Result PointBoundVerdict Fault → Type 0
IsPointBoundAnswer model vectors points (Ok verdict) = PointCertificate model vectors points × ((c : PointCertificate model vectors points) → IsPointBoundVerdict (table_of c.meaning) (value_of c.values) (table_of_set c.set) verdict)
IsPointBoundAnswer model vectors points (Err fault) = IsPointBoundFault model vectors points fault
