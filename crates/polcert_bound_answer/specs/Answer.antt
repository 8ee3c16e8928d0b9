-- The answer to two texts: a refusal of the first that is none of its kind, or else the verdict.
use Rattle.std.specs.Prelude.{ℕ, List, Result, Ok, Err}
use Rattle.polcert_cells.specs.Meaning.{Meaning, states_of, actions_of}
use Rattle.polcert_cells.specs.Tables.{table_of}
use Rattle.polcert_model.specs.Text.{IsModelText}
use Rattle.polcert_policy.specs.declared.fault.VectorFault.{VectorFault}
use Rattle.polcert_policy.specs.Vectors.{value_of}
use Rattle.polcert_policy.specs.ActionVectors.{IsNoActionVectorsText, IsActionVectorsRefusal}
use Rattle.polcert_optimum.specs.declared.verdict.InformedVerdict.{InformedVerdict}
use Rattle.polcert_optimum.specs.InformedCheck.{IsInformedVerdict}
use Rattle.polcert_answer.specs.declared.fault.Fault.{Fault}
use Rattle.polcert_answer.specs.declared.fault.Fault.TheVariants.{Model, Graph, Vectors, Points}
use Rattle.polcert_answer.specs.Answer.{IsModelFault}
use Rattle.polcert_bound_answer.specs.Headline.{BoundCertificate}

-- The first text is a model's; and the second is no list of vectors, one for each of its actions, and the fault is a right refusal of it.
pub record AreActionVectorsRefused (model : List ℕ) (fault : VectorFault) (text : List ℕ) : Type 0 where
  pub meaning : Meaning
  pub is_model : IsModelText model meaning
  pub no_vectors : (m : Meaning) → IsModelText model m → IsNoActionVectorsText (actions_of m) (states_of m) text fault
  pub refusal : (m : Meaning) → IsModelText model m → IsActionVectorsRefusal (actions_of m) (states_of m) text fault

-- what a refusal says of the two texts; there is no graph, and there are no points
abbrev pub IsBoundFault : List ℕ → List ℕ → Fault → Type 0
IsBoundFault model vectors (Model fault) = IsModelFault model fault
IsBoundFault model vectors (Graph fault) = ⊥
IsBoundFault model vectors (Vectors fault) = AreActionVectorsRefused model fault vectors
IsBoundFault model vectors (Points fault) = ⊥

-- The answer: the verdict, if the texts denote a model and vectors, and whichever they denote; else the refusal.
abbrev pub IsBoundAnswer : List ℕ → List ℕ → Result InformedVerdict Fault → Type 0
IsBoundAnswer model vectors (Ok verdict) = BoundCertificate model vectors × ((c : BoundCertificate model vectors) → IsInformedVerdict (table_of c.meaning) (value_of c.values) verdict)
IsBoundAnswer model vectors (Err fault) = IsBoundFault model vectors fault
