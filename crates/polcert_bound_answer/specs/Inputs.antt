-- What is read of the sources of a model and of vectors, one for each of its actions.
use Rattle.std.specs.Prelude.{ℕ, List}
use Rattle.polcert_cells.specs.Meaning.{Meaning, states_of, actions_of}
use Rattle.polcert_model.specs.Text.{IsModelText}
use Rattle.polcert_policy.specs.Vectors.{PolicyVectors}
use Rattle.polcert_policy.specs.ActionVectors.{IsActionVectorsText}
use Rattle.polcert_answer.specs.declared.fault.Fault.TheVariants.{Model, Vectors}
use Rattle.polcert_answer.specs.declared.fault.RunFault.{RunFault}
use Rattle.polcert_answer.specs.declared.fault.RunFault.TheVariants.{Text, ReadModel, ReadVectors}

-- the texts of the two sources are those of this model and of these vectors
pub record AreBoundDenoted (of_model of_vectors : List ℕ → Type 0) (m : Meaning) (v : PolicyVectors) : Type 0 where
  pub first : List ℕ
  pub second : List ℕ
  pub model_read : of_model first
  pub vectors_read : of_vectors second
  pub is_model : IsModelText first m
  pub are_vectors : IsActionVectorsText (actions_of m) (states_of m) second v

-- a fault of one of the two texts or of its source
abbrev pub IsBoundReadFault : RunFault → Type 0
IsBoundReadFault (Text (Model fault)) = Unit {0}
IsBoundReadFault (Text (Vectors fault)) = Unit {0}
IsBoundReadFault ReadModel = Unit {0}
IsBoundReadFault ReadVectors = Unit {0}
IsBoundReadFault _ = ⊥
