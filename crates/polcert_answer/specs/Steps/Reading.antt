-- Helper definitions of private functions: what is read of three sources, and written of it. Nobody has to believe them.
use Rattle.std.specs.Prelude.{◌≡◌, ℕ, ℤ, List, Result, Ok, IfOk}
use Rattle.polcert_text.specs.declared.number.Rounding.{Rounding}
use Rattle.polcert_cells.specs.Meaning.{Meaning, states_of}
use Rattle.polcert_cells.specs.Tables.{table_of}
use Rattle.polcert_model.specs.Contents.{meaning}
use Rattle.polcert_policy.specs.Graphs.{PolicyGraph}
use Rattle.polcert_policy.specs.Vectors.{PolicyVectors}
use Rattle.polcert_policy.specs.VectorText.{IsRoundedVectorsText}
use Rattle.polcert_policy.specs.FullForm.{vectors_text}
use Rattle.polcert_check.specs.Horizon.{Controller, Fits, controller_of}
use Rattle.polcert_check.specs.Lower.{IsMoved}
use Rattle.polcert_answer.specs.declared.fault.Fault.{Fault}
use Rattle.polcert_answer.specs.declared.fault.Fault.TheVariants.{Model, Graph, Vectors, Points}
use Rattle.polcert_answer.specs.declared.fault.RunFault.{RunFault}
use Rattle.polcert_answer.specs.declared.fault.RunFault.TheVariants.{Text, ReadModel, ReadGraph, ReadVectors, ReadPoints, Write, Lower, Raise, TooLargeToPrint}
use Rattle.polcert_answer.specs.declared.runs.Inputs.{Inputs}
use Rattle.polcert_answer.specs.Answer.{HasGraph, IsRoundedAnswer}
use Rattle.polcert_answer.specs.Side.{Side, HasHorizon}

-- the controller of what was read
abbrev pub controller_given : Inputs → Controller
controller_given given = controller_of (table_of (meaning given.model)) given.graph given.vectors

-- its graph and vectors are for its model
abbrev pub FitGiven : Inputs → Type 0
FitGiven given = Fits (table_of (meaning given.model)) given.graph given.vectors

-- the texts of the three sources are those of this model, graph and vectors, with each value rounded this way
pub record AreDenoted (rounding : Rounding) (of_model of_graph of_vectors : List ℕ → Type 0) (m : Meaning) (g : PolicyGraph) (v : PolicyVectors) : Type 0 where
  pub first : List ℕ
  pub second : List ℕ
  pub third : List ℕ
  pub model_read : of_model first
  pub graph_read : of_graph second
  pub vectors_read : of_vectors third
  pub has_graph : HasGraph first second m g
  pub are_vectors : IsRoundedVectorsText rounding g (states_of m) third v

module _ {V F : Type 0} (side : Side V F) (m : Meaning) (g : PolicyGraph) (v : PolicyVectors) where
  -- what these denote has this verdict, and this is the verdict's line
  pub record IsAnswerLine (verdict : V) (line : List ℕ) : Type 0 where
    pub verdict_is : side.Is (controller_of (table_of m) g v) verdict
    pub line_is : side.IsLine m (controller_of (table_of m) g v) v verdict line

  -- the answer is the least constant by which these vectors are moved to pass, and the moved ones
  abbrev pub AreMoved : ℤ × PolicyVectors → Type 0
  AreMoved answer = IsMoved side.IsLeast side.added (λ c. side.Is c side.yes) (table_of m) g v answer

  -- This is the constant, and the text is the full form of the moved vectors, which reads back.
  pub record AreWrittenMoved (by : ℤ) (text : List ℕ) : Type 0 where
    pub other : PolicyVectors
    pub moved : AreMoved (by, other)
    pub text_is : text ≡ vectors_text g other
    pub reads_back : IsRoundedVectorsText side.rounding g (states_of m) text other

-- a fault of a graph's text or of its source
abbrev pub IsGraphReadFault : RunFault → Type 0
IsGraphReadFault (Text (Graph fault)) = Unit {0}
IsGraphReadFault ReadGraph = Unit {0}
IsGraphReadFault _ = ⊥

-- a fault of the text of vectors or of its source
abbrev pub IsVectorsReadFault : RunFault → Type 0
IsVectorsReadFault (Text (Vectors fault)) = Unit {0}
IsVectorsReadFault ReadVectors = Unit {0}
IsVectorsReadFault _ = ⊥

-- a fault of one of the three texts or of its source
abbrev pub IsReadFault : RunFault → Type 0
IsReadFault (Text (Model fault)) = Unit {0}
IsReadFault (Text (Graph fault)) = Unit {0}
IsReadFault (Text (Vectors fault)) = Unit {0}
IsReadFault (Text (Points fault)) = ⊥
IsReadFault ReadModel = Unit {0}
IsReadFault ReadGraph = Unit {0}
IsReadFault ReadVectors = Unit {0}
IsReadFault ReadPoints = ⊥
IsReadFault Write = ⊥
IsReadFault (Lower fault) = ⊥
IsReadFault (Raise fault) = ⊥
IsReadFault TooLargeToPrint = ⊥

-- a fault of the sink, of lowering or of raising
abbrev pub IsNoReadFault : RunFault → Type 0
IsNoReadFault Write = Unit {0}
IsNoReadFault (Lower fault) = Unit {0}
IsNoReadFault (Raise fault) = Unit {0}
IsNoReadFault _ = ⊥

-- what the answer to three texts in memory promises, on either side
pub record IsTextAnswer {V F : Type 0} (side : Side V F) (model graph vectors : List ℕ) (result : Result V Fault) : Type 0 where
  pub answer : IsRoundedAnswer side.rounding side.Is model graph vectors result
  pub promise : result ≡ Ok side.yes → side.Promised model graph vectors
  pub horizon : IfOk result (λ verdict. HasHorizon side verdict model graph vectors)
