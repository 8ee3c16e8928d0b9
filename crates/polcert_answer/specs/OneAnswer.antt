-- That three texts have one answer, out of memory aside, where these are the answers to three texts.
use Rattle.std.specs.Prelude.{◌≡◌, ◌≢◌, ℕ, List, Result, Ok, Err}
use Rattle.polcert_format.specs.declared.fault.ModelFault.{ModelFault}
use Rattle.polcert_model.specs.Refusals.{SaysOfText}
use Rattle.polcert_policy.specs.declared.fault.GraphFault.{GraphFault}
use Rattle.polcert_policy.specs.declared.fault.GraphFault.TheVariants as graphs
use Rattle.polcert_policy.specs.declared.fault.VectorFault.{VectorFault}
use Rattle.polcert_policy.specs.declared.fault.VectorFault.TheVariants as values
use Rattle.polcert_answer.specs.declared.fault.Fault.{Fault}
use Rattle.polcert_answer.specs.declared.fault.Fault.TheVariants.{Model, Graph, Vectors}
use Rattle.polcert_answer.specs.Answer.{IsOutOfMemory}

module _ {V : Type 0} (IsAnswer : List ℕ → List ℕ → List ℕ → Result V Fault → Type 0) where
  -- There is one verdict, and no refusal beside it.
  pub record HasOneVerdict : Type 0 where
    pub verdict : (model graph vectors : List ℕ) (x y : V)
        → IsAnswer model graph vectors (Ok x) → IsAnswer model graph vectors (Ok y) → x ≡ y
    pub no_refusal : (model graph vectors : List ℕ) (x : V) (fault : Fault)
        → IsAnswer model graph vectors (Ok x) → IsAnswer model graph vectors (Err fault)
        → IsOutOfMemory fault

  -- Where the model is refused, the graph and the vectors are not, not even as out of memory; and where
  -- the graph is, the vectors are not.
  pub record RefusesTheFirst : Type 0 where
    pub model_before_graph : (model graph vectors : List ℕ) (f : ModelFault) (g : GraphFault) → SaysOfText f
        → IsAnswer model graph vectors (Err (Model f)) → IsAnswer model graph vectors (Err (Graph g)) → ⊥
    pub model_before_vectors : (model graph vectors : List ℕ) (f : ModelFault) (g : VectorFault)
        → SaysOfText f
        → IsAnswer model graph vectors (Err (Model f)) → IsAnswer model graph vectors (Err (Vectors g)) → ⊥
    pub graph_before_vectors : (model graph vectors : List ℕ) (f : GraphFault) (g : VectorFault)
        → f ≢ graphs.Memory
        → IsAnswer model graph vectors (Err (Graph f)) → IsAnswer model graph vectors (Err (Vectors g)) → ⊥

  -- Each text is refused for one reason, at one place.
  pub record HasOneRefusal : Type 0 where
    pub of_model : (model graph vectors : List ℕ) (f g : ModelFault) → SaysOfText f → SaysOfText g
        → IsAnswer model graph vectors (Err (Model f)) → IsAnswer model graph vectors (Err (Model g)) → f ≡ g
    pub of_graph : (model graph vectors : List ℕ) (f g : GraphFault) → f ≢ graphs.Memory → g ≢ graphs.Memory
        → IsAnswer model graph vectors (Err (Graph f)) → IsAnswer model graph vectors (Err (Graph g)) → f ≡ g
    pub of_vectors : (model graph vectors : List ℕ) (f g : VectorFault) → f ≢ values.Memory
        → g ≢ values.Memory
        → IsAnswer model graph vectors (Err (Vectors f)) → IsAnswer model graph vectors (Err (Vectors g))
        → f ≡ g
