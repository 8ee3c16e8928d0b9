-- Three texts have one answer, out of memory aside.
use Rattle.std.proofs.Common.{◌≡◌, ℕ, List, Result, Ok, Err, refl, sym, subst, arith}
use Rattle.polcert_answer.proofs.Common.{ModelFault, Meaning, IsModelText, SaysOfText, PolicyGraph, GraphFault, VectorFault, Rounding}
use Rattle.polcert_answer.proofs.Common.{IsGraphText, IsNoGraphText, PolicyVectors, IsRoundedVectorsText, IsNoRoundedVectorsText}
use Rattle.polcert_answer.proofs.Common.{Controller, Fault, Model, Graph, Vectors, Points, controller, HasGraph, IsModelFault}
use Rattle.polcert_answer.proofs.Common.{IsRoundedAnswer}
use Rattle.polcert_format.specs.declared.fault.ModelFault.TheVariants as models
use Rattle.polcert_policy.specs.declared.fault.GraphFault.TheVariants as graphs
use Rattle.polcert_policy.specs.declared.fault.VectorFault.TheVariants as values
use Rattle.polcert_format.proofs.OneRefusal as model_refusals
use Rattle.polcert_policy.proofs.OneGraphRefusal as graph_refusals
use Rattle.polcert_policy.proofs.OneVectorsRefusal as vectors_refusals
use Rattle.polcert_answer.specs.Answer.{IsOutOfMemory, IsButForMemory}
use Rattle.polcert_answer.specs.OneAnswer.{HasOneVerdict, RefusesTheFirst, HasOneRefusal}
use Rattle.polcert_format.specs.RefusedTexts.{IsRefusedModelText}
use Rattle.polcert_answer.proofs.Refusing.{refused_of}

-- what is refused as a graph is none, or memory ran out
graph_memory : (a o : ℕ) (text : List ℕ) (f : GraphFault) (g : PolicyGraph) → IsNoGraphText a o text f → IsGraphText a o text g
    → f ≡ graphs.Memory
graph_memory a o text graphs.Memory g refused is = refl
graph_memory a o text _ g refused is = absurd (refused g is)

vectors_memory : (rounding : Rounding) (p : PolicyGraph) (states : ℕ) (text : List ℕ) (f : VectorFault) (v : PolicyVectors)
    → IsNoRoundedVectorsText rounding p states text f
    → IsRoundedVectorsText rounding p states text v → f ≡ values.Memory
vectors_memory rounding p states text values.Memory v refused are = refl
vectors_memory rounding p states text _ v refused are = absurd (refused v are)

-- what is refused as a model, except out of memory, is none
pub no_model : (model : List ℕ) (f : ModelFault) (m : Meaning) → SaysOfText f → IsModelFault model f → IsModelText model m → ⊥
no_model model f m says refused is = (refused_of f model says refused).no_model m is

-- what is said of a model's refused text, except out of memory
refused_text : (model : List ℕ) (f : ModelFault) → SaysOfText f → IsModelFault model f → IsRefusedModelText f model
refused_text model f h1 h2 = grind arith

-- a model is refused for one reason, at one place
pub one_model_refusal : (model : List ℕ) (f g : ModelFault) → SaysOfText f → SaysOfText g → IsModelFault model f → IsModelFault model g
    → f ≡ g
one_model_refusal model f g f_says g_says h other = grind (arith, model_refusals.one_refusal, refused_text)

-- Where values are rounded this way, these are the verdicts, and a controller has one of them.
module _ {V : Type 0} (rounding : Rounding) (Is : Controller → V → Type 0) (one : (c : Controller) (x y : V) → Is c x → Is c y → x ≡ y)
    (model graph vectors : List ℕ) where
  abbrev Answers : Result V Fault → Type 0
  Answers r = IsRoundedAnswer rounding Is model graph vectors r

  pub model_before_graph : (f : ModelFault) (g : GraphFault) → SaysOfText f
      → Answers (Err (Model f)) → Answers (Err (Graph g)) → ⊥
  model_before_graph f g says h other = no_model model f other.meaning says h other.is_model

  pub model_before_vectors : (f : ModelFault) (g : VectorFault) → SaysOfText f
      → Answers (Err (Model f)) → Answers (Err (Vectors g)) → ⊥
  model_before_vectors f g says h other = no_model model f other.meaning says h other.has_graph.is_model

  pub graph_before_vectors : (f : GraphFault) (g : VectorFault) → (f ≡ graphs.Memory → ⊥)
      → Answers (Err (Graph f)) → Answers (Err (Vectors g)) → ⊥
  graph_before_vectors f g says h other =
      says (graph_memory _ _ graph f other.policy (h.no_graph other.meaning other.has_graph.is_model) other.has_graph.is_graph)

  pub one_graph_refusal : (f g : GraphFault) → (f ≡ graphs.Memory → ⊥) → (g ≡ graphs.Memory → ⊥)
      → Answers (Err (Graph f)) → Answers (Err (Graph g)) → f ≡ g
  one_graph_refusal f g f_says g_says h other =
      graph_refusals.one_refusal _ _ graph f g f_says g_says (h.refusal h.meaning h.is_model) (other.refusal h.meaning h.is_model)

  pub one_vectors_refusal : (f g : VectorFault) → (f ≡ values.Memory → ⊥) → (g ≡ values.Memory → ⊥)
      → Answers (Err (Vectors f)) → Answers (Err (Vectors g)) → f ≡ g
  one_vectors_refusal f g f_says g_says h other =
      vectors_refusals.one_refusal rounding _ _ vectors f g f_says g_says (h.refusal h.meaning h.policy h.has_graph)
      (other.refusal h.meaning h.policy h.has_graph)

  pub one_verdict : (x y : V) → Answers (Ok x) → Answers (Ok y) → x ≡ y
  one_verdict x y h other = one (controller h.0) x y (h.1 h.0) (other.1 h.0)

  pub no_refusal : (x : V) (fault : Fault) → Answers (Ok x) → Answers (Err fault) → IsOutOfMemory fault
  no_refusal x (Model models.Memory) h refused = tt
  no_refusal x (Model (models.Item kind item place)) h refused =
      absurd (no_model model (models.Item kind item place) h.0.meaning tt refused h.0.is_model)
  no_refusal x (Model (models.RowSum table action row)) h refused =
      absurd (no_model model (models.RowSum table action row) h.0.meaning tt refused h.0.is_model)
  no_refusal x (Graph f) h refused =
      subst (λ (g : GraphFault). IsOutOfMemory (Graph g))
      (sym (graph_memory _ _ graph f h.0.policy (refused.no_graph h.0.meaning h.0.is_model) h.0.is_graph)) tt
  no_refusal x (Vectors f) h refused =
      let has : HasGraph model graph h.0.meaning h.0.policy = record { is_model = h.0.is_model; is_graph = h.0.is_graph } in
      let memory = vectors_memory rounding _ _ vectors f h.0.values (refused.no_vectors h.0.meaning h.0.policy has) h.0.are_vectors in
      subst (λ (g : VectorFault). IsOutOfMemory (Vectors g)) (sym memory) tt
  no_refusal x (Points f) h refused = absurd refused

  -- beside a verdict there is no other answer
  pub but_for_memory : (x : V) → Answers (Ok x) → (r : Result V Fault) → Answers r → IsButForMemory x r
  but_for_memory x h (Ok y) other = one_verdict y x other h
  but_for_memory x h (Err fault) other = no_refusal x fault h other

-- the same of every three texts
module _ {V : Type 0} (rounding : Rounding) (Is : Controller → V → Type 0)
    (one : (c : Controller) (x y : V) → Is c x → Is c y → x ≡ y) where
  abbrev AllAnswers : List ℕ → List ℕ → List ℕ → Result V Fault → Type 0
  AllAnswers model graph vectors r = IsRoundedAnswer rounding Is model graph vectors r

  pub has_one_verdict : HasOneVerdict AllAnswers
  has_one_verdict = record { verdict = one_verdict rounding Is one; no_refusal = no_refusal rounding Is one }

  pub refuses_the_first : RefusesTheFirst AllAnswers
  refuses_the_first = record {
    model_before_graph = model_before_graph rounding Is one;
    model_before_vectors = model_before_vectors rounding Is one;
    graph_before_vectors = graph_before_vectors rounding Is one;
  }

  pub has_one_refusal : HasOneRefusal AllAnswers
  has_one_refusal = record {
    of_model = λ model graph vectors f g. one_model_refusal model f g;
    of_graph = one_graph_refusal rounding Is one;
    of_vectors =
        one_vectors_refusal rounding Is one;
  }
