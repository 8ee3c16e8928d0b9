-- Texts are refused, or denote what has a verdict.
use Rattle.std.proofs.Common.{◌≢◌, inl, inr, ⊎_elim, ℕ, List, refl, arith}
use Rattle.polcert_cells.specs.Meaning.{Meaning, HasLimitedNumbers, states_of, actions_of, observations_of}
use Rattle.polcert_cells.specs.Tables.{table_of}
use Rattle.polcert_format.specs.Text.{IsModelText}
use Rattle.polcert_format.specs.Refusals.{SaysOfText}
use Rattle.polcert_format.specs.declared.fault.ModelFault.{ModelFault}
use Rattle.polcert_format.specs.declared.fault.ModelFault.TheVariants as models
use Rattle.polcert_format.proofs.LimitLaws.{within_limits}
use Rattle.polcert_policy.specs.declared.fault.GraphFault.{GraphFault}
use Rattle.polcert_policy.specs.declared.fault.GraphFault.TheVariants as graphs
use Rattle.polcert_policy.specs.declared.fault.VectorFault.{VectorFault}
use Rattle.polcert_policy.specs.declared.fault.VectorFault.TheVariants as values
use Rattle.polcert_policy.specs.Graphs.{PolicyGraph}
use Rattle.polcert_policy.specs.Vectors.{value_of}
use Rattle.polcert_check.specs.Horizon.{Controller}
use Rattle.polcert_answer.specs.declared.fault.Fault.TheVariants.{Model, Graph, Vectors}
use Rattle.polcert_answer.specs.Answer.{HasGraph, IsRoundedAnswer, IsOutOfMemory}
use Rattle.polcert_answer.specs.Side.{Side}
use Rattle.polcert_answer.specs.Steps.Laws.{SideLaws}
use Rattle.polcert_answer.proofs.Above.{above_laws}
use Rattle.polcert_answer.proofs.Below.{below_laws}
use Rattle.polcert_answer.proofs.Denoted.{of_parts, proper_graph, graph_refused, vectors_refused, answer_is}
use Rattle.polcert_answer.proofs.Refusing.{model_refused}
use Rattle.polcert_bound_answer.proofs.Denoted as bounds
use Rattle.polcert_existence.proofs.GraphAnswers.{graph_answer}
use Rattle.polcert_existence.proofs.ModelAnswers.{model_answer}
use Rattle.polcert_existence.proofs.VectorAnswers.{vectors_answer, action_vectors_answer}
use Rattle.polcert_answers_exist.specs.Existence.{HasSome, HasAnswer, HasAnswerAbove, HasBoundAnswer}
use Rattle.polcert_answers_exist.proofs.Verdicts.{has_verdict, has_verdict_above, has_informed_verdict}

-- ---- faults that aren't out of memory
model_says : (fault : ModelFault) → SaysOfText fault → IsOutOfMemory (Model fault) → ⊥
model_says models.Memory says memory = says
model_says fault says memory = grind arith

graph_says : (fault : GraphFault) → fault ≢ graphs.Memory → IsOutOfMemory (Graph fault) → ⊥
graph_says graphs.Memory says memory = says refl
graph_says fault says memory = grind arith

vectors_say : (fault : VectorFault) → fault ≢ values.Memory → IsOutOfMemory (Vectors fault) → ⊥
vectors_say values.Memory says memory = says refl
vectors_say fault says memory = grind arith

limits_of : {text : List ℕ} (m : Meaning) → IsModelText text m → HasLimitedNumbers m
limits_of m is = within_limits is.lexemes m is.denotes

-- ---- three texts, on a side on which every controller has a verdict
module _ {V F : Type 0} {side : Side V F} (laws : SideLaws side) (verdict_on : (c : Controller) → (verdict : V) × side.Is c verdict)
    (model graph vectors : List ℕ) where
  abbrev HasSideAnswer : Type 0
  HasSideAnswer = HasSome {V = V} (λ result. IsRoundedAnswer side.rounding side.Is model graph vectors result)

  with_graph : (m : Meaning) (g : PolicyGraph) → HasGraph model graph m g → HasSideAnswer
  with_graph m g has = ⊎_elim
      (λ v. let found = verdict_on (of_parts m g v.0) in inl (found.0, answer_is laws m g v.0 has v.1 found.0 found.1))
      (λ f. inr (Vectors f.0, vectors_say f.0 f.1, vectors_refused side.rounding model graph f.0 m g has vectors f.2))
      (vectors_answer side.rounding g (states_of m) (proper_graph m g has) limits.states.0 limits.states.1 vectors)
    where
      limits : HasLimitedNumbers m
      limits = limits_of m has.is_model

  with_model : (m : Meaning) → IsModelText model m → HasSideAnswer
  with_model m is = ⊎_elim
      (λ g. with_graph m g.0 (record { is_model = is; is_graph = g.1 }))
      (λ f. inr (Graph f.0, graph_says f.0 f.1, graph_refused model f.0 m is graph f.2))
      (graph_answer (actions_of m) (observations_of m) limits.actions.0 limits.observations.0 graph)
    where
      limits : HasLimitedNumbers m
      limits = limits_of m is

  side_answer : HasSideAnswer
  side_answer = ⊎_elim (λ m. with_model m.0 m.1) (λ f. inr (Model f.0, model_says f.0 f.1, model_refused f.0 model f.2))
      (model_answer model)

pub has_answer : (model graph vectors : List ℕ) → HasAnswer model graph vectors
has_answer model graph vectors = side_answer below_laws has_verdict model graph vectors

pub has_answer_above : (model graph vectors : List ℕ) → HasAnswerAbove model graph vectors
has_answer_above model graph vectors = side_answer above_laws has_verdict_above model graph vectors

-- ---- a bound's two texts
module _ (model vectors : List ℕ) where
  with_bound_model : (m : Meaning) → IsModelText model m → HasBoundAnswer model vectors
  with_bound_model m is = ⊎_elim
      (λ v. let found = has_informed_verdict (table_of m) (value_of v.0) in
      inl (found.0, (bounds.certificate_of m v.0 is v.1, bounds.verdict_of_each m v.0 is v.1 found.0 found.1)))
      (λ f. inr (Vectors f.0, vectors_say f.0 f.1, bounds.vectors_refused model f.0 m is vectors f.2))
      (action_vectors_answer (actions_of m) (states_of m) limits.actions.0 limits.actions.1 limits.states.0 limits.states.1 vectors)
    where
      limits : HasLimitedNumbers m
      limits = limits_of m is

  pub has_bound_answer : HasBoundAnswer model vectors
  has_bound_answer = ⊎_elim (λ m. with_bound_model m.0 m.1) (λ f. inr (Model f.0, model_says f.0 f.1, model_refused f.0 model f.2))
      (model_answer model)
