-- Two texts have one answer, unless memory ran out.
use Rattle.std.proofs.Common.{◌≡◌, ℕ, List, Result, Ok, Err, refl, sym, subst, arith}
use Rattle.std.specs.Result.{IsErrAnd}
use Rattle.polcert_bound_answer.proofs.Common.{Up, states_of, actions_of, table_of, VectorFault, PolicyVectors, value_of, action_graph}
use Rattle.polcert_bound_answer.proofs.Common.{IsActionVectorsText, IsNoActionVectorsText, InformedVerdict, Fault, Model, Graph, Vectors}
use Rattle.polcert_bound_answer.proofs.Common.{Points, IsBoundFault, IsBoundAnswer}
use Rattle.polcert_format.specs.declared.fault.ModelFault.{ModelFault}
use Rattle.polcert_format.specs.declared.fault.ModelFault.TheVariants as models
use Rattle.polcert_model.specs.Refusals.{SaysOfText}
use Rattle.polcert_policy.specs.declared.fault.VectorFault.TheVariants as values
use Rattle.polcert_policy.proofs.OneVectorsRefusal as vectors_refusals
use Rattle.polcert_answer.specs.Answer.{IsOutOfMemory, IsButForMemory}
use Rattle.polcert_answer.proofs.OneAnswer.{no_model}
use Rattle.polcert_bound_answer.proofs.OneInformed.{one_informed_verdict}

-- what is refused as vectors are none, or memory ran out
vectors_memory : (actions states : ℕ) (text : List ℕ) (f : VectorFault) (v : PolicyVectors) → IsNoActionVectorsText actions states text f
    → IsActionVectorsText actions states text v → f ≡ values.Memory
vectors_memory actions states text values.Memory v refused are = refl
vectors_memory actions states text _ v refused are = absurd (refused v are)

module _ (model vectors : List ℕ) where
  pub one_verdict : (x y : InformedVerdict) → IsBoundAnswer model vectors (Ok x) → IsBoundAnswer model vectors (Ok y) → x ≡ y
  one_verdict x y h g = one_informed_verdict (table_of h.0.meaning) (value_of h.0.values) x y (h.1 h.0) (g.1 h.0)

  pub model_first : (f : ModelFault) (g : VectorFault) → SaysOfText f → IsBoundAnswer model vectors (Err (Model f))
      → IsBoundAnswer model vectors (Err (Vectors g)) → ⊥
  model_first f g says h other = no_model model f other.meaning says h other.is_model

  pub one_refusal : (f g : VectorFault) → (f ≡ values.Memory → ⊥) → (g ≡ values.Memory → ⊥) → IsBoundAnswer model vectors (Err (Vectors f))
      → IsBoundAnswer model vectors (Err (Vectors g)) → f ≡ g
  one_refusal f g f_says g_says h other =
      vectors_refusals.one_refusal Up (action_graph (actions_of h.meaning)) (states_of h.meaning) vectors f g f_says g_says
      (h.refusal h.meaning h.is_model) (other.refusal h.meaning h.is_model)

  pub no_refusal : (x : InformedVerdict) (fault : Fault) → IsBoundAnswer model vectors (Ok x) → IsBoundAnswer model vectors (Err fault)
      → IsOutOfMemory fault
  no_refusal x (Model models.Memory) h refused = tt
  no_refusal x (Model (models.Item kind item place)) h refused =
      absurd (no_model model (models.Item kind item place) h.0.meaning tt refused h.0.is_model)
  no_refusal x (Model (models.RowSum table action row)) h refused =
      absurd (no_model model (models.RowSum table action row) h.0.meaning tt refused h.0.is_model)
  no_refusal x (Graph f) h refused = absurd refused
  no_refusal x (Vectors f) h refused =
      let memory = vectors_memory (actions_of h.0.meaning) (states_of h.0.meaning) vectors f h.0.values
      (refused.no_vectors h.0.meaning h.0.is_model) h.0.are_vectors in
      subst (λ (g : VectorFault). IsOutOfMemory (Vectors g)) (sym memory) tt
  no_refusal x (Points f) h refused = absurd refused

  -- beside a verdict there is no other answer
  pub but_for_memory : (x : InformedVerdict) → IsBoundAnswer model vectors (Ok x) → (r : Result InformedVerdict Fault)
      → IsBoundAnswer model vectors r → IsButForMemory x r
  but_for_memory x h (Ok y) other = one_verdict y x other h
  but_for_memory x h (Err fault) other = no_refusal x fault h other

-- ---- an answer that is a fault that is handed on
pub refused_answer : (model vectors : List ℕ) (r : Result InformedVerdict Fault) (given : Fault) → IsErrAnd r (λ fault. fault ≡ given)
    → IsBoundFault model vectors given → IsBoundAnswer model vectors r
refused_answer model vectors r given h1 h2 = grind arith
