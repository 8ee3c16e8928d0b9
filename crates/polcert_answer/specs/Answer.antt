-- The answer to three texts: a refusal of the first that is none of its kind, or else the verdict.
use Rattle.std.specs.Prelude.{◌≡◌, ℕ, List, Result, Ok, Err}
use Rattle.polcert_text.specs.declared.number.Rounding.{Rounding}
use Rattle.polcert_text.specs.declared.number.Rounding.TheVariants.{Down, Up}
use Rattle.polcert_format.specs.declared.fault.ModelFault.{ModelFault}
use Rattle.polcert_format.specs.declared.fault.ModelFault.TheVariants as models
use Rattle.polcert_cells.specs.Meaning.{Meaning, states_of, actions_of, observations_of}
use Rattle.polcert_model.specs.Text.{IsModelText}
use Rattle.polcert_model.specs.FirstWrong.{TextTokens, AreTokensOf}
use Rattle.polcert_model.specs.Refusals.{IsRefusal, IsPlacedRight}
use Rattle.polcert_policy.specs.declared.fault.GraphFault.{GraphFault}
use Rattle.polcert_policy.specs.declared.fault.GraphFault.TheVariants as graphs
use Rattle.polcert_policy.specs.declared.fault.VectorFault.{VectorFault}
use Rattle.polcert_policy.specs.declared.fault.VectorFault.TheVariants as values
use Rattle.polcert_policy.specs.declared.fault.PointFault.TheVariants as points
use Rattle.polcert_policy.specs.Graphs.{PolicyGraph}
use Rattle.polcert_policy.specs.GraphText.{IsGraphText, IsGraphRefusal, IsNoGraphText}
use Rattle.polcert_policy.specs.VectorText.{IsRoundedVectorsRefusal, IsNoRoundedVectorsText}
use Rattle.polcert_check.specs.declared.survey.Verdict.{Verdict}
use Rattle.polcert_check.specs.declared.above.AboveVerdict.{AboveVerdict}
use Rattle.polcert_check.specs.Horizon.{Controller}
use Rattle.polcert_check.specs.Verdict.{IsVerdict}
use Rattle.polcert_check.specs.Above.{IsAboveVerdict}
use Rattle.polcert_answer.specs.declared.fault.Fault.{Fault}
use Rattle.polcert_answer.specs.declared.fault.Fault.TheVariants.{Model, Graph, Vectors, Points}
use Rattle.polcert_answer.specs.Headline.{RoundedCertificate, controller}

-- The text is no model's, and the fault is what is promised of a refusal of this text's tokens, and stands where it is
-- promised to stand.
pub record IsModelRefused (fault : ModelFault) (text : List ℕ) : Type 0 where
  pub no_model : (m : Meaning) → IsModelText text m → ⊥
  pub refusal : (ts : TextTokens) → AreTokensOf text ts → IsRefusal ts fault
  pub placed : (ts : TextTokens) → AreTokensOf text ts → IsPlacedRight ts fault

-- The first text is a model's; and the second is no graph for the counts of the model that it denotes, and the fault is a
-- right refusal of it.
pub record IsGraphRefused (model : List ℕ) (fault : GraphFault) (text : List ℕ) : Type 0 where
  pub meaning : Meaning
  pub is_model : IsModelText model meaning
  pub no_graph : (m : Meaning) → IsModelText model m → IsNoGraphText (actions_of m) (observations_of m) text fault
  pub refusal : (m : Meaning) → IsModelText model m → IsGraphRefusal (actions_of m) (observations_of m) text fault

-- the first text is the text of this model, and the second that of this graph for its counts
pub record HasGraph (model graph : List ℕ) (m : Meaning) (policy : PolicyGraph) : Type 0 where
  pub is_model : IsModelText model m
  pub is_graph : IsGraphText (actions_of m) (observations_of m) graph policy

-- The first text is a model's and the second a graph's; and the third is no list of vectors for that graph and the model's
-- states, each value rounded this way, and the fault is a right refusal of it.
pub record AreRoundedVectorsRefused (rounding : Rounding) (model graph : List ℕ) (fault : VectorFault) (text : List ℕ) : Type 0 where
  pub meaning : Meaning
  pub policy : PolicyGraph
  pub has_graph : HasGraph model graph meaning policy
  pub no_vectors : (m : Meaning) (p : PolicyGraph) → HasGraph model graph m p → IsNoRoundedVectorsText rounding p (states_of m) text fault
  pub refusal : (m : Meaning) (p : PolicyGraph) → HasGraph model graph m p → IsRoundedVectorsRefusal rounding p (states_of m) text fault

-- what a refusal says of the three texts, of which none has points; out of memory says nothing about the text that was being read
abbrev pub IsModelFault : List ℕ → ModelFault → Type 0
IsModelFault model models.Memory = Unit {0}
IsModelFault model fault = IsModelRefused fault model

abbrev pub IsFault : Rounding → List ℕ → List ℕ → List ℕ → Fault → Type 0
IsFault rounding model graph vectors (Model fault) = IsModelFault model fault
IsFault rounding model graph vectors (Graph fault) = IsGraphRefused model fault graph
IsFault rounding model graph vectors (Vectors fault) = AreRoundedVectorsRefused rounding model graph fault vectors
IsFault rounding model graph vectors (Points fault) = ⊥

-- The answer, where values are rounded this way and these are the verdicts: the verdict, where the texts denote a controller,
-- and whatever controller they denote; else the refusal.
abbrev pub IsRoundedAnswer : {V : Type 0} → Rounding → (Controller → V → Type 0) → List ℕ → List ℕ → List ℕ → Result V Fault → Type 0
IsRoundedAnswer rounding Is model graph vectors (Ok verdict) = RoundedCertificate rounding model graph vectors × ((c : RoundedCertificate rounding model graph vectors) → Is (controller c) verdict)
IsRoundedAnswer rounding Is model graph vectors (Err fault) = IsFault rounding model graph vectors fault

-- the answer of a check
abbrev pub IsAnswer : List ℕ → List ℕ → List ℕ → Result Verdict Fault → Type 0
IsAnswer model graph vectors result = IsRoundedAnswer Down IsVerdict model graph vectors result

-- the answer of a check from above
abbrev pub IsAnswerAbove : List ℕ → List ℕ → List ℕ → Result AboveVerdict Fault → Type 0
IsAnswerAbove model graph vectors result = IsRoundedAnswer Up IsAboveVerdict model graph vectors result

-- out of memory, which may be answered to any text
abbrev pub IsOutOfMemory : Fault → Type 0
IsOutOfMemory (Model models.Memory) = Unit {0}
IsOutOfMemory (Graph graphs.Memory) = Unit {0}
IsOutOfMemory (Vectors values.Memory) = Unit {0}
IsOutOfMemory (Points points.Memory) = Unit {0}
IsOutOfMemory _ = ⊥

-- the answer is this verdict, except out of memory
abbrev pub IsButForMemory : {V : Type 0} → V → Result V Fault → Type 0
IsButForMemory verdict (Ok answered) = answered ≡ verdict
IsButForMemory verdict (Err fault) = IsOutOfMemory fault
