-- What runs over a model and vectors, one for each of its actions, promise.
use Rattle.std.specs.Prelude.{◌≡◌, ◌≢◌, ℕ, ℤ, List, Option, Result, Ok, IfErr, IsErrOf}
use Rattle.polcert_text.specs.Source.{IsText, EachTextThatFits}
use Rattle.polcert_format.specs.declared.fault.ModelFault.{ModelFault}
use Rattle.polcert_cells.specs.Tables.{table_of}
use Rattle.polcert_policy.specs.declared.fault.VectorFault.{VectorFault}
use Rattle.polcert_policy.specs.Vectors.{value_of}
use Rattle.polcert_optimum.specs.declared.verdict.InformedVerdict.{InformedVerdict}
use Rattle.polcert_optimum.specs.InformedCheck.{MeetsInformedPromise}
use Rattle.polcert_optimum.specs.Seen.{IsBoundStartMost, BoundEveryPolicyOfModel}
use Rattle.polcert_answer.specs.declared.fault.Fault.TheVariants.{Model, Vectors}
use Rattle.polcert_answer.specs.declared.fault.RunFault.{RunFault}
use Rattle.polcert_answer.specs.declared.fault.RunFault.TheVariants.{Text, ReadModel, ReadVectors, Write}
use Rattle.polcert_answer.specs.Answer.{IsModelFault}
use Rattle.polcert_answer.specs.Run.{IsNamedRightly}
use Rattle.polcert_bound_answer.specs.Headline.{BoundCertificate, IsCertifiedBound}
use Rattle.polcert_bound_answer.specs.Answer.{AreActionVectorsRefused, IsBoundAnswer}
use Rattle.polcert_bound_answer.specs.Lines.{bound_line, IsBoundLine}

-- ---- how a run over two sources ends
--
-- The two sources are the model's and the vectors', each with its state before and after the call.

-- A text is refused rightly. No text that fits what was read of a source is a model's; or after the model's text vectors of its actions;
-- and the fault is a right refusal of each of them.
pub record RefusesBoundRightly {T M V : Type 0} (result : Result T RunFault)
    (model_reads : M → ℕ → Option (List ℕ) → M → Type 0) (model model' : M)
    (vectors_reads : V → ℕ → Option (List ℕ) → V → Type 0) (vectors vectors' : V) : Type 0 where
  pub of_model : (fault : ModelFault) → IsErrOf result (Text (Model fault))
      → EachTextThatFits model_reads model model' (λ text. IsModelFault text fault)
  pub of_vectors : (fault : VectorFault) → IsErrOf result (Text (Vectors fault))
      → (first : List ℕ) × IsText model_reads model first model'
      × EachTextThatFits vectors_reads vectors vectors' (AreActionVectorsRefused first fault)

-- Each source is named as the one that failed exactly if it failed in the call.
pub record NamesBoundSourcesRightly {T M V : Type 0} (result : Result T RunFault)
    (model_failures : M → ℕ) (model model' : M)
    (vectors_failures : V → ℕ) (vectors vectors' : V) : Type 0 where
  pub of_model : IsNamedRightly (IsErrOf result ReadModel) (model_failures model) (model_failures model')
  pub of_vectors : IsNamedRightly (IsErrOf result ReadVectors) (vectors_failures vectors)
      (vectors_failures vectors')

-- The model's source is read to its end first: if its text or its source is at fault, the vectors' source is as it was.
abbrev pub ReadsModelFirst : {V : Type 0} → RunFault → V → V → Type 0
ReadsModelFirst (Text (Model fault)) vectors vectors' = vectors' ≡ vectors
ReadsModelFirst ReadModel vectors vectors' = vectors' ≡ vectors
ReadsModelFirst _ vectors vectors' = Unit {0}

-- How a run over two sources and a sink stops, if it has no answer: the first text that is none of its kind is refused, for a right
-- reason; an I/O error is reported exactly if one occurred; the model is read to its end first; and with any other fault than that of a
-- write the sink took nothing.
pub record StopsBoundRightly {T M V W : Type 0} (result : Result T RunFault)
    (model_reads : M → ℕ → Option (List ℕ) → M → Type 0) (model_failures : M → ℕ) (model model' : M)
    (vectors_reads : V → ℕ → Option (List ℕ) → V → Type 0) (vectors_failures : V → ℕ) (vectors vectors' : V)
    (sink_failures : W → ℕ) (sink sink' : W) : Type 0 where
  pub refused : RefusesBoundRightly result model_reads model model' vectors_reads vectors vectors'
  pub read : NamesBoundSourcesRightly result model_failures model model' vectors_failures vectors vectors'
  pub write : IsNamedRightly (IsErrOf result Write) (sink_failures sink) (sink_failures sink')
  pub in_order : IfErr result (λ fault. ReadsModelFirst fault vectors vectors')
  pub untouched : (fault : RunFault) → IsErrOf result fault → fault ≢ Write → sink' ≡ sink

-- what a check may answer: a refusal of one of the two texts, and its devices
abbrev pub IsBoundCheckFault : RunFault → Type 0
IsBoundCheckFault (Text (Model fault)) = Unit {0}
IsBoundCheckFault (Text (Vectors fault)) = Unit {0}
IsBoundCheckFault ReadModel = Unit {0}
IsBoundCheckFault ReadVectors = Unit {0}
IsBoundCheckFault Write = Unit {0}
IsBoundCheckFault _ = ⊥

-- ---- what a run says of the texts of two sources

module _ (of_model of_vectors : List ℕ → Type 0) where
  -- the texts of the two sources, which denote a model and vectors, one for each of its actions
  pub record AreBoundTexts : Type 0 where
    pub model : List ℕ
    pub vectors : List ℕ
    pub model_read : of_model model
    pub vectors_read : of_vectors vectors
    pub certificate : BoundCertificate model vectors

  -- the answer to the texts of the two sources is this verdict, and this is its line
  pub record HasBoundVerdict (verdict : InformedVerdict) (line : List ℕ) : Type 0 where
    pub texts : AreBoundTexts
    pub answer : IsBoundAnswer texts.model texts.vectors (Ok verdict)
    pub is_line : (c : BoundCertificate texts.model texts.vectors) → IsBoundLine c.meaning c.values verdict line

  -- the headline holds of the texts of the two sources
  pub record HasBoundPromise : Type 0 where
    pub texts : AreBoundTexts
    pub promise : IsCertifiedBound texts.model texts.vectors

  -- The number on the line of a yes is promised. Whatever the texts of the two sources denote: it is what the vectors are worth at most
  -- from the model's start, rounded up, and from there every policy that sees the observations alone, in an MDP the start state too, earns
  -- at most this, for every number of steps.
  pub record HasBoundStartPromise (line : List ℕ) : Type 0 where
    pub texts : AreBoundTexts
    pub most : ℤ
    pub is_line : line ≡ bound_line most
    pub is_most : (c : BoundCertificate texts.model texts.vectors) → IsBoundStartMost c.meaning c.values most
    pub promise : (c : BoundCertificate texts.model texts.vectors) → BoundEveryPolicyOfModel c.meaning (value_of c.values) most

  -- Whatever the texts of the two sources denote, this is what the verdict says of the bound with the vectors at the end: a yes, that it
  -- holds for every number of steps; a no, that it doesn't.
  pub record HasBoundHorizon (verdict : InformedVerdict) : Type 0 where
    pub texts : AreBoundTexts
    pub horizon : (c : BoundCertificate texts.model texts.vectors) → MeetsInformedPromise (table_of c.meaning) (value_of c.values) verdict
