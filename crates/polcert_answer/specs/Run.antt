-- What runs from sources to sinks promise.
use Rattle.std.specs.Prelude.{◌≡◌, ◌≢◌, ℕ, ◌<◌, ℤ, List, Option, Result, IfOk, IfErr, IsErrOf}
use Rattle.polcert_text.specs.declared.number.Rounding.{Rounding}
use Rattle.polcert_text.specs.Device.{HasFailed}
use Rattle.polcert_text.specs.Source.{IsText, EachTextThatFits}
use Rattle.polcert_text.specs.Sink.{Takes, TakesFront}
use Rattle.polcert_format.specs.declared.fault.ModelFault.{ModelFault}
use Rattle.polcert_cells.specs.Meaning.{Meaning}
use Rattle.polcert_model.specs.Text.{IsModelText}
use Rattle.polcert_model.specs.FullForm.{full_form}
use Rattle.polcert_model.specs.Printable.{IsPrintable}
use Rattle.polcert_policy.specs.declared.fault.GraphFault.{GraphFault}
use Rattle.polcert_policy.specs.declared.fault.VectorFault.{VectorFault}
use Rattle.polcert_policy.specs.Graphs.{nodes}
use Rattle.polcert_check.specs.StartWorth.{IsBestStart, IsStartWorth, StartPromise}
use Rattle.polcert_check.specs.StartMost.{IsStartMost, StartPromiseAbove}
use Rattle.polcert_answer.specs.declared.fault.Fault.TheVariants.{Model, Graph, Vectors, Points}
use Rattle.polcert_answer.specs.declared.fault.RunFault.{RunFault}
use Rattle.polcert_answer.specs.declared.fault.RunFault.TheVariants.{Text, ReadModel, ReadGraph, ReadVectors, ReadPoints, Write, Lower, Raise, TooLargeToPrint}
use Rattle.polcert_answer.specs.Answer.{IsModelFault, IsGraphRefused, AreRoundedVectorsRefused}
use Rattle.polcert_answer.specs.Headline.{RoundedCertificate, Certificate, controller, IsCertified, AreRewardsCertified}
use Rattle.polcert_answer.specs.HeadlineAbove.{CertificateAbove, IsCertifiedAbove, AreRewardsCertifiedAbove, BoundLowerVectors}
use Rattle.polcert_answer.specs.Lines.{summary_line, at_least_line, at_most_line}

-- a fault of a model's text or of its source
abbrev pub IsModelReadFault : RunFault → Type 0
IsModelReadFault (Text (Model fault)) = Unit {0}
IsModelReadFault ReadModel = Unit {0}
IsModelReadFault _ = ⊥

-- ---- one source

module _ {S W : Type 0} (reads : S → ℕ → Option (List ℕ) → S → Type 0) (writes : W → Option (List ℕ) → W → Type 0)
    (source source' : S) (sink sink' : W) where
  -- the text of the source is a model's, and the sink took the model's line and nothing else
  pub record SumsUp : Type 0 where
    pub text : List ℕ
    pub model : Meaning
    pub was_read : IsText reads source text source'
    pub accepted : IsModelText text model
    pub took : Takes writes sink (summary_line model) sink'

  -- the text of the source is a model's, and the sink took a beginning of the model's line
  pub record BeginsToSumUp : Type 0 where
    pub text : List ℕ
    pub model : Meaning
    pub was_read : IsText reads source text source'
    pub accepted : IsModelText text model
    pub took : TakesFront writes sink (summary_line model) sink'

  -- the text of the source is a model's that isn't too large, and the sink took the model's full form and nothing else
  pub record Prints : Type 0 where
    pub text : List ℕ
    pub model : Meaning
    pub was_read : IsText reads source text source'
    pub accepted : IsModelText text model
    pub printable : IsPrintable model.preamble
    pub took : Takes writes sink (full_form model) sink'

  -- the text of the source is a model's that isn't too large, and the sink took a beginning of the model's full form
  pub record BeginsToPrint : Type 0 where
    pub text : List ℕ
    pub model : Meaning
    pub was_read : IsText reads source text source'
    pub accepted : IsModelText text model
    pub printable : IsPrintable model.preamble
    pub took : TakesFront writes sink (full_form model) sink'

  -- the text of the source is a model's that is too large to print, and the sink took nothing
  pub record IsTooLargeToPrint : Type 0 where
    pub text : List ℕ
    pub model : Meaning
    pub was_read : IsText reads source text source'
    pub accepted : IsModelText text model
    pub too_large : IsPrintable model.preamble → ⊥
    pub untouched : sink' ≡ sink

-- ---- what a run wrote

-- What a run wrote, where this says which texts belong to what it answers.
pub record WritesAnswer {T W : Type 0} (writes : W → Option (List ℕ) → W → Type 0) (Belongs : T → List ℕ → Type 0)
    (result : Result T RunFault) (sink sink' : W) : Type 0 where
  -- the sink took exactly a text that belongs to the answer
  pub took : IfOk result (λ answer. (text : List ℕ) × Belongs answer text × Takes writes sink text sink')
  -- if a write failed, what was written before is a beginning of such a text
  pub begun : IsErrOf result Write → (answer : T) × (text : List ℕ) × Belongs answer text × TakesFront writes sink text sink'

-- ---- devices

-- A device is named as the one that failed only where it failed in the call, and no failure of it is passed over.
pub record IsNamedRightly (is_named : Type 0) (before after : ℕ) : Type 0 where
  pub failed : is_named → HasFailed before after
  pub passed_over : (is_named → ⊥) → after ≡ before

-- what a run over one model's source may answer: a refusal of the model's text, and its devices
abbrev pub IsModelRunFault : RunFault → Type 0
IsModelRunFault (Text (Model fault)) = Unit {0}
IsModelRunFault ReadModel = Unit {0}
IsModelRunFault Write = Unit {0}
IsModelRunFault _ = ⊥

-- what a run that prints may answer: what a run over one model's source may, and that the model is too large
abbrev pub IsPrintRunFault : RunFault → Type 0
IsPrintRunFault (Text (Model fault)) = Unit {0}
IsPrintRunFault ReadModel = Unit {0}
IsPrintRunFault TooLargeToPrint = Unit {0}
IsPrintRunFault Write = Unit {0}
IsPrintRunFault _ = ⊥

-- ---- three sources

-- the text of a source, between two of its states
abbrev pub text_of : {S : Type 0} → (S → ℕ → Option (List ℕ) → S → Type 0) → S → S → List ℕ → Type 0
text_of reads before after text = IsText reads before text after

-- ---- how a run over three sources ends
--
-- The three sources are the model's, the graph's and the vectors', each with its state before and after the
-- call.

-- A text is refused rightly. No text that fits what was read of a source is a model's; or after the first
-- text a graph's; or after the first two the graph's vectors, each value rounded this way; and the fault
-- is a right refusal of each of them.
pub record RefusesRightly {T M G V : Type 0} (rounding : Rounding) (result : Result T RunFault)
    (model_reads : M → ℕ → Option (List ℕ) → M → Type 0) (model model' : M)
    (graph_reads : G → ℕ → Option (List ℕ) → G → Type 0) (graph graph' : G)
    (vectors_reads : V → ℕ → Option (List ℕ) → V → Type 0) (vectors vectors' : V) : Type 0 where
  pub of_model : (fault : ModelFault) → IsErrOf result (Text (Model fault))
      → EachTextThatFits model_reads model model' (λ text. IsModelFault text fault)
  pub of_graph : (fault : GraphFault) → IsErrOf result (Text (Graph fault))
      → (first : List ℕ) × IsText model_reads model first model'
      × EachTextThatFits graph_reads graph graph' (IsGraphRefused first fault)
  pub of_vectors : (fault : VectorFault) → IsErrOf result (Text (Vectors fault))
      → (first second : List ℕ)
      × IsText model_reads model first model'
      × IsText graph_reads graph second graph'
      × EachTextThatFits vectors_reads vectors vectors' (AreRoundedVectorsRefused rounding first second fault)

-- Each source is named as the one that failed only where it failed in the call, and no failure of it is
-- passed over.
pub record NamesSourcesRightly {T M G V : Type 0} (result : Result T RunFault)
    (model_failures : M → ℕ) (model model' : M)
    (graph_failures : G → ℕ) (graph graph' : G)
    (vectors_failures : V → ℕ) (vectors vectors' : V) : Type 0 where
  pub of_model : IsNamedRightly (IsErrOf result ReadModel) (model_failures model) (model_failures model')
  pub of_graph : IsNamedRightly (IsErrOf result ReadGraph) (graph_failures graph) (graph_failures graph')
  pub of_vectors : IsNamedRightly (IsErrOf result ReadVectors) (vectors_failures vectors)
      (vectors_failures vectors')

-- Each source is read to its end before the next: where the model's text or source is at fault, the other two are as they
-- were, and where the graph's is, the vectors' is.
abbrev pub ReadsInOrder : {G V : Type 0} → RunFault → G → G → V → V → Type 0
ReadsInOrder (Text (Model fault)) graph graph' vectors vectors' = (graph' ≡ graph) × (vectors' ≡ vectors)
ReadsInOrder (Text (Graph fault)) graph graph' vectors vectors' = vectors' ≡ vectors
ReadsInOrder ReadModel graph graph' vectors vectors' = (graph' ≡ graph) × (vectors' ≡ vectors)
ReadsInOrder ReadGraph graph graph' vectors vectors' = vectors' ≡ vectors
ReadsInOrder _ graph graph' vectors vectors' = Unit {0}

-- How a run over three sources and a sink stops, where it doesn't answer: the first text that is none of
-- its kind is refused, for a right reason; a device is named only where it failed, and no failure of one is
-- passed over; each source is read to its end before the next; and with any other fault than that of a
-- write the sink took nothing.
pub record StopsRightly {T M G V W : Type 0} (rounding : Rounding) (result : Result T RunFault)
    (model_reads : M → ℕ → Option (List ℕ) → M → Type 0) (model_failures : M → ℕ) (model model' : M)
    (graph_reads : G → ℕ → Option (List ℕ) → G → Type 0) (graph_failures : G → ℕ) (graph graph' : G)
    (vectors_reads : V → ℕ → Option (List ℕ) → V → Type 0) (vectors_failures : V → ℕ) (vectors vectors' : V)
    (sink_failures : W → ℕ) (sink sink' : W) : Type 0 where
  pub refused : RefusesRightly rounding result model_reads model model' graph_reads graph graph'
      vectors_reads vectors vectors'
  pub read : NamesSourcesRightly result model_failures model model' graph_failures graph graph'
      vectors_failures vectors vectors'
  pub write : IsNamedRightly (IsErrOf result Write) (sink_failures sink) (sink_failures sink')
  pub in_order : IfErr result (λ fault. ReadsInOrder fault graph graph' vectors vectors')
  pub untouched : (fault : RunFault) → IsErrOf result fault → fault ≢ Write → sink' ≡ sink

-- what a check may answer: a refusal of a text, and its devices; lowering, raising and printing are no part
-- of it
abbrev pub IsCheckRunFault : RunFault → Type 0
IsCheckRunFault (Text (Points fault)) = ⊥
IsCheckRunFault ReadPoints = ⊥
IsCheckRunFault (Lower fault) = ⊥
IsCheckRunFault (Raise fault) = ⊥
IsCheckRunFault TooLargeToPrint = ⊥
IsCheckRunFault _ = Unit {0}

-- what a lowering may answer: what a check may, and that the vectors can't be lowered
abbrev pub IsLowerRunFault : RunFault → Type 0
IsLowerRunFault (Text (Points fault)) = ⊥
IsLowerRunFault ReadPoints = ⊥
IsLowerRunFault (Raise fault) = ⊥
IsLowerRunFault TooLargeToPrint = ⊥
IsLowerRunFault _ = Unit {0}

-- what a raise may answer: the same as a check, and that the vectors can't be raised
abbrev pub IsRaiseRunFault : RunFault → Type 0
IsRaiseRunFault (Text (Points fault)) = ⊥
IsRaiseRunFault ReadPoints = ⊥
IsRaiseRunFault (Lower fault) = ⊥
IsRaiseRunFault TooLargeToPrint = ⊥
IsRaiseRunFault _ = Unit {0}

module _ (rounding : Rounding) (of_model of_graph of_vectors : List ℕ → Type 0) where
  -- The texts of the three sources denote a controller, where values are rounded this way, and this holds of the texts.
  pub record HoldsOfTexts (Holds : List ℕ → List ℕ → List ℕ → Type 0) : Type 0 where
    pub model : List ℕ
    pub graph : List ℕ
    pub vectors : List ℕ
    pub model_read : of_model model
    pub graph_read : of_graph graph
    pub vectors_read : of_vectors vectors
    pub certificate : RoundedCertificate rounding model graph vectors
    pub holds : Holds model graph vectors

-- the headline, with the vectors at the end and for the rewards alone
abbrev pub HavePromise : List ℕ → List ℕ → List ℕ → Type 0
HavePromise model graph vectors = IsCertified model graph vectors × AreRewardsCertified model graph vectors

-- the headline from above; and no vectors that pass from below are above these
abbrev pub HavePromiseAbove : List ℕ → List ℕ → List ℕ → Type 0
HavePromiseAbove model graph vectors = IsCertifiedAbove model graph vectors × AreRewardsCertifiedAbove model graph vectors × BoundLowerVectors model graph vectors

-- What the line of a yes says of the start is promised. The line names a node and a worth; and of whatever controller the
-- texts denote: that node is worth most from the model's start, this is its worth there, rounded down, and for every number
-- of steps no less is expected from the start.
pub record HasStartPromise (line model graph vectors : List ℕ) : Type 0 where
  pub node : ℕ
  pub worth : ℤ
  pub is_line : line ≡ at_least_line node worth
  pub best : (c : Certificate model graph vectors) → IsBestStart c.meaning c.values node
  pub is_worth : (c : Certificate model graph vectors) → IsStartWorth c.meaning c.values node worth
  pub promise : (c : Certificate model graph vectors) (k : ℕ) → StartPromise c.meaning (controller c) k node worth

-- What the line of a yes from above says of the start is promised. The line names a number; and of whatever controller the texts
-- denote: no node is worth more from the model's start, rounded up, and from every node and for every number of steps no more is
-- expected from the start.
pub record HasStartPromiseAbove (line model graph vectors : List ℕ) : Type 0 where
  pub most : ℤ
  pub is_line : line ≡ at_most_line most
  pub is_most : (c : CertificateAbove model graph vectors) → IsStartMost c.meaning c.values most
  pub promise : (c : CertificateAbove model graph vectors) (k n : ℕ) → n < nodes c.policy → StartPromiseAbove c.meaning (controller c) k n most
