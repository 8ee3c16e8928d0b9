-- What runs over a model, vectors and points promise.
use Rattle.std.specs.Prelude.{◌≡◌, ◌≢◌, ℕ, ℤ, List, Option, Result, Ok, IfErr, IsErrOf}
use Rattle.polcert_text.specs.Source.{IsText, EachTextThatFits}
use Rattle.polcert_format.specs.declared.fault.ModelFault.{ModelFault}
use Rattle.polcert_cells.specs.Tables.{table_of}
use Rattle.polcert_policy.specs.declared.fault.PointFault.{PointFault}
use Rattle.polcert_policy.specs.declared.fault.VectorFault.{VectorFault}
use Rattle.polcert_policy.specs.Vectors.{value_of}
use Rattle.polcert_points.specs.PointTable.{table_of_set}
use Rattle.polcert_answer.specs.declared.fault.Fault.TheVariants.{Model, Vectors, Points}
use Rattle.polcert_answer.specs.declared.fault.RunFault.{RunFault}
use Rattle.polcert_answer.specs.declared.fault.RunFault.TheVariants.{Text, ReadModel, ReadVectors, ReadPoints, Write}
use Rattle.polcert_answer.specs.Answer.{IsModelFault}
use Rattle.polcert_answer.specs.Run.{IsNamedRightly}
use Rattle.polcert_bound_answer.specs.Answer.{AreActionVectorsRefused}
use Rattle.polcert_bound_answer.specs.Lines.{bound_line}
use Rattle.polcert_points_answer.specs.declared.verdict.PointBoundVerdict.{PointBoundVerdict}
use Rattle.polcert_points_answer.specs.Headline.{PointCertificate, IsCertifiedByPoints, IsPointBoundMost, BoundEveryPolicyByPoints}
use Rattle.polcert_points_answer.specs.Answer.{ArePointsRefused, IsPointBoundAnswer}
use Rattle.polcert_points_answer.specs.Lines.{IsPointBoundLine}

-- ---- how a run over three sources ends
--
-- The three sources are the model's, the vectors' and the points', each with its state before and after the call.

-- A text is refused rightly. No text that fits what was read of a source is a model's; or after the model's text vectors of its actions; or
-- after these two points for it; and the fault is a right refusal of each of them.
pub record RefusesPointsRightly {T M V P : Type 0} (result : Result T RunFault)
    (model_reads : M → ℕ → Option (List ℕ) → M → Type 0) (model model' : M)
    (vectors_reads : V → ℕ → Option (List ℕ) → V → Type 0) (vectors vectors' : V)
    (points_reads : P → ℕ → Option (List ℕ) → P → Type 0) (points points' : P) : Type 0 where
  pub of_model : (fault : ModelFault) → IsErrOf result (Text (Model fault))
      → EachTextThatFits model_reads model model' (λ text. IsModelFault text fault)
  pub of_vectors : (fault : VectorFault) → IsErrOf result (Text (Vectors fault))
      → (first : List ℕ) × IsText model_reads model first model'
      × EachTextThatFits vectors_reads vectors vectors' (AreActionVectorsRefused first fault)
  pub of_points : (fault : PointFault) → IsErrOf result (Text (Points fault))
      → (first second : List ℕ) × IsText model_reads model first model'
      × IsText vectors_reads vectors second vectors'
      × EachTextThatFits points_reads points points' (ArePointsRefused first second fault)

-- Each source is named as the one that failed exactly if it failed in the call.
pub record NamesPointSourcesRightly {T M V P : Type 0} (result : Result T RunFault)
    (model_failures : M → ℕ) (model model' : M)
    (vectors_failures : V → ℕ) (vectors vectors' : V)
    (points_failures : P → ℕ) (points points' : P) : Type 0 where
  pub of_model : IsNamedRightly (IsErrOf result ReadModel) (model_failures model) (model_failures model')
  pub of_vectors : IsNamedRightly (IsErrOf result ReadVectors) (vectors_failures vectors) (vectors_failures vectors')
  pub of_points : IsNamedRightly (IsErrOf result ReadPoints) (points_failures points) (points_failures points')

-- Each source is read to its end before the next: if the model's text or source is at fault, the other two are as they were; if the
-- vectors', the points' is.
abbrev pub ReadsPointsLast : {V P : Type 0} → RunFault → V → V → P → P → Type 0
ReadsPointsLast (Text (Model fault)) vectors vectors' points points' = (vectors' ≡ vectors) × (points' ≡ points)
ReadsPointsLast ReadModel vectors vectors' points points' = (vectors' ≡ vectors) × (points' ≡ points)
ReadsPointsLast (Text (Vectors fault)) vectors vectors' points points' = points' ≡ points
ReadsPointsLast ReadVectors vectors vectors' points points' = points' ≡ points
ReadsPointsLast _ vectors vectors' points points' = Unit {0}

-- How a run over three sources and a sink stops, if it has no answer: the first text that is none of its kind is refused, for a right
-- reason; an I/O error is reported exactly if one occurred; each source is read to its end before the next; and with any other fault than
-- that of a write the sink took nothing.
pub record StopsPointsRightly {T M V P W : Type 0} (result : Result T RunFault)
    (model_reads : M → ℕ → Option (List ℕ) → M → Type 0) (model_failures : M → ℕ) (model model' : M)
    (vectors_reads : V → ℕ → Option (List ℕ) → V → Type 0) (vectors_failures : V → ℕ) (vectors vectors' : V)
    (points_reads : P → ℕ → Option (List ℕ) → P → Type 0) (points_failures : P → ℕ) (points points' : P)
    (sink_failures : W → ℕ) (sink sink' : W) : Type 0 where
  pub refused : RefusesPointsRightly result model_reads model model' vectors_reads vectors vectors' points_reads points points'
  pub read : NamesPointSourcesRightly result model_failures model model' vectors_failures vectors vectors' points_failures points points'
  pub write : IsNamedRightly (IsErrOf result Write) (sink_failures sink) (sink_failures sink')
  pub in_order : IfErr result (λ fault. ReadsPointsLast fault vectors vectors' points points')
  pub untouched : (fault : RunFault) → IsErrOf result fault → fault ≢ Write → sink' ≡ sink

-- what a check may answer: a refusal of one of the three texts, and its devices
abbrev pub IsPointCheckFault : RunFault → Type 0
IsPointCheckFault (Text (Model fault)) = Unit {0}
IsPointCheckFault (Text (Vectors fault)) = Unit {0}
IsPointCheckFault (Text (Points fault)) = Unit {0}
IsPointCheckFault ReadModel = Unit {0}
IsPointCheckFault ReadVectors = Unit {0}
IsPointCheckFault ReadPoints = Unit {0}
IsPointCheckFault Write = Unit {0}
IsPointCheckFault _ = ⊥

-- ---- what a run says of the texts of three sources

module _ (of_model of_vectors of_points : List ℕ → Type 0) where
  -- the texts of the three sources, which denote a model, vectors of its actions, and points
  pub record ArePointTexts : Type 0 where
    pub model : List ℕ
    pub vectors : List ℕ
    pub points : List ℕ
    pub model_read : of_model model
    pub vectors_read : of_vectors vectors
    pub points_read : of_points points
    pub certificate : PointCertificate model vectors points

  -- the answer to the texts of the three sources is this verdict, and this is its line
  pub record HasPointBoundVerdict (verdict : PointBoundVerdict) (line : List ℕ) : Type 0 where
    pub texts : ArePointTexts
    pub answer : IsPointBoundAnswer texts.model texts.vectors texts.points (Ok verdict)
    pub is_line : (c : PointCertificate texts.model texts.vectors texts.points) → IsPointBoundLine c.meaning c.values (table_of_set c.set) verdict line

  -- the headline holds of the texts of the three sources
  pub record HasPointPromise : Type 0 where
    pub texts : ArePointTexts
    pub promise : IsCertifiedByPoints texts.model texts.vectors texts.points

  -- The number on the line of a yes is promised. Whatever the texts of the three sources denote: it is what the start is worth at most by
  -- the points (in an MDP by the vectors), rounded up, and from there every policy that sees the observations alone, in an MDP the start
  -- state too, earns at most this, for every number of steps.
  pub record HasPointStartPromise (line : List ℕ) : Type 0 where
    pub texts : ArePointTexts
    pub most : ℤ
    pub is_line : line ≡ bound_line most
    pub is_most : (c : PointCertificate texts.model texts.vectors texts.points) → IsPointBoundMost c.meaning c.values (table_of_set c.set) most
    pub promise : (c : PointCertificate texts.model texts.vectors texts.points) → BoundEveryPolicyByPoints c.meaning c.values (table_of_set c.set) most
