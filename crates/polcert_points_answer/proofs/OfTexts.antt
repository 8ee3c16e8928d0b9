-- What is said of three texts in memory, from what is said of them as the texts of sources.
use Rattle.std.proofs.Common.{◌≡◌, ℕ, List, Result, Ok, Err}
use Rattle.std.specs.Result.{IsErrAnd}
use Rattle.std.proofs.Common.{arith}
use Rattle.polcert_text.proofs.Known.{slice_reads}
use Rattle.polcert_text.proofs.Streams.SliceTexts.{of_slice, of_slice_text}
use Rattle.polcert_points_answer.proofs.Common.{Fault, Graph, Model, Points, Vectors, RunFault, Text, Meaning, actions_of, observations_of}
use Rattle.polcert_points_answer.proofs.Common.{states_of, IsModelText, IsActionVectorsText, PointValues, IsPointsText, PolicyVectors}
use Rattle.polcert_points_answer.proofs.Common.{ArePointsRefused, HasVectors, IsPointBoundAnswer, IsPointBoundFault, RefusesPointsRightly}
use Rattle.polcert_points_answer.proofs.Common.{ArePointsDenoted, IsPointReadFault, PointBoundVerdict}
use Rattle.polcert_answer.specs.Answer.{IsModelFault}
use Rattle.polcert_answer.specs.Run.{text_of}
use Rattle.polcert_bound_answer.specs.Answer.{AreActionVectorsRefused}

module _ {M V P : Type 0} (m_rest : M → List ℕ) (m m' : M) (model : List ℕ) (m_holds : m_rest m ≡ model)
    (v_rest : V → List ℕ) (v v' : V) (vectors : List ℕ) (v_holds : v_rest v ≡ vectors)
    (p_rest : P → List ℕ) (p p' : P) (points : List ℕ) (p_holds : p_rest p ≡ points) where
  pub denoted_slices : (meaning : Meaning) (values : PolicyVectors) (set : PointValues)
      → ArePointsDenoted (text_of (slice_reads m_rest) m m') (text_of (slice_reads v_rest) v v') (text_of (slice_reads p_rest) p p') meaning
      values set
      → HasVectors model vectors meaning values × IsPointsText (states_of meaning) (actions_of meaning) (observations_of meaning) points set
  denoted_slices meaning values set d = (
    record {
      is_model = of_slice_text m_rest m_holds (λ text. IsModelText text meaning) d.bound.first d.bound.model_read d.bound.is_model;
      are_vectors = of_slice_text v_rest v_holds (λ text. IsActionVectorsText (actions_of meaning) (states_of meaning) text values)
          d.bound.second d.bound.vectors_read d.bound.are_vectors;
    },
    of_slice_text p_rest p_holds (λ text. IsPointsText (states_of meaning) (actions_of meaning) (observations_of meaning) text set) d.third
        d.points_read d.are_points,
  )

  pub refused_slices : {T : Type 0} (r : Result T RunFault)
      → RefusesPointsRightly r (slice_reads m_rest) m m' (slice_reads v_rest) v v' (slice_reads p_rest) p p'
      → (fault : Fault) → IsPointReadFault (Text fault) → r ≡ Err (Text fault) → IsPointBoundFault model vectors points fault
  refused_slices r h (Model fault) of is = of_slice m_rest m_holds (λ text. IsModelFault text fault) (h.of_model fault is)
  refused_slices r h (Graph fault) of is = absurd of
  refused_slices r h (Vectors fault) of is =
      let (first, read, each) = h.of_vectors fault is in
      of_slice_text m_rest m_holds (λ text. AreActionVectorsRefused text fault vectors) first read
      (of_slice v_rest v_holds (AreActionVectorsRefused first fault) each)
  refused_slices r h (Points fault) of is =
      let (first, second, read, next, each) = h.of_points fault is in
      of_slice_text m_rest m_holds (λ text. ArePointsRefused text vectors fault points) first read
      (of_slice_text v_rest v_holds (λ text. ArePointsRefused first text fault points) second next
      (of_slice p_rest p_holds (ArePointsRefused first second fault) each))

-- ---- an answer that is a fault that is handed on
pub refused_answer : (model vectors points : List ℕ) (r : Result PointBoundVerdict Fault) (given : Fault)
    → IsErrAnd r (λ fault. fault ≡ given)
    → IsPointBoundFault model vectors points given → IsPointBoundAnswer model vectors points r
refused_answer model vectors points r given h1 h2 = grind arith
