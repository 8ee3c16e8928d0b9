-- What is said of two texts in memory, from what is said of them as the texts of sources.
use Rattle.std.proofs.Common.{◌≡◌, ℕ, List, Result, Err}
use Rattle.polcert_text.proofs.Known.{slice_reads}
use Rattle.polcert_bound_answer.proofs.Common.{Meaning, states_of, actions_of, IsModelText, PolicyVectors, IsActionVectorsText, Fault}
use Rattle.polcert_bound_answer.proofs.Common.{Model, Graph, Vectors, Points, RunFault, Text, AreActionVectorsRefused, IsBoundFault}
use Rattle.polcert_bound_answer.proofs.Common.{RefusesBoundRightly, AreBoundDenoted, IsBoundReadFault}
use Rattle.polcert_answer.specs.Answer.{IsModelFault}
use Rattle.polcert_answer.specs.Run.{text_of}
use Rattle.polcert_text.proofs.Streams.SliceTexts.{of_slice, of_slice_text}

module _ {M V : Type 0} (m_rest : M → List ℕ) (m m' : M) (model : List ℕ) (m_holds : m_rest m ≡ model)
    (v_rest : V → List ℕ) (v v' : V) (vectors : List ℕ) (v_holds : v_rest v ≡ vectors) where
  pub denoted_slices : (meaning : Meaning) (values : PolicyVectors)
      → AreBoundDenoted (text_of (slice_reads m_rest) m m') (text_of (slice_reads v_rest) v v') meaning values
      → IsModelText model meaning × IsActionVectorsText (actions_of meaning) (states_of meaning) vectors values
  denoted_slices meaning values d = (
    of_slice_text m_rest m_holds (λ text. IsModelText text meaning) d.first d.model_read d.is_model,
    of_slice_text v_rest v_holds (λ text. IsActionVectorsText (actions_of meaning) (states_of meaning) text values) d.second d.vectors_read
        d.are_vectors,
  )

  pub refused_slices : {T : Type 0} (r : Result T RunFault) → RefusesBoundRightly r (slice_reads m_rest) m m' (slice_reads v_rest) v v'
      → (fault : Fault) → IsBoundReadFault (Text fault) → r ≡ Err (Text fault) → IsBoundFault model vectors fault
  refused_slices r h (Model fault) of is = of_slice m_rest m_holds (λ text. IsModelFault text fault) (h.of_model fault is)
  refused_slices r h (Graph fault) of is = absurd of
  refused_slices r h (Vectors fault) of is =
      let (first, read, each) = h.of_vectors fault is in
      of_slice_text m_rest m_holds (λ text. AreActionVectorsRefused text fault vectors) first read
      (of_slice v_rest v_holds (AreActionVectorsRefused first fault) each)
  refused_slices r h (Points fault) of is = absurd of
