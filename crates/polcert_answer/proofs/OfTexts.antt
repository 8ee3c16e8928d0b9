-- What is said of three texts in memory, from what is said of them as the texts of sources.
use Rattle.std.proofs.Common.{◌≡◌, ℕ, List, Result, Err, arith}
use Rattle.std.specs.Result.{IsErrAnd}
use Rattle.polcert_answer.proofs.Common.{Rounding, Meaning, states_of, PolicyGraph, PolicyVectors, IsRoundedVectorsText, Fault, Model}
use Rattle.polcert_answer.proofs.Common.{Graph, Vectors, Points, RunFault, Text, HasGraph, IsModelFault, IsGraphRefused}
use Rattle.polcert_answer.proofs.Common.{AreRoundedVectorsRefused, RefusesRightly, Side, AreDenoted}
use Rattle.polcert_text.proofs.Known.{slice_reads}
use Rattle.polcert_text.proofs.Streams.SliceTexts.{of_slice, of_slice_text}
use Rattle.polcert_answer.specs.Answer.{IsFault}
use Rattle.polcert_answer.specs.Run.{text_of}
use Rattle.polcert_answer.specs.Steps.Reading.{IsReadFault, IsTextAnswer}

-- three slices, and what is said of them as three sources
module _ {M G V : Type 0} (m_rest : M → List ℕ) (m m' : M) (model : List ℕ) (m_holds : m_rest m ≡ model)
    (g_rest : G → List ℕ) (g g' : G) (graph : List ℕ) (g_holds : g_rest g ≡ graph)
    (v_rest : V → List ℕ) (v v' : V) (vectors : List ℕ) (v_holds : v_rest v ≡ vectors) (rounding : Rounding)
  where
    pub denoted_slices : (meaning : Meaning) (policy : PolicyGraph) (values : PolicyVectors)
        → AreDenoted rounding (text_of (slice_reads m_rest) m m') (text_of (slice_reads g_rest) g g')
        (text_of (slice_reads v_rest) v v') meaning policy values
        → HasGraph model graph meaning policy
        × IsRoundedVectorsText rounding policy (states_of meaning) vectors values
    denoted_slices meaning policy values d = (
      of_slice_text m_rest m_holds (λ text. HasGraph text graph meaning policy) d.first d.model_read
          (of_slice_text g_rest g_holds (λ text. HasGraph d.first text meaning policy) d.second
          d.graph_read d.has_graph),
      of_slice_text v_rest v_holds
          (λ text. IsRoundedVectorsText rounding policy (states_of meaning) text values) d.third d.vectors_read
          d.are_vectors,
    )

    pub refused_slices : {T : Type 0} (r : Result T RunFault)
        → RefusesRightly rounding r (slice_reads m_rest) m m' (slice_reads g_rest) g g' (slice_reads v_rest) v
        v'
        → (fault : Fault) → IsReadFault (Text fault) → r ≡ Err (Text fault) → IsFault rounding model graph vectors fault
    refused_slices r h (Model fault) of is = of_slice m_rest m_holds (λ text. IsModelFault text fault)
        (h.of_model fault is)
    refused_slices r h (Graph fault) of is =
        let (first, read, each) = h.of_graph fault is in
        of_slice_text m_rest m_holds (λ text. IsGraphRefused text fault graph) first read
        (of_slice g_rest g_holds (IsGraphRefused first fault) each)
    refused_slices r h (Vectors fault) of is =
        let (first, second, read, next, each) = h.of_vectors fault is in
        of_slice_text m_rest m_holds
        (λ text. AreRoundedVectorsRefused rounding text graph fault vectors) first read
        (of_slice_text g_rest g_holds
        (λ text. AreRoundedVectorsRefused rounding first text fault vectors) second next
        (of_slice v_rest v_holds (AreRoundedVectorsRefused rounding first second fault) each))
    refused_slices r h (Points fault) of is = absurd of

-- ---- a fault that is handed on
pub refused_answer : {V F : Type 0} (side : Side V F) (model graph vectors : List ℕ) (r : Result V Fault) (given : Fault)
    → IsErrAnd r (λ fault. fault ≡ given)
    → IsFault side.rounding model graph vectors given → IsTextAnswer side model graph vectors r
refused_answer side model graph vectors r given h1 h2 = grind arith
