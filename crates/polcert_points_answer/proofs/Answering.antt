-- What a run says of the texts of three sources, from what its calls say of what these denote.
use Rattle.std.proofs.Common.{ℕ, true, List, Option, Ok}
use Rattle.polcert_text.specs.Source.{IsText, EachTextThatFits}
use Rattle.polcert_policy.specs.declared.fault.PointFault.TheVariants as faults
use Rattle.polcert_answer.specs.Run.{text_of}
use Rattle.polcert_points_answer.proofs.Common.{Meaning, table_of_set, PointValues, PolicyVectors, ArePointsRefused, HasVectors}
use Rattle.polcert_points_answer.proofs.Common.{IsPointBoundAnswer, ArePointsDenoted, PointBoundVerdict, Yes}
use Rattle.polcert_points_answer.specs.Run.{ArePointTexts, HasPointBoundVerdict, HasPointPromise, HasPointStartPromise}
use Rattle.polcert_points_answer.specs.Steps.Reading.{IsPointAnswerLine}
use Rattle.polcert_points_answer.proofs.Denoted.{certificate_of, verdict_of_each, line_of_each, memory_refused, most_of_each, yes_certified}

module _ (of_model of_vectors of_points : List ℕ → Type 0) (m : Meaning) (v : PolicyVectors) (p : PointValues)
    (d : ArePointsDenoted of_model of_vectors of_points m v p) where
  abbrev pub has : HasVectors d.bound.first d.bound.second m v
  has = record { is_model = d.bound.is_model; are_vectors = d.bound.are_vectors }

  abbrev pub texts_of : ArePointTexts of_model of_vectors of_points
  texts_of = record {
    model = d.bound.first;
    vectors = d.bound.second;
    points = d.third;
    model_read = d.bound.model_read;
    vectors_read = d.bound.vectors_read;
    points_read = d.points_read;
    certificate = certificate_of m v p has d.are_points;
  }

  answer_is : (verdict : PointBoundVerdict) (line : List ℕ) → IsPointAnswerLine m v (table_of_set p) verdict line
      → IsPointBoundAnswer d.bound.first d.bound.second d.third (Ok verdict)
  answer_is verdict line is = (certificate_of m v p has d.are_points, verdict_of_each m v p has d.are_points verdict is.verdict_is)

  pub has_verdict : (verdict : PointBoundVerdict) (line : List ℕ) → IsPointAnswerLine m v (table_of_set p) verdict line
      → HasPointBoundVerdict of_model of_vectors of_points verdict line
  has_verdict verdict line is = record {
    texts = texts_of;
    answer = answer_is verdict line is;
    is_line = line_of_each m v p has d.are_points verdict line is.line_is;
  }

  pub has_promise : (line : List ℕ) → IsPointAnswerLine m v (table_of_set p) Yes line → HasPointPromise of_model of_vectors of_points
  has_promise line is = record { texts = texts_of; promise = yes_certified d.bound.first d.bound.second d.third (answer_is Yes line is) }

  -- the line of a yes, and what is promised from the start
  pub has_start_promise : (line : List ℕ) → IsPointAnswerLine m v (table_of_set p) Yes line
      → HasPointStartPromise of_model of_vectors of_points line
  has_start_promise line is =
      let (most, is_most, spelled) = is.line_is in
      let each = most_of_each m v p has d.are_points most is_most in
      record {
        texts = texts_of;
        most = most;
        is_line = spelled;
        is_most = each;
        promise = λ c. (yes_certified d.bound.first d.bound.second d.third (answer_is Yes line is)).from_start c most (each c);
      }

-- all texts were read, and there is no memory to check the points
pub memory_of_source : {M V P : Type 0}
    {model_reads : M → ℕ → Option (List ℕ) → M → Type 0} {model model' : M}
    {vectors_reads : V → ℕ → Option (List ℕ) → V → Type 0} {vectors vectors' : V}
    {points_reads : P → ℕ → Option (List ℕ) → P → Type 0} {points points' : P} (m : Meaning) (v : PolicyVectors) (p : PointValues)
    → ArePointsDenoted (text_of model_reads model model') (text_of vectors_reads vectors vectors') (text_of points_reads points points') m v
    p
    → (first second : List ℕ) × IsText model_reads model first model' × IsText vectors_reads vectors second vectors'
    × EachTextThatFits points_reads points points' (ArePointsRefused first second faults.Memory)
memory_of_source m v p d = (
  d.bound.first,
  d.bound.second,
  d.bound.model_read,
  d.bound.vectors_read,
  record {
    bytes = d.third;
    is_whole = true;
    was_read = d.points_read;
    each =
        λ text fits. memory_refused d.bound.first d.bound.second text m v (has _ _ _ m v p d);
  },
)
