-- What a run says of the texts of two sources, from what its calls say of what these denote.
use Rattle.std.proofs.Common.{ℕ, List, Ok}
use Rattle.polcert_bound_answer.proofs.Common.{Meaning, table_of, PolicyVectors, value_of, InformedVerdict, Yes, IsBoundAnswer}
use Rattle.polcert_bound_answer.proofs.Common.{AreBoundDenoted}
use Rattle.polcert_bound_answer.specs.Run.{AreBoundTexts, HasBoundVerdict, HasBoundPromise, HasBoundStartPromise, HasBoundHorizon}
use Rattle.polcert_bound_answer.specs.Steps.Reading.{IsBoundAnswerLine}
use Rattle.polcert_bound_answer.proofs.OneInformed.{meets}
use Rattle.polcert_bound_answer.proofs.Denoted.{certificate_of, verdict_of_each, line_of_each, most_of_each, table_proper, yes_certified}

module _ (of_model of_vectors : List ℕ → Type 0) (m : Meaning) (v : PolicyVectors) (d : AreBoundDenoted of_model of_vectors m v) where
  abbrev pub texts_of : AreBoundTexts of_model of_vectors
  texts_of = record {
    model = d.first;
    vectors = d.second;
    model_read = d.model_read;
    vectors_read = d.vectors_read;
    certificate = certificate_of m v d.is_model d.are_vectors;
  }

  answer_is : (verdict : InformedVerdict) (line : List ℕ) → IsBoundAnswerLine m v verdict line → IsBoundAnswer d.first d.second (Ok verdict)
  answer_is verdict line is = (
    certificate_of m v d.is_model d.are_vectors,
    verdict_of_each m v d.is_model d.are_vectors verdict
        is.verdict_is,
  )

  pub has_verdict : (verdict : InformedVerdict) (line : List ℕ) → IsBoundAnswerLine m v verdict line
      → HasBoundVerdict of_model of_vectors verdict line
  has_verdict verdict line is = record {
    texts = texts_of;
    answer = answer_is verdict line is;
    is_line = line_of_each m v d.is_model d.are_vectors verdict line is.line_is;
  }

  pub has_promise : (line : List ℕ) → IsBoundAnswerLine m v Yes line → HasBoundPromise of_model of_vectors
  has_promise line is = record { texts = texts_of; promise = yes_certified d.first d.second (answer_is Yes line is) }

  pub has_horizon : (verdict : InformedVerdict) (line : List ℕ) → IsBoundAnswerLine m v verdict line
      → HasBoundHorizon of_model of_vectors verdict
  has_horizon verdict line is = record {
    texts = texts_of;
    horizon = λ c. meets (table_of c.meaning) (value_of c.values) (table_proper c) verdict ((answer_is verdict line is).1 c);
  }

  -- the line of a yes, and what is promised from the start
  pub has_start_promise : (line : List ℕ) → IsBoundAnswerLine m v Yes line → HasBoundStartPromise of_model of_vectors line
  has_start_promise line is =
      let (most, is_most, spelled) = is.line_is in
      let each = most_of_each m v d.is_model d.are_vectors most is_most in
      record {
        texts = texts_of;
        most = most;
        is_line = spelled;
        is_most = each;
        promise = λ c. (yes_certified d.first d.second (answer_is Yes line is)).from_start c most (each c);
      }
