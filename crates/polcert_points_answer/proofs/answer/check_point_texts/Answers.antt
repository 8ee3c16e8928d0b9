use Rattle.std.proofs.Common.{Ok, subst}
use Rattle.polcert_points_answer.proofs.Common.{meaning, table_of_set, HasVectors, IsPointBoundAnswer}
use Rattle.polcert_bound_answer.proofs.Denoted.{fit_of}
use Rattle.polcert_points_answer.proofs.Denoted.{certificate_of, fit_points_of, verdict_of_each, yes_certified}
use Rattle.polcert_points_answer.proofs.OfTexts.{refused_answer}
use Rattle.polcert_points_answer.proofs.answer.check_point_texts.Goals as goal

pub verdict_on-requires-clause-vectors : goal.verdict_on-requires-clause-vectors
verdict_on-requires-clause-vectors c = fit_of (meaning c.in_ok-read.read.bound.model) c.in_ok-read.read.bound.vectors _
    c.in_ok-read.ensures.vectors_accepted.are_vectors

pub verdict_on-requires-clause-points : goal.verdict_on-requires-clause-points
verdict_on-requires-clause-points c = fit_points_of (meaning c.in_ok-read.read.bound.model) c.in_ok-read.read.points _
    c.in_ok-read.ensures.points_accepted

pub returns-in_err-read-clause-answer : goal.returns-in_err-read-clause-answer
returns-in_err-read-clause-answer c =
    refused_answer _ _ _ c.from_residual.result _ c.from_residual.ensures.1 c.in_err-read.ensures.refused

pub returns-in-Ok : goal.returns-in-Ok
returns-in-Ok c =
    let m = meaning c.in_ok-read.read.bound.model in
    let v = c.in_ok-read.read.bound.vectors in
    let p = c.in_ok-read.read.points in
    let has = c.in_ok-read.ensures.vectors_accepted in
    let are = c.in_ok-read.ensures.points_accepted in
    let verdict = c.verdict_on.result in
    let answer : IsPointBoundAnswer c.args.model.now c.args.vectors.now c.args.points.now (Ok verdict) =
    (certificate_of m v p has are, verdict_of_each m v p has are verdict c.verdict_on.ensures.verdict) in
    record {
      answer = answer;
      promise = λ yes. yes_certified _ _ _ (subst (λ r. IsPointBoundAnswer c.args.model.now c.args.vectors.now c.args.points.now r) yes
          answer);
    }
