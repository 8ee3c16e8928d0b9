use Rattle.std.proofs.Common.{Ok, subst}
use Rattle.polcert_bound_answer.proofs.Common.{meaning, table_of, value_of, IsBoundAnswer}
use Rattle.polcert_bound_answer.proofs.OneInformed.{meets}
use Rattle.polcert_bound_answer.proofs.OneAnswer.{refused_answer}
use Rattle.polcert_bound_answer.proofs.Denoted.{certificate_of, fit_of, verdict_of_each, table_proper, yes_certified}
use Rattle.polcert_bound_answer.proofs.answer.check_bound_texts.Goals as goal

pub check_informed-requires : goal.check_informed-requires
check_informed-requires c =
    fit_of (meaning c.in_ok-read.read.model) c.in_ok-read.read.vectors _ c.in_ok-read.ensures.vectors_accepted

pub returns-in_err-read-clause-answer : goal.returns-in_err-read-clause-answer
returns-in_err-read-clause-answer c =
    refused_answer _ _ c.from_residual.result _ c.from_residual.ensures.1 c.in_err-read.ensures.refused

pub returns : goal.returns
returns c =
    let m = meaning c.in_ok-read.read.model in
    let v = c.in_ok-read.read.vectors in
    let is = c.in_ok-read.ensures.model_accepted in
    let are = c.in_ok-read.ensures.vectors_accepted in
    let verdict = c.check_informed.result in
    let each = verdict_of_each m v is are verdict c.check_informed.ensures.verdict in
    let answer : IsBoundAnswer c.args.model.now c.args.vectors.now (Ok verdict) = (certificate_of m v is are, each) in
    record {
      answer = answer;
      promise = λ yes. yes_certified _ _ (subst (λ r. IsBoundAnswer c.args.model.now c.args.vectors.now r) yes answer);
      horizon = λ d. meets (table_of d.meaning) (value_of d.values) (table_proper d) verdict (each d);
    }
