use Rattle.polcert_answer.proofs.Common.{Down, IsVerdict}
use Rattle.polcert_check.proofs.Agreements.OneAnswer as checks
use Rattle.polcert_answer.proofs.OneAnswer as answers
use Rattle.polcert_answer.proofs.laws.one_answer.Goals as goal

pub returns : goal.returns
returns c = record {
  verdict = answers.has_one_verdict Down IsVerdict checks.one_verdict;
  first = answers.refuses_the_first Down IsVerdict checks.one_verdict;
  refusal = answers.has_one_refusal Down IsVerdict checks.one_verdict;
}
