use Rattle.polcert_answer.proofs.Common.{Up, IsAboveVerdict}
use Rattle.polcert_check.proofs.Mirrors.OneAbove.{one_above_verdict}
use Rattle.polcert_answer.proofs.OneAnswer as answers
use Rattle.polcert_answer.proofs.laws.one_answer_above.Goals as goal

pub returns : goal.returns
returns c = record {
  verdict = answers.has_one_verdict Up IsAboveVerdict one_above_verdict;
  first = answers.refuses_the_first Up IsAboveVerdict one_above_verdict;
  refusal = answers.has_one_refusal Up IsAboveVerdict one_above_verdict;
}
