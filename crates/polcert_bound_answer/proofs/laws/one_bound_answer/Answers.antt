use Rattle.std.proofs.Common.{rules}
use Rattle.polcert_answer.proofs.OneAnswer.{one_model_refusal}
use Rattle.polcert_bound_answer.proofs.OneAnswer.{one_verdict, no_refusal, model_first, one_refusal}
use Rattle.polcert_bound_answer.proofs.laws.one_bound_answer.Goals as goal

pub returns : goal.returns
returns c = search (rules, one_model_refusal, one_verdict, no_refusal, model_first, one_refusal)
