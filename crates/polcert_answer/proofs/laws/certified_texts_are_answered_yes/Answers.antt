use Rattle.polcert_answer.proofs.Common.{Down, IsVerdict}
use Rattle.polcert_check.specs.declared.survey.Verdict.TheVariants.{Yes}
use Rattle.polcert_check.proofs.Agreements.OneAnswer.{one_verdict}
use Rattle.polcert_answer.proofs.OneAnswer.{but_for_memory}
use Rattle.polcert_answer.proofs.Below.{yes_if_one_step, yes_if_certified}
use Rattle.polcert_answer.proofs.laws.certified_texts_are_answered_yes.Goals as goal

pub returns : goal.returns
returns c = record {
  one_step = yes_if_one_step;
  answered = yes_if_certified;
  no_other = λ model graph vectors certified.
      but_for_memory Down IsVerdict one_verdict model graph vectors Yes (yes_if_certified model graph vectors certified);
}
