use Rattle.polcert_answer.proofs.Common.{Up, IsAboveVerdict, Yes}
use Rattle.polcert_check.proofs.Mirrors.OneAbove.{one_above_verdict}
use Rattle.polcert_answer.proofs.OneAnswer.{but_for_memory}
use Rattle.polcert_answer.proofs.Above.{yes_if_one_step, yes_if_certified}
use Rattle.polcert_answer.proofs.laws.certified_texts_above_are_answered_yes.Goals as goal

pub returns : goal.returns
returns c = record {
  one_step = yes_if_one_step;
  answered = yes_if_certified;
  no_other = λ model graph vectors certified.
      but_for_memory Up IsAboveVerdict one_above_verdict model graph vectors Yes (yes_if_certified model graph vectors certified);
}
