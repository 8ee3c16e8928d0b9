use Rattle.std.proofs.Common.{rules}
use Rattle.polcert_bound_answer.proofs.Denoted.{yes_if_certified}
use Rattle.polcert_bound_answer.proofs.OneAnswer.{but_for_memory}
use Rattle.polcert_bound_answer.proofs.laws.certified_bounds_are_answered_yes.Goals as goal

pub returns : goal.returns
returns c = search (rules, yes_if_certified, but_for_memory)
