use Rattle.std.proofs.Common.{rules}
use Rattle.polcert_check.proofs.Mirrors.SameAbove as same
use Rattle.polcert_check.proofs.laws_above.same_models_same_answers_above.Goals as goal

pub returns : goal.returns
returns c = search (rules, same.same_start_most, same.same_start_promise_above)
