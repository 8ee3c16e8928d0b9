use Rattle.std.proofs.Common.{rules}
use Rattle.polcert_check.proofs.Walking.Marking.{still_marked, one_marked}
use Rattle.polcert_check.proofs.end_values.ReachedStates.mark.Goals as goal

pub loop-end-preserved : goal.loop-end-preserved
loop-end-preserved g c = search (rules, still_marked, one_marked)
