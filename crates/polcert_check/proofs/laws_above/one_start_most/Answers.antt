use Rattle.polcert_check.proofs.Mirrors.OneAbove as one
use Rattle.polcert_check.proofs.laws_above.one_start_most.Goals as goal

pub returns : goal.returns
returns c = one.one_start_most
