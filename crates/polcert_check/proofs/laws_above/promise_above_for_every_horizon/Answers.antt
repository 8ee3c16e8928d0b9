use Rattle.std.proofs.Common.{rules}
use Rattle.polcert_check.proofs.Certificates.{controller_is}
use Rattle.polcert_check.proofs.Mirrors.FromAbove.{horizons_above, passes_if_promised_above}
use Rattle.polcert_check.proofs.laws_above.promise_above_for_every_horizon.Goals as goal

pub returns : goal.returns
returns c = search (rules, controller_is, horizons_above, passes_if_promised_above)
