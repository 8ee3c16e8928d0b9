use Rattle.polcert_check.proofs.Horizons.EveryHorizon.{promised, passes_if_promised}
use Rattle.polcert_check.proofs.laws.promise_for_every_horizon.Goals as goal

pub returns : goal.returns
returns c = record { promised = promised; only_then = passes_if_promised }
