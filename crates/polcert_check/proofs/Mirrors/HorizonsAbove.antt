-- What a verdict from above says of the promise from above.
use Rattle.std.proofs.Common.{subst}
use Rattle.polcert_check.proofs.Common.{AboveVerdict, Above, Controller, IsAboveVerdict, MeetsHorizonAbove, mirrored, IsController}
use Rattle.polcert_check.proofs.Mirrors.FromAbove.{below_of, above_again, verdict_below, horizon_above}
use Rattle.polcert_check.proofs.Mirrors.Sides.{sided_proper}
use Rattle.polcert_check.proofs.Walking.Answering.{meets_horizon}

pub meets_horizon_above : (c : Controller) → IsController c → (verdict : AboveVerdict) → IsAboveVerdict c verdict
    → MeetsHorizonAbove c verdict
meets_horizon_above c proper verdict is =
    subst (λ (v : AboveVerdict). MeetsHorizonAbove c v) (above_again verdict)
    (horizon_above c (below_of verdict) (meets_horizon (mirrored c) (sided_proper Above c proper) (below_of verdict)
    (verdict_below c verdict is)))
