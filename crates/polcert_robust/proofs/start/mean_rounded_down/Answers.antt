use Rattle.polcert_robust.proofs.StartMeans.{quotient_back}
use Rattle.polcert_robust.proofs.start.mean_rounded_down.Goals as goal

pub returns : goal.returns
returns c =
    let both = quotient_back _ _ _ c.requires.some c.requires.few c.requires.small c.ranges.mean
    c.div_euclid.ensures in
    record { floor = both.0; small = both.1 }
