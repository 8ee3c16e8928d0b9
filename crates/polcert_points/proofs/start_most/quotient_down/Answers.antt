use Rattle.polcert_points.proofs.PointStartMosts.{floor_back}
use Rattle.polcert_points.proofs.start_most.quotient_down.Goals as goal

pub returns-clause-floor : goal.returns-clause-floor
returns-clause-floor c = (floor_back c.args.sum c.args.total c.div_euclid.result c.requires.some c.requires.few c.requires.small
    c.ranges.sum c.div_euclid.ensures).0
