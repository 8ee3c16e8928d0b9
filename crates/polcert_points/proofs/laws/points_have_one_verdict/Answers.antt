use Rattle.polcert_points.proofs.OnePoints.{one_point_verdict, one_point_most}
use Rattle.polcert_points.proofs.laws.points_have_one_verdict.Goals as goal

pub returns : goal.returns
returns c = record { verdict = one_point_verdict; most = one_point_most }
