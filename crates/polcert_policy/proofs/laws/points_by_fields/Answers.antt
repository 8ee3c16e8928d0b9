use Rattle.polcert_policy.proofs.PointFieldLaws.{by_fields}
use Rattle.polcert_policy.proofs.PointFieldsTaken.{from_fields}
use Rattle.polcert_policy.proofs.OnePointsRefusal.{fronts_begin}
use Rattle.polcert_policy.proofs.laws.points_by_fields.Goals as goal

pub returns : goal.returns
returns c = record { read = by_fields; fields = from_fields; fronts = fronts_begin }
