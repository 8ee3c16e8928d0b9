use Rattle.polcert_policy.specs.Vectors.{value_of}
use Rattle.polcert_points.proofs.charges.fill_charges.Goals as goal

pub loop-i-preserved : goal.loop-i-preserved
loop-i-preserved g c = c.lower_by_point.ensures (value_of c.args.vectors.now) c.loop-i.invariant
