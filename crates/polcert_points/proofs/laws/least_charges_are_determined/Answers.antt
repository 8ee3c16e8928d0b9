use Rattle.polcert_points.proofs.PointStartMosts.{same_charge}
use Rattle.polcert_points.proofs.laws.least_charges_are_determined.Goals as goal

pub returns : goal.returns
returns c = λ p vectors x y first second a s al sl. same_charge p vectors a s p.points.count (x a s) (y a s) (first a s al sl)
    (second a s al sl)
