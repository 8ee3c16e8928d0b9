use Rattle.polcert_check.proofs.Common.{value_of, controller_of}
use Rattle.polcert_check.proofs.Certificates.{controller_is}
use Rattle.polcert_check.proofs.Sums.Scales.{scales}
use Rattle.polcert_check.proofs.Walking.Verdicts.{positive_product}
use Rattle.polcert_check.proofs.Mirrors.Interval.{never_above}
use Rattle.polcert_check.proofs.laws_above.bounds_are_an_interval.Goals as goal

pub returns : goal.returns
returns c = λ x graph high proper limits known fits_high above less low fits_low below n s nl sl.
    let both = scales x limits in
    never_above _ (controller_is x graph high fits_high proper known) above (value_of low) below less
    (positive_product _ _ both.0 both.1) n s nl sl
