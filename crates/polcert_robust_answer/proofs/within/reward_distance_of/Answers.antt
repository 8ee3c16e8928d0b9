use Rattle.std.proofs.Common.{rules, to_z-of_z, w64, FitsSigned}
use Rattle.polcert_robust_answer.proofs.DistanceLaws.{some_distance, no_distance, none_refused}
use Rattle.polcert_robust_answer.proofs.within.reward_distance_of.Goals as goal

pub returns-in-Ok-clause-found : goal.returns-in-Ok-clause-found
returns-in-Ok-clause-found c =
    let fits : FitsSigned w64 c.in-Ok.value = search rules in
    some_distance c.args.text.now c.in-Ok.value c.small_distance.result c.in-Ok.ensures.value.0 c.in-Ok.ensures.value.1
    (rw (to_z-of_z {w = w64} fits) at c.small_distance.ensures.small)

pub returns-in-Ok-clause-none : goal.returns-in-Ok-clause-none
returns-in-Ok-clause-none c =
    let fits : FitsSigned w64 c.in-Ok.value = search rules in
    no_distance c.args.text.now c.in-Ok.value c.small_distance.result c.in-Ok.ensures.value.1
    (rw (to_z-of_z {w = w64} fits) at c.small_distance.ensures.large)

pub returns-in-Err-clause-none : goal.returns-in-Err-clause-none
returns-in-Err-clause-none c = none_refused c.args.text.now c.in-Err.field-0 c.in-Err.ensures.fault
