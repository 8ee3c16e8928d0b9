use Rattle.std.proofs.Common.{arith}
use Rattle.polcert_check.proofs.Common.{input_controller, checked_controller}
use Rattle.polcert_check.proofs.Mirrors.Sides.{sided_proper}
use Rattle.polcert_check.proofs.Walking.Walked.{nothing_found, all_walked}
use Rattle.polcert_check.proofs.survey.survey.Goals as goal

pub loop-a-init : goal.loop-a-init
loop-a-init g c = grind (arith, nothing_found)

pub returns-clause-found : goal.returns-clause-found
returns-clause-found g c =
    all_walked _ (sided_proper _ _
    c.args.input.now.proper).closed _ _ c.loop-a.invariant.found (omega (arith, c.actions-a-end.ensures))
