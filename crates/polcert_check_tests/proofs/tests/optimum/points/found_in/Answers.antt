use Rattle.polcert_points_form.proofs.WrittenPoints.{all_values_read}
use Rattle.polcert_check_tests.proofs.tests.optimum.points.found_in.Goals as goal

pub found-requires : goal.found-requires
found-requires c = all_values_read 2 2 1 c.args.text.now c.in-Ok.points c.in-Ok.ensures.accepted
