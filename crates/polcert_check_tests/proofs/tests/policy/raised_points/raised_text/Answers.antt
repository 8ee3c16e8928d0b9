use Rattle.polcert_points_form.proofs.WrittenPoints.{all_values_read}
use Rattle.polcert_check_tests.proofs.tests.policy.raised_points.raised_text.Goals as goal

pub raised_to-requires : goal.raised_to-requires
raised_to-requires c = all_values_read 2 2 1 c.args.text.now c.in-Ok.points c.in-Ok.ensures.accepted
