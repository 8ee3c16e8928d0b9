use Rattle.polcert_points_form.proofs.RowWalks.{start_of_row, step_from}
use Rattle.polcert_points_form.proofs.row_walk.first_step.Goals as goal

pub returns : goal.returns
returns c = step_from _ _ c.args.row 0 0 c.step.result (start_of_row c.args.row) (c.step.ensures _ _ c.requires.row)
