use Rattle.std.proofs.Common.{rules}
use Rattle.polcert_text.proofs.Printing.Written.{and_then, unwritten, stopped}
use Rattle.polcert_points_form.proofs.print_points.write_point.Goals as goal

pub returns-in_err-write_point_number : goal.returns-in_err-write_point_number
returns-in_err-write_point_number g c = stopped (search rules) (unwritten _ c.in_err-write_point_number.ensures)

pub returns-in_err-write_weights : goal.returns-in_err-write_weights
returns-in_err-write_weights g c = stopped (search rules)
    (and_then c.in_ok-write_point_number.ensures (unwritten _ c.in_err-write_weights.ensures))

pub returns : goal.returns
returns g c = and_then c.in_ok-write_point_number.ensures (and_then c.in_ok-write_weights.ensures c.write_actions.ensures)
