use Rattle.std.proofs.Common.{rules}
use Rattle.polcert_points_answer.proofs.lines.write_point_line.Goals as goal

pub returns-in-PointExceeded : goal.returns-in-PointExceeded
returns-in-PointExceeded g c = search rules
