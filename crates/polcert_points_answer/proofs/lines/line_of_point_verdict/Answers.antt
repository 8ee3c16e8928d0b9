use Rattle.std.proofs.Common.{to_z, of_z, to_z-of_z, arith}
use Rattle.std.proofs.Math.Path.{subst⁻¹}
use Rattle.polcert_points_answer.proofs.lines.line_of_point_verdict.Goals as goal

pub returns-in-VectorExceeded : goal.returns-in-VectorExceeded
returns-in-VectorExceeded c = grind (arith, to_z, of_z, to_z-of_z, subst⁻¹)
