use Rattle.std.proofs.Common.{to_z, of_z, to_z-of_z, arith}
use Rattle.polcert_bound_answer.proofs.Common.{subst⁻¹}
use Rattle.polcert_bound_answer.proofs.lines.line_of_verdict.Goals as goal

pub returns-in-Yes : goal.returns-in-Yes
returns-in-Yes c = grind (arith, to_z, of_z, to_z-of_z, subst⁻¹)

pub returns-in-Exceeded : goal.returns-in-Exceeded
returns-in-Exceeded c = grind (arith, to_z, of_z, to_z-of_z, subst⁻¹)
