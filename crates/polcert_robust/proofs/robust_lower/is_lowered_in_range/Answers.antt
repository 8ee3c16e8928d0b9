use Rattle.std.proofs.Common.{arith}
use Rattle.std.proofs.lemmas.Bool.{leb-true, le-leb}
use Rattle.std.proofs.lemmas.Int.{to_z-of_z}
use Rattle.polcert_check.proofs.Lowerings.Least.{low_fits, low_enough}
use Rattle.polcert_robust.proofs.robust_lower.is_lowered_in_range.Goals as goal

pub overflow_cast-result-2 : goal.overflow_cast-result-2
overflow_cast-result-2 c = grind arith

pub returns : goal.returns
returns c = grind (arith, leb-true, le-leb, to_z-of_z, low_fits, low_enough)
