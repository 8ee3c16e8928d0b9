use Rattle.std.proofs.Common.{arith}
use Rattle.polcert_cells.proofs.cells.scaled.Goals as goal

pub overflow_mul-result : goal.overflow_mul-result
overflow_mul-result c = grind arith
