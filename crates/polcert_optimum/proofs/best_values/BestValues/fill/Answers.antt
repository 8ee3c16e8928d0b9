use Rattle.std.proofs.Common.{arith}
use Rattle.polcert_optimum.proofs.best_values.BestValues.fill.Goals as goal

pub loop-next-init : goal.loop-next-init
loop-next-init g c = grind arith

pub loop-next-preserved : goal.loop-next-preserved
loop-next-preserved g c = grind arith
