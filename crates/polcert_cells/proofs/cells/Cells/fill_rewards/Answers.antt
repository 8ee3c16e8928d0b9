use Rattle.std.proofs.Common.{rules}
use Rattle.polcert_cells.proofs.cells.Cells.fill_rewards.Goals as goal

pub loop-i-preserved : goal.loop-i-preserved
loop-i-preserved g c = search rules
