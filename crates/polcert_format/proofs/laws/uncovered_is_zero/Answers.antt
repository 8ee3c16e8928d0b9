use Rattle.polcert_cells.proofs.CellLaws as laws
use Rattle.polcert_format.proofs.laws.uncovered_is_zero.Goals as goal

pub returns : goal.returns
returns c = record { weight = laws.uncovered_weight; reward = laws.uncovered_reward }
