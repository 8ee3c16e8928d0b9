use Rattle.polcert_cells.proofs.CellLaws as laws
use Rattle.polcert_format.proofs.laws.one_more_entry.Goals as goal

pub returns : goal.returns
returns c = record { weight = laws.one_more_weight; reward = laws.one_more_reward }
