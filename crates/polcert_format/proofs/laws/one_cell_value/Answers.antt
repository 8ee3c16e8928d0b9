use Rattle.polcert_cells.proofs.CellLaws as laws
use Rattle.polcert_format.proofs.laws.one_cell_value.Goals as goal

pub returns : goal.returns
returns c = λ entries table indices. (laws.last_is _ _ _, laws.last_is_one _ _ _)
