use Rattle.polcert_format.proofs.CellLimits as laws
use Rattle.polcert_format.proofs.laws.small_models_are_within_limits.Goals as goal

pub returns-clause-pairs : goal.returns-clause-pairs
returns-clause-pairs c = laws.few_pairs

pub returns-clause-cells : goal.returns-clause-cells
returns-clause-cells c = laws.printable_cells
