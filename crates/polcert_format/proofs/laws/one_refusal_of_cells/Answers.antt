use Rattle.polcert_format.proofs.CellLimits as laws
use Rattle.polcert_format.proofs.laws.one_refusal_of_cells.Goals as goal

pub returns-clause-wrong : goal.returns-clause-wrong
returns-clause-wrong c = laws.too_much_wrong

pub returns-clause-possible : goal.returns-clause-possible
returns-clause-possible c = laws.too_much_possible

pub returns-clause-one : goal.returns-clause-one
returns-clause-one c = laws.one_limit_passed

pub returns-clause-undecided : goal.returns-clause-undecided
returns-clause-undecided c = laws.limit_undecided

pub returns-clause-only : goal.returns-clause-only
returns-clause-only c = laws.only_limit
