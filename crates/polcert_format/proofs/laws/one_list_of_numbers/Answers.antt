use Rattle.polcert_cells.proofs.NumberLaws as laws
use Rattle.polcert_format.proofs.laws.one_list_of_numbers.Goals as goal

pub returns : goal.returns
returns c = λ lexemes x y. laws.one_list
