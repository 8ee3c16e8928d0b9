use Rattle.std.proofs.Common.{to_z-of_z, arith, rules}
use Rattle.polcert_items.proofs.StartNumbers.{number_ends}
use Rattle.polcert_items.proofs.start_reader.FirstNumber.end.Goals as goal

pub returns-clause-said : goal.returns-clause-said
returns-clause-said c = grind (arith, to_z-of_z, number_ends)

pub returns-then-self-clause-kind : goal.returns-then-self-clause-kind
returns-then-self-clause-kind c = search rules
