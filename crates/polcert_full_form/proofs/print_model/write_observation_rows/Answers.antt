use Rattle.std.proofs.Common.{arith}
use Rattle.polcert_full_form.proofs.Printing.WrittenParts.{wrote_nothing}
use Rattle.polcert_full_form.proofs.print_model.write_observation_rows.Goals as goal

pub returns-then-is_mdp : goal.returns-then-is_mdp
returns-then-is_mdp g c = wrote_nothing (cc)

pub returns-else-is_mdp : goal.returns-else-is_mdp
returns-else-is_mdp g c = grind arith
