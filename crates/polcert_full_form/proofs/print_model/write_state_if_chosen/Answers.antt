use Rattle.std.proofs.Common.{arith}
use Rattle.polcert_full_form.proofs.Printing.WrittenParts.{wrote_nothing}
use Rattle.polcert_full_form.proofs.print_model.write_state_if_chosen.Goals as goal

pub returns-then-start_weight-eq1 : goal.returns-then-start_weight-eq1
returns-then-start_weight-eq1 g c = grind arith

pub returns-else-start_weight-eq1 : goal.returns-else-start_weight-eq1
returns-else-start_weight-eq1 g c = wrote_nothing (grind arith)
