use Rattle.std.proofs.Common.{rules}
use Rattle.polcert_cells.specs.declared.cells.Row.TheVariants.{Scaled}
use Rattle.polcert_optimum.proofs.observation_sums.ObservationSums.add_end.Goals as goal

pub add_numbers-requires-clause-row : goal.add_numbers-requires-clause-row
add_numbers-requires-clause-row g c =
    let row = c.in-Some-Scaled in
    c.o_row.ensures (Scaled row.numbers _) (search rules)
