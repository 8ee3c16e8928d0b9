use Rattle.std.proofs.Common.{◌≡◌}
use Rattle.polcert_check.proofs.Common.{Scaled, Controller}
use Rattle.std.proofs.Common.{rules, refl, subst}
use Rattle.polcert_check.proofs.Common.{Row, IsRowOf, node_controller}
use Rattle.polcert_check.proofs.end_values.complete_value.Goals as goal

pub complete_value_of_numbers-requires-clause-row : goal.complete_value_of_numbers-requires-clause-row
complete_value_of_numbers-requires-clause-row g c =
    let k : Controller = node_controller c.args.node.now in
    let row = rw c.action.ensures.value at c.in-Some-Scaled.ensures in
    let is : c.in-Some-Scaled.field-0 ≡ Scaled c.in-Some-Scaled.numbers c.in-Some-Scaled.scale = search rules in
    subst (λ (r : Row). IsRowOf (k.cells.o (k.action c.args.node.now.n) c.args.e) k.cells.observations r) is
    (row c.in-Some-Scaled.field-0 refl)
