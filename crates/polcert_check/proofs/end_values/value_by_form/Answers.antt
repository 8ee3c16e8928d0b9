use Rattle.std.proofs.Common.{◌≡◌}
use Rattle.polcert_check.proofs.Common.{Controller}
use Rattle.polcert_cells.specs.declared.cells.Row.TheVariants.{Sparse}
use Rattle.std.proofs.Common.{rules, subst}
use Rattle.polcert_check.proofs.Common.{Row, IsRowOf, node_controller}
use Rattle.polcert_check.proofs.end_values.value_by_form.Goals as goal

pub value_of_cells-requires-clause-row : goal.value_of_cells-requires-clause-row
value_of_cells-requires-clause-row g c =
    let k : Controller = node_controller c.args.node.now in
    let is : c.in-Some-Sparse.field-0 ≡ Sparse c.in-Some-Sparse.cells = search rules in
    subst (λ (r : Row). IsRowOf (k.cells.t (k.action c.args.node.now.n) c.args.s) k.cells.states r) is
    (c.requires.row c.in-Some-Sparse.field-0 (search rules))
