use Rattle.std.proofs.Common.{◌≡◌}
use Rattle.polcert_check.proofs.Common.{Scaled, Controller}
use Rattle.polcert_cells.specs.declared.cells.Row.TheVariants.{Even}
use Rattle.std.proofs.Common.{rules, refl, subst}
use Rattle.polcert_check.proofs.Common.{Row, IsRowOf, node_controller}
use Rattle.polcert_check.proofs.ends.EndValues.narrow_value.Goals as goal

pub value_of_numbers-requires-clause-row : goal.value_of_numbers-requires-clause-row
value_of_numbers-requires-clause-row g c =
    let k : Controller = node_controller c.args.node.now in
    let row = rw c.action.ensures.value at c.in-Some-Scaled.ensures in
    let is : c.in-Some-Scaled.field-0 ≡ Scaled c.in-Some-Scaled.numbers c.in-Some-Scaled.scale = search rules in
    subst (λ (r : Row). IsRowOf (k.cells.t (k.action c.args.node.now.n) c.args.s) k.cells.states r) is (row c.in-Some-Scaled.field-0 refl)

pub value_of_even-requires-clause-row : goal.value_of_even-requires-clause-row
value_of_even-requires-clause-row g c =
    let k : Controller = node_controller c.args.node.now in
    let row = rw c.action.ensures.value at c.in-Some-Even.ensures in
    let is : c.in-Some-Even.field-0 ≡ Even c.in-Some-Even.weight c.in-Some-Even.field-0-1 c.in-Some-Even.exceptions = search rules in (
      c.in-Some-Even.field-0-1,
      subst (λ (r : Row). IsRowOf (k.cells.t (k.action c.args.node.now.n) c.args.s) k.cells.states r) is (row c.in-Some-Even.field-0 refl),
    )
