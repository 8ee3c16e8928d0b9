use Rattle.std.proofs.Common.{◌∙◌, ◌*◌, ◌≤◌, List, length, sym, ap, subst}
use Rattle.polcert_items.proofs.Common.{body_of, nonzero_cells, most_covered, Place}
use Rattle.polcert_items.specs.Steps.CellBudget.{open_row_cells}
use Rattle.polcert_items.proofs.CoveringLaws.{covered_few, covered_fits}
use Rattle.polcert_items.proofs.model_so_far.covered_by.Goals as goal

pub overflow_mul-result-3 : goal.overflow_mul-result-3
overflow_mul-result-3 c =
    let a = c.args in
    let body = body_of a.entry.body in
    let written = c.as_slice-places.result.now in
    let few = subst (λ (ps : List Place). nonzero_cells body a.states (open_row_cells a.states a.columns (length ps)) ≤ a.states
    * a.columns)
    (sym c.as_slice-places.ensures) c.requires.nonzero_cells in
    let cells = c.nonzero_cells.ensures ∙ ap (nonzero_cells body a.states) c.open_cells-cells.ensures in
    covered_fits _ (subst (λ n. n ≤ most_covered) (λ i. sym c.count_elements.ensures i * sym c.count_elements-2.ensures i
    * sym c.count_elements-3.ensures i * sym cells i)
    (covered_few a.actions a.states a.columns written body c.requires.actions c.requires.states c.requires.columns few))

pub returns-clause-few : goal.returns-clause-few
returns-clause-few c =
    let a = c.args in
    let body = body_of a.entry.body in
    let written = c.as_slice-places.result.now in
    let few = subst (λ (ps : List Place). nonzero_cells body a.states (open_row_cells a.states a.columns (length ps)) ≤ a.states
    * a.columns)
    (sym c.as_slice-places.ensures) c.requires.nonzero_cells in
    let cells = c.nonzero_cells.ensures ∙ ap (nonzero_cells body a.states) c.open_cells-cells.ensures in
    subst (λ n. n ≤ most_covered) (λ i. sym c.count_elements.ensures i * sym c.count_elements-2.ensures i * sym c.count_elements-3.ensures i
    * sym cells i)
    (covered_few a.actions a.states a.columns written body c.requires.actions c.requires.states c.requires.columns few)
