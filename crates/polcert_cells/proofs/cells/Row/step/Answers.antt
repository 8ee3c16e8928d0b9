use Rattle.std.proofs.Common.{◌≡◌, ◌∙◌, ◌<◌, rules, subst, slice_index}
use Rattle.polcert_cells.proofs.RowSteps.{step_sparse, end_sparse, step_filled, step_scaled, step_even, end_single, found_at, none_at}
use Rattle.polcert_cells.proofs.cells.Row.step.Goals as goal

pub returns-in-Some : goal.returns-in-Some
returns-in-Some c = λ f count is.
    let found = c.in-Some.ensures.lookup in
    step_sparse f count c.args.self.now is c.args.at c.in-Sparse.cells c.in-Some.cell.now c.step_of.result c.in-Sparse.is
    (found_at c.in-Sparse.cells.now c.args.at c.in-Some.cell.now found.3.0 found.3.1) c.step_of.ensures

pub returns-in-None : goal.returns-in-None
returns-in-None c = λ f count is.
    let none = c.in-None.ensures.lookup in
    end_sparse f count c.args.self.now is c.args.at c.in-Sparse.cells c.in-Sparse.is (none_at c.in-Sparse.cells.now c.args.at none.3)

pub returns-else-at-eq0 : goal.returns-else-at-eq0
returns-else-at-eq0 c = λ f count is. end_single f count c.args.self.now is c.args.at c.in-Single.cell c.in-Single.is c.if-at-eq0.false

pub returns-in-Filled : goal.returns-in-Filled
returns-in-Filled c = λ f count is.
    step_filled f count c.args.self.now is c.args.at c.in-Filled.weights c.first_weight.result c.in-Filled.is
    (λ are. c.first_weight.ensures f (λ k weight l post.
    let here : weight ≡ slice_index c.in-Filled.weights.now k = search rules in
    here ∙ are.each k (subst (λ n. k < n) are.size l)))

pub returns-in-Scaled : goal.returns-in-Scaled
returns-in-Scaled c = λ f count is. step_scaled f count c.args.self.now is c.args.at c.in-Scaled.numbers c.in-Scaled.scale
    c.scaled_step.result c.in-Scaled.is c.scaled_step.ensures

pub returns-in-Even : goal.returns-in-Even
returns-in-Even c = λ f count is. step_even f count c.args.self.now is c.args.at c.in-Even.weight c.in-Even.columns c.in-Even.exceptions
    c.even_step.result c.in-Even.is c.even_step.ensures
