use Rattle.std.proofs.Common.{◌≡◌, ◌*◌, ◌<◌, subst, sym}
use Rattle.polcert_rules.proofs.Common.{IsSparse, stored_cells, sum_of_weights, one}
use Rattle.polcert_rules.specs.RowTables.{RowTable}
use Rattle.polcert_rules.proofs.Indexes.KeptLaws.{at_number, scale_at}
use Rattle.polcert_rules.proofs.rows.Rows.stored_row.Goals as goal

pub returns-clause-sparse : goal.returns-clause-sparse
returns-clause-sparse c =
    subst (λ t. IsSparse t.columns (stored_cells c.at-2.result)) c.self.view_is
    (at_number (IsSparse c.self.inside.shape.columns) _ _ _ c.self.invariant.2
    c.at-2.ensures.cells)

pub returns-clause-proper : goal.returns-clause-proper
returns-clause-proper c =
    subst (λ t. sum_of_weights (stored_cells c.at-2.result) ≡ one * t.columns) c.self.view_is
    (scale_at _ _ _ _ _ _
    _ c.self.invariant.3 (subst (λ t. c.args.action < t.actions) (sym c.self.view_is) c.requires.action)
    (subst (λ t. c.args.state < t.states) (sym c.self.view_is) c.requires.state) c.at.ensures c.at-2.ensures.cells)
