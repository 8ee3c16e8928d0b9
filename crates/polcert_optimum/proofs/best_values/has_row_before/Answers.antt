use Rattle.polcert_optimum.proofs.best_values.has_row_before.Goals as goal

pub returns-then-pair-gt0-clause-same : goal.returns-then-pair-gt0-clause-same
returns-then-pair-gt0-clause-same g c t e el =
    let m = g.C.Cells.table _ in
    c.is_same_row.ensures _ _ m.states t c.t_row.ensures
    c.t_row-then-pair-gt0.ensures e el
