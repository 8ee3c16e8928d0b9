use Rattle.polcert_rules.proofs.RowLaws.ZeroLaws.{row_newest, none_newest}
use Rattle.polcert_rules.proofs.zeros.row_zeros.Goals as goal

pub returns-else-is_empty-2-clause-newest : goal.returns-else-is_empty-2-clause-newest
returns-else-is_empty-2-clause-newest c action column each small =
    row_newest _ _ _ _ _ _ c.requires.low c.requires.state c.requires.shared each c.first_column.ensures.is c.of-of_state.ensures _ small

pub returns-then-is_empty-2-clause-newest : goal.returns-then-is_empty-2-clause-newest
returns-then-is_empty-2-clause-newest c action column each small =
    none_newest _ _ _ (c.is_empty-2.ensures c.if-is_empty-2.true _)
    (row_newest _ _ _ _ _ _ c.requires.low c.requires.state c.requires.shared each c.first_column.ensures.is c.of-of_state.ensures _ small)
