use Rattle.polcert_rules.proofs.row_rules.RowRules.names_start.Goals as goal

pub returns : goal.returns
returns c told = c.name_the_start.ensures told _ _ _ c.fitting.ensures
