use Rattle.polcert_cells.specs.Sparse.{excepted_weight}
use Rattle.polcert_rules.proofs.RowLaws.EvenLaws.{filled_row}
use Rattle.polcert_rules.proofs.Indexes.KeptLaws.{after_stays, after_kept, after_row}
use Rattle.polcert_rules.proofs.row_store.RowStore.even_row.Goals as goal

pub returns-clause-stays : goal.returns-clause-stays
returns-clause-stays c = after_stays _ c.args.bodies.entries.now _ _ _ c.in_ok-keep_even.ensures.kept

pub returns-clause-kept : goal.returns-clause-kept
returns-clause-kept c =
    let row = filled_row _ _ in
    after_kept _ _ _ _ _ c.in_ok-keep_even.ensures.kept row.sparse c.requires.kept

pub returns-clause-row : goal.returns-clause-row
returns-clause-row c = after_row _ c.args.bodies.entries.now _ _ _ _ c.in_ok-keep_even.ensures.kept c.in_ok-keep_even.ensures.number
