use Rattle.std.proofs.Common.{List, refl, sym, subst}
use Rattle.polcert_rules.proofs.Common.{RowOrigin, SharedRow, IsFrom, IsShared}
use Rattle.polcert_rules.proofs.Indexes.KeptLaws.{from_row, known_row, weighed_row, after_stays, after_kept, after_row, one_more_common}
use Rattle.polcert_rules.proofs.row_store.RowStore.shared_row.Goals as goal

pub returns-in-Some-clause-row : goal.returns-in-Some-clause-row
returns-in-Some-clause-row c =
    let k = c.args.self.now in
    let here = subst (λ xs. IsShared xs c.origin_of-source.result c.in-Some.number) c.as_slice.ensures.value
    c.in-Some.ensures in
    known_row _ _ _ _ _ k c.requires.kept (subst (λ (x : RowOrigin). IsShared k.shared.items x c.in-Some.number) c.origin_of-source.ensures
    here)

pub returns-clause-stays : goal.returns-clause-stays
returns-clause-stays c =
    let added = c.in_ok-number.ensures.kept in
    after_stays _ c.args.bodies.entries.now _ _ _ added.kept

pub returns-clause-kept : goal.returns-clause-kept
returns-clause-kept c =
    let n = c.args.bodies.shape.columns in
    let entries = c.args.bodies.entries.now in
    let added = c.in_ok-number.ensures.kept in
    let cells = added.cells in
    one_more_common n _ _ _ _ refl refl c.in_ok-push.ensures.items
    (record {
      row = cells;
      is = after_row n entries _ _ _ _ added.kept c.in_ok-number.ensures.number;
      made =
          subst (λ (x : RowOrigin). IsFrom n entries x cells) (sym c.origin_of-source.ensures)
          (from_row n entries c.args.whole c.args.state cells added.row);
    })
    (after_kept n entries cells _ _ added.kept added.row.sparse c.requires.kept)

pub returns-clause-row : goal.returns-clause-row
returns-clause-row c =
    let n = c.args.bodies.shape.columns in
    let added = c.in_ok-number.ensures.kept in
    weighed_row n c.args.bodies.entries.now _ _ _ _
    (after_row n c.args.bodies.entries.now _ _ _ _ added.kept c.in_ok-number.ensures.number) added.row
