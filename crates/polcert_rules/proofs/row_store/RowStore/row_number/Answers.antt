use Rattle.std.proofs.Common.{◌≡◌, ◌∙◌, ◌≤◌, ◌*◌, ◌==◌, List, length, refl, sym, ap, subst, arith, rules}
use Rattle.polcert_rules.proofs.Common.{one, Cell, weight_at, IsSparse, IsRow, stored_cells, weight_by_entries}
use Rattle.polcert_rules.proofs.Indexes.KeptLaws.{at_number, cells_row, row_within, numbers_stay, weighed_row}
use Rattle.polcert_rules.proofs.RowLaws.RowWeights.{finished, finished_small, shared_weights, newer_rises, newer_small, even_weights}
use Rattle.polcert_rules.proofs.row_store.RowStore.row_number.Goals as goal

pub common_weight-requires-clause-whole : goal.common_weight-requires-clause-whole
common_weight-requires-clause-whole c = c.requires.row.2.covering

pub common_weight-requires-clause-rise : goal.common_weight-requires-clause-rise
common_weight-requires-clause-rise c =
    newer_rises _ _ c.requires.row.0 c.requires.row.1 _ _
    _ c.requires.row.2 (c.as_slice-exceptions.ensures.value ∙ c.in_ok-newer.ensures c.args.state)

pub common_weight-requires-clause-small : goal.common_weight-requires-clause-small
common_weight-requires-clause-small c =
    newer_small _ _ c.requires.row.0 c.requires.row.1 _ _
    _ c.requires.row.2 (c.as_slice-exceptions.ensures.value ∙ c.in_ok-newer.ensures c.args.state)
    c.requires.within

pub returns-in-Some-clause-row : goal.returns-in-Some-clause-row
returns-in-Some-clause-row c table a h =
    even_weights _ _ _ a _ _
    _ h (c.as_slice-exceptions.ensures.value ∙ c.in_ok-newer.ensures c.args.state)
    _ _ _ c.in-Some.ensures.zeros c.in-Some.ensures.given c.in_ok-even.ensures.row

pub returns-then-is_empty-clause-row : goal.returns-then-is_empty-clause-row
returns-then-is_empty-clause-row c table a h =
    let size : length c.in_ok-newer.newer.items ≡ c.in_ok-newer.newer.len = search rules in
    shared_weights _ _ _ a _ _ _ h
    (c.in_ok-newer.ensures c.args.state) _ _
    (search rules) (ap (λ k. k == 0) size ∙ sym c.if-is_empty.ensures) c.in_ok-base.ensures.row

pub at-requires : goal.at-requires
at-requires c = row_within _ _ _ _ c.in_ok-base.ensures.row

pub cells_over-requires-clause-columns : goal.cells_over-requires-clause-columns
cells_over-requires-clause-columns c k d l =
    let sparse = at_number (IsSparse c.args.bodies.shape.columns) _ c.in_ok-base.base (stored_cells c.at.result)
    c.in_ok-base.ensures.kept.sparse c.at.ensures.cells in
    let within = sparse.within k d l in
    let few = c.requires.within.columns.1 in
    omega (arith, within, few)

pub own_row-requires-clause-near : goal.own_row-requires-clause-near
own_row-requires-clause-near c = (
  numbers_stay _ _ _ c.in_ok-base.ensures.stays c.requires.near.0,
  numbers_stay _ _ _ c.in_ok-base.ensures.stays c.requires.near.1,
)

pub own_row-requires-clause-sparse : goal.own_row-requires-clause-sparse
own_row-requires-clause-sparse c =
    let n = c.args.bodies.shape.columns in
    let below = cells_row n c.args.bodies.entries.now _ _ _ _ c.in_ok-base.ensures.kept c.in_ok-base.ensures.row
    c.at.ensures.cells in
    let row = finished _ c.args.bodies.entries.now c.requires.row.0 c.requires.row.1 _ _ _
    c.requires.row.2 (c.in_ok-newer.ensures c.args.state)
    _ _ _ _ below refl refl c.in_ok-cells.ensures in
    subst (IsSparse n) (sym c.as_slice.ensures.value) row.sparse

pub own_row-requires-clause-small : goal.own_row-requires-clause-small
own_row-requires-clause-small c i l =
    let n = c.args.bodies.shape.columns in
    let entries = c.args.bodies.entries.now in
    let below = cells_row n _ _ _ _ _ c.in_ok-base.ensures.kept c.in_ok-base.ensures.row
    c.at.ensures.cells in
    let row = finished _ _ c.requires.row.0 c.requires.row.1 _ _ _
    c.requires.row.2 (c.in_ok-newer.ensures c.args.state)
    _ _ _ _ below refl refl c.in_ok-cells.ensures in
    subst (λ xs. weight_at xs i ≤ one * n) (sym c.as_slice.ensures.value)
    (finished_small _ _ c.requires.row.0 c.requires.row.1 _ _ _
    c.requires.row.2 (c.in_ok-newer.ensures c.args.state) _ row i l)

pub returns-clause-stays : goal.returns-clause-stays
returns-clause-stays c n row e = c.in_ok-number.ensures.stays n row (c.in_ok-base.ensures.stays n row e)

pub returns-clause-row : goal.returns-clause-row
returns-clause-row c table a h =
    let n = c.args.bodies.shape.columns in
    let entries = c.args.bodies.entries.now in
    let below = cells_row n _ _ _ _ _ c.in_ok-base.ensures.kept c.in_ok-base.ensures.row
    c.at.ensures.cells in
    let row = finished _ _ _ a _ _ _ h
    (c.in_ok-newer.ensures c.args.state)
    _ _ _ _ below refl refl c.in_ok-cells.ensures in
    weighed_row n entries _ _ _ _ c.in_ok-number.ensures.row
    (subst (λ xs. IsRow n (weight_by_entries n entries table a c.args.state) xs) (sym c.as_slice.ensures.value) row)
