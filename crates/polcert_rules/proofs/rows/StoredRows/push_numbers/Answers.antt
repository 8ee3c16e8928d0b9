use Rattle.std.proofs.Common.{◌≡◌, ◌∙◌, ◌++◌, ◌∷◌, [], length, map, refl, ap, rules}
use Rattle.polcert_rules.proofs.Common.{scaled_cells, Full, RowLocation, row_in}
use Rattle.polcert_rules.proofs.Indexes.ListLaws.{push_full}
use Rattle.polcert_rules.proofs.rows.StoredRows.push_numbers.Goals as goal

pub returns : goal.returns
returns c =
    let xs = c.self.inside.cells.items in
    let ns = c.self.inside.numbers.items in
    let more = c.args.more.now in
    let p : RowLocation = record { start = c.in_ok-start.start; count = length more; form = Full } in
    ap (λ zs. map (row_in xs zs) c.push.new.self.items) c.in_ok-extend_from_slice.ensures.items
    ∙ ap (map (row_in xs (ns ++ more))) c.in_ok-push.ensures.items
    ∙ push_full xs ns more _ p c.self.invariant refl (search rules) refl
    ∙ ap (λ rs. rs ++ scaled_cells (length more) 0 more ∷ []) c.self.view_is
