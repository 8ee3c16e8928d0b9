use Rattle.std.proofs.Common.{◌≡◌, ◌∙◌, ◌++◌, ◌∷◌, [], List, length, map, All, refl, sym, ap, subst, rules}
use Rattle.polcert_rules.proofs.Common.{Cell, Sparse, RowLocation, row_in}
use Rattle.polcert_rules.specs.Steps.Lists.{IsHeld}
use Rattle.polcert_rules.proofs.Indexes.ListLaws.{push_sparse, held_sparse}
use Rattle.polcert_rules.proofs.rows.StoredRows.push_cells.Goals as goal

pub returns : goal.returns
returns c =
    let xs = c.self.inside.cells.items in
    let ns = c.self.inside.numbers.items in
    let more = c.args.more.now in
    let p : RowLocation = record { start = c.in_ok-start.start; count = length more; form = Sparse } in
    ap (λ zs. map (row_in zs ns) c.push.new.self.items) c.in_ok-extend_from_slice.ensures.items
    ∙ ap (map (row_in (xs ++ more) ns)) c.in_ok-push.ensures.items
    ∙ push_sparse xs more ns _ p c.self.invariant refl (search rules) refl ∙ ap (λ rs. rs ++ more ∷ []) c.self.view_is

pub invariant_of-self-2 : goal.invariant_of-self-2
invariant_of-self-2 c =
    let xs = c.self.inside.cells.items in
    let ns = c.self.inside.numbers.items in
    let more = c.args.more.now in
    subst (λ zs. All (IsHeld zs ns) c.push.new.self.items) (sym c.in_ok-extend_from_slice.ensures.items)
    (subst (λ ps. All (IsHeld (xs ++ more) ns) ps) (sym c.in_ok-push.ensures.items)
    (held_sparse xs more ns _ c.self.invariant _ _ (search rules) refl))
