use Rattle.std.proofs.Common.{◌≡◌, ◌∙◌, ◌+◌, ◌++◌, ◌∷◌, [], List, length, map, All, refl, sym, ap, subst, rules, add-one}
use Rattle.std.proofs.lemmas.List.{append_assoc}
use Rattle.polcert_rules.proofs.Common.{Cell, RowLocation, row_in}
use Rattle.polcert_cells.proofs.SparseLaws.{cell_of}
use Rattle.polcert_cells.specs.Sparse.{excepted_weight}
use Rattle.polcert_rules.specs.Steps.Lists.{IsHeld, filled_cells}
use Rattle.polcert_rules.specs.declared.rows.RowForm.TheVariants.{Even}
use Rattle.polcert_rules.proofs.Indexes.ListLaws.{push_even, held_even}
use Rattle.polcert_rules.proofs.rows.StoredRows.push_even.Goals as goal

pub invariant_of-self-2 : goal.invariant_of-self-2
invariant_of-self-2 c =
    let xs = c.self.inside.cells.items in
    let ns = c.self.inside.numbers.items in
    let first = cell_of c.args.columns c.args.weight in
    let more = first ∷ c.args.exceptions.now in
    subst (λ zs. All (IsHeld zs ns) c.push-2.new.self.items)
    (sym (c.in_ok-extend_from_slice.ensures.items ∙ ap (λ zs. zs ++ c.args.exceptions.now) c.in_ok-push.ensures.items
    ∙ append_assoc xs (first ∷ []) c.args.exceptions.now))
    (subst (λ ps. All (IsHeld (xs ++ more) ns) ps) (sym c.in_ok-push-2.ensures.items)
    (held_even xs more ns _ c.self.invariant _ _ (search rules)
    (add-one (length c.args.exceptions.now)) c.requires.exceptions))

pub returns : goal.returns
returns c =
    let xs = c.self.inside.cells.items in
    let ns = c.self.inside.numbers.items in
    let first = cell_of c.args.columns c.args.weight in
    let more = first ∷ c.args.exceptions.now in
    let p : RowLocation = record { start = c.in_ok-start.start; count = length c.args.exceptions.now + 1; form = Even } in
    let start : c.in_ok-start.start ≡ length xs = search rules in
    let longer : c.extend_from_slice.new.self.items ≡ xs ++ more = c.in_ok-extend_from_slice.ensures.items
    ∙ ap (λ zs. zs ++ c.args.exceptions.now) c.in_ok-push.ensures.items ∙ append_assoc xs _ _ in
    ap (λ zs. map (row_in zs ns) c.push-2.new.self.items) longer
    ∙ ap (map (row_in (xs ++ more) ns)) c.in_ok-push-2.ensures.items
    ∙ push_even xs more ns _ p c.self.invariant refl start (add-one (length c.args.exceptions.now))
    ∙ ap (λ rs. rs ++ filled_cells (excepted_weight c.args.weight c.args.exceptions.now) c.args.columns ∷ []) c.self.view_is
