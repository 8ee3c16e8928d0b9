use Rattle.std.proofs.Common.{◌∙◌, ◌*◌, ◌==◌, ◌∷◌, ◌++◌, [], refl, ap, arith}
use Rattle.polcert_rules.proofs.Common.{most_elements, one, weight_at}
use Rattle.polcert_rules.proofs.RowLaws.SumLaws.{sum_is, sum_small, sparse_few}
use Rattle.polcert_rules.proofs.row_store.RowStore.keep.Goals as goal

pub row_sum-requires : goal.row_sum-requires
row_sum-requires c =
    let cells = c.args.cells.now in
    let n = c.args.columns in
    let few = c.requires.few in
    let small = sum_small (weight_at cells) (one * most_elements) n (λ i l. let h = c.requires.small i l in omega arith) in
    let same = sum_is n cells c.requires.sparse in
    omega (arith, small, same, few)

pub returns-clause-kept : goal.returns-clause-kept
returns-clause-kept c = record {
  rows_are = c.in_ok-push_cells.ensures;
  tests_are = c.in_ok-push.ensures.items ∙ ap (λ t. c.args.self.now.proper.items ++ (t == one * c.args.columns) ∷ []) c.row_sum.ensures;
  common_are = refl;
}

pub push_cells-requires : goal.push_cells-requires
push_cells-requires c = omega (arith, sparse_few c.args.columns c.args.cells.now c.requires.sparse, c.requires.few)
