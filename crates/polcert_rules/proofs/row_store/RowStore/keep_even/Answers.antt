use Rattle.std.proofs.Common.{◌∙◌, ◌*◌, ◌==◌, ◌∷◌, ◌++◌, [], Bool, refl, ap, sym, arith}
use Rattle.polcert_cells.specs.Sparse.{excepted_weight}
use Rattle.polcert_rules.proofs.Common.{one}
use Rattle.polcert_rules.proofs.Keyed.Fitting.{equal_numbers}
use Rattle.polcert_rules.proofs.RowLaws.EvenLaws.{filled_sum, few}
use Rattle.polcert_rules.proofs.row_store.RowStore.keep_even.Goals as goal

pub returns-clause-kept : goal.returns-clause-kept
returns-clause-kept c =
    let n = c.args.columns in
    record {
      rows_are = c.in_ok-push_even.ensures;
      tests_are =
          c.in_ok-push.ensures.items
          ∙ ap (λ t. c.args.self.now.proper.items ++ t ∷ [])
          (sym (ap (λ k. k == one * n) (filled_sum (excepted_weight c.args.weight c.args.exceptions.now) n ∙ c.requires.exceptions.proper)
          ∙ equal_numbers _));
      common_are = refl;
    }

pub push_even-requires-clause-few : goal.push_even-requires-clause-few
push_even-requires-clause-few c =
    let count = few 0 _ _ c.requires.exceptions.rise (omega arith) in
    omega (arith, count, c.requires.few)
