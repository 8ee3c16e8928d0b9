use Rattle.std.proofs.Common.{◌∙◌, ◌≤◌, ◌*◌, ◌==◌, ◌∷◌, ◌++◌, [], length, refl, sym, ap, arith}
use Rattle.std.proofs.Math.Nat.{mul-le-mul}
use Rattle.polcert_rules.proofs.Common.{one, most_elements}
use Rattle.polcert_rules.proofs.RowLaws.SumLaws.{total_scaled, sum_most}
use Rattle.polcert_rules.proofs.row_store.RowStore.keep_numbers.Goals as goal

pub numbers_sum-requires : goal.numbers_sum-requires
numbers_sum-requires c =
    let most = sum_most _ c.requires.small in
    omega (arith, most, c.requires.few)

pub overflow_mul-numbers_sum : goal.overflow_mul-numbers_sum
overflow_mul-numbers_sum c =
    let most = sum_most _ c.requires.small in
    let a : c.numbers_sum.result ≤ one * most_elements = omega (arith, most, c.requires.few, c.numbers_sum.ensures) in
    let b : length c.args.numbers.now ≤ most_elements = c.requires.few in
    omega (arith, mul-le-mul {n₂ = one * most_elements} {m₂ = most_elements} a b)

pub returns-clause-kept : goal.returns-clause-kept
returns-clause-kept c =
    let ns = c.args.numbers.now in
    let n = length ns in
    record {
      rows_are = c.in_ok-push_numbers.ensures;
      tests_are =
          c.in_ok-push.ensures.items ∙ ap (λ t. c.args.self.now.proper.items ++ (t * n == one * n) ∷ []) c.numbers_sum.ensures
          ∙ ap (λ t. c.args.self.now.proper.items ++ (t == one * n) ∷ []) (sym (total_scaled n 0 ns));
      common_are = refl;
    }
