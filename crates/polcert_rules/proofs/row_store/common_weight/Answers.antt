use Rattle.std.proofs.Common.{◌∙◌, ℕ, ◌+◌, ◌-◌, ◌≤◌, ◌*◌, length, ap, sym, subst, arith}
use Rattle.std.proofs.Math.Nat.{mul-le-mul}
use Rattle.polcert_rules.proofs.Common.{one, most_elements}
use Rattle.polcert_rules.proofs.Indexes.KeptLaws.{whole_small}
use Rattle.polcert_rules.proofs.RowLaws.EvenLaws.{excepted_scale}
use Rattle.polcert_rules.proofs.row_store.common_weight.Goals as goal

product_small : (w n others : ℕ) → w ≤ one * n → others ≤ n → n ≤ most_elements → w * others ≤ one * most_elements * most_elements
product_small w n others small l few = mul-le-mul {n₂ = one * most_elements} {m₂ = most_elements} (omega arith) (omega arith)

pub overflow_mul-weight : goal.overflow_mul-weight
overflow_mul-weight c =
    let n = c.args.bodies.shape.columns in
    let small : c.in-Some.weight ≤ one * n = subst (λ k. k ≤ one * n) (c.in-Some.ensures 0 0)
    (whole_small c.args.bodies.shape c.args.bodies.entries.now c.args.row.now.whole 0 0 c.requires.within c.requires.whole) in
    let product = product_small c.in-Some.weight n (n - length c.args.newer.now) small (omega arith) c.requires.within.columns.1 in
    omega (arith, product)

pub overflow_add-weight : goal.overflow_add-weight
overflow_add-weight c =
    let n = c.args.bodies.shape.columns in
    let small : c.in-Some.weight ≤ one * n = subst (λ k. k ≤ one * n) (c.in-Some.ensures 0 0)
    (whole_small c.args.bodies.shape c.args.bodies.entries.now c.args.row.now.whole 0 0 c.requires.within c.requires.whole) in
    let product = product_small c.in-Some.weight n (n - length c.args.newer.now) small (omega arith) c.requires.within.columns.1 in
    let sum = c.row_sum.ensures in
    let few = c.requires.small in
    omega (arith, product, sum, few)

pub returns-then-weight-others-clause-exceptions : goal.returns-then-weight-others-clause-exceptions
returns-then-weight-others-clause-exceptions c =
    let n = c.args.bodies.shape.columns in
    let xs = c.args.newer.now in
    record {
      small = subst (λ k. k ≤ one * n) (c.in-Some.ensures 0 0) (whole_small _ _ _ 0 0 c.requires.within c.requires.whole);
      rise = c.requires.rise;
      proper = excepted_scale _ n _ xs c.requires.rise
          (ap (λ k. c.in-Some.weight * (n - length xs) + k) (sym c.row_sum.ensures) ∙ c.if-weight-others.true);
    }
