use Rattle.std.proofs.Common.{rules, arith, ℕ, ℤ, pos, ◌*ℤ◌, slice_index, slice_index_or, to_z}
use Rattle.polcert_check.proofs.Common.{w128}
use Rattle.polcert_check.proofs.Walking.Products.{product_more}
use Rattle.polcert_check.proofs.ends.sum_of_products.Goals as goal

pub overflow_add-sum : goal.overflow_add-sum
overflow_add-sum c =
    let f : ℕ → ℤ = λ i. pos (slice_index c.args.numbers.now i) *ℤ slice_index_or c.args.values.now i (pos 0) in
    (product_more f _ _ c.product-sum.result c.loop-i.invariant.sum c.loop-i.invariant.small
    (omega (arith, c.loop-i-test.true, c.requires.few)) (search rules) (search rules) c.product-sum.ensures.small).0

pub loop-i-preserved : goal.loop-i-preserved
loop-i-preserved c =
    let f : ℕ → ℤ = λ i. pos (slice_index c.args.numbers.now i) *ℤ slice_index_or c.args.values.now i (pos 0) in
    let more = product_more f _ _ c.product-sum.result c.loop-i.invariant.sum c.loop-i.invariant.small
    (omega (arith, c.loop-i-test.true, c.requires.few)) (search rules) (search rules) c.product-sum.ensures.small in
    record { sum = more.1; small = more.2 }
